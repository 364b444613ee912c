-- How an update begins, over every host.
use Rattle.std.proofs.Common.{◌≡◌, inl, ℕ, List, [], Option, Some, None, refl, sym, ap, subst, ◌∙◌, append-nil, arith, length, Err}
use Rattle.std.specs.List.{Contains}
use Rattle.b2_host.specs.declared.fault.IoFault.{IoFault}
use Rattle.b2_host.specs.declared.fault.IoFault.TheVariants as io
use Rattle.b2_host.specs.Faults.{IoFaultTold}
use Rattle.b2_host.specs.Disks.{Disk}
use Rattle.b2_host.specs.ChildProcesses.{Family, Child}
use Rattle.b2_host.specs.Output.{Output}
use Rattle.b2_host.specs.OutputLaws.{out_keeps_same}
use Rattle.b2_host.specs.LogChanges.{ChangesOnlyLog, keeps_log_changes}
use Rattle.b2_plan.specs.declared.plan.Plan.{Plan}
use Rattle.b2_runs.specs.Events.{ShortTold}
use Rattle.b2_runs.specs.PlanChildren.{AreOfOpenSteps, ArePlanChildren}
use Rattle.b2_runs.specs.Moments.{Moment}
use Rattle.b2_runs.proofs.OpenStepsHaveChildren.{open_steps_at_entry}
use Rattle.b2_runs.proofs.PlanChildMayStart.{plan_children_at_entry}
use Rattle.b2_journal.specs.Openings.{MayFailTold}
use Rattle.b2_facts.specs.Facts.{IsAbout}
use Rattle.b2_looks.specs.Looks.{AreLooks, Follows}
use Rattle.b2_turns.specs.Starts.{settles}
use Rattle.b2_update.proofs.StatesAreCounted.{count_within}
use Rattle.b2_update.specs.declared.run.Run.{Run}
use Rattle.b2_update.specs.declared.stop.UpdateStop.{UpdateStop}
use Rattle.b2_update.specs.Stops.{StopCausedBy, host_stop_of}
use Rattle.b2_update.specs.Going.{HasHappened, HasKept, IsGoing, Halts, is_unended}

nothing_short : (disk : Option Disk) → ShortTold disk []
nothing_short None = tt
nothing_short (Some disk) = refl

-- nothing has happened where the log alone has changed
nothing_yet : (plan : Plan) (jobs : ℕ) (entry here : Moment) → entry.host.children.running ≡ []
    → here.host.children ≡ entry.host.children → HasHappened plan jobs entry here [] []
nothing_yet plan jobs entry here idle same = record {
  are = ap (λ (f : Family). f.events) same ∙ sym (append-nil entry.host.children.events);
  in_order = tt;
  of_open = subst (AreOfOpenSteps []) (sym (ap (λ (f : Family). f.running) same ∙ idle)) open_steps_at_entry;
  short_are = λ i among. absurd (omega (arith, among.1));
  short_told = nothing_short entry.host.disk;
}

kept_yet : (entry here : Moment) → ChangesOnlyLog entry.host here.host → here.out ≡ entry.out → HasKept entry here
kept_yet entry here only out = record { host = keeps_log_changes entry.host here.host only; out = out_keeps_same entry.out here.out out }

pub going_begins : (plan : Plan) (entry here : Moment) (run : Run) → entry.host.children.running ≡ []
    → ChangesOnlyLog entry.host here.host → here.out ≡ entry.out → here.host.faults ≡ entry.host.faults
    → IsAbout plan.steps plan.roots run.sights.facts → AreLooks plan 0 run.sights.facts run.looks → Follows [] run.looks
    → run.sights.by_digest ≡ run.looks.way.by_digest → run.waits ≡ 0 → run.updated ≡ 0 → IsGoing plan entry here run
going_begins plan entry here run idle only out faults about looks follows way waits updated =
    let none : here.host.children.running ≡ [] = ap (λ (f : Family). f.running) only.children ∙ idle in
    record {
      events = [];
      short = [];
      happened = nothing_yet plan run.looks.board.sched.jobs entry here idle only.children;
      follows = follows;
      planned = record {
        about = about;
        looks = looks;
        way = way;
        planned = subst (ArePlanChildren plan.steps (settles run.looks.board.sched)) (sym none) (plan_children_at_entry plan.steps (settles run.looks.board.sched));
        waits = ap (λ (l : List Child). length l) none ∙ sym waits;
        given = λ child among. absurd (omega (arith, (subst (λ l. Contains l child) none among).1));
        updated = (let most = count_within is_unended run.looks.board.sched.states in omega (arith, updated, most));
      };
      kept = kept_yet entry here only out;
      counts = record { host = faults; waits = only.failed_waits; sink = ap (λ (o : Output). o.faults) out };
    }

pub halts_begins : (plan : Plan) (jobs : ℕ) (entry here : Moment) (stop : UpdateStop) → entry.host.children.running ≡ []
    → ChangesOnlyLog entry.host here.host → here.out ≡ entry.out → StopCausedBy entry here stop
    → Halts plan jobs 0 entry here stop
halts_begins plan jobs entry here stop idle only out caused =
    let none : here.host.children.running ≡ [] = ap (λ (f : Family). f.running) only.children ∙ idle in
    record {
      events = [];
      short = [];
      happened = nothing_yet plan jobs entry here idle only.children;
      planned = λ child among. absurd (omega (arith, (subst (λ l. Contains l child) none among).1));
      waits = inl (only.failed_waits, ap (λ (l : List Child). length l) none);
      kept = kept_yet entry here only out;
      caused = caused;
    }

-- the counts by a fault of opening the log
pub caused_by_io : (T : Type 0) (entry here : Moment) (fault : IoFault) → IoFaultTold {T = T} entry.host.faults here.host.faults (Err fault)
    → MayFailTold {T = T} entry.host (Err fault) → here.host.failed_waits ≡ entry.host.failed_waits → here.out ≡ entry.out
    → StopCausedBy entry here (host_stop_of fault)
caused_by_io T entry here io.Failed counts may waits out = (record { may = may; faults = counts }, ap (λ (o : Output). o.faults) out)
caused_by_io T entry here io.OutOfMemory counts may waits out = record { host = counts; waits = waits; sink = ap (λ (o : Output). o.faults) out }
