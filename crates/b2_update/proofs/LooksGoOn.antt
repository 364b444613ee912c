-- An update goes on as steps are looked at, over every host.
use Rattle.std.proofs.Common.{◌≡◌, ℕ, ◌≤◌, ◌<◌, List, Result, Ok, Err, inl, inr, refl, sym, ap, subst, ◌∙◌, length, arith}
use Rattle.std.specs.Prelude.{OnOk}
use Rattle.std.proofs.lemmas.Bool.{true≢false}
use Rattle.b2_host.specs.declared.children.ChildEvent.{ChildEvent}
use Rattle.b2_host.specs.ChildProcesses.{Child, Family}
use Rattle.b2_host.specs.Outside.{Risks}
use Rattle.std.specs.List.{Contains}
use Rattle.b2_host.specs.OutsideLaws.{keeps_then, stays_visible}
use Rattle.b2_host.specs.Output.{Output}
use Rattle.b2_host.specs.OutputLaws.{out_keeps_same, out_keeps_then}
use Rattle.b2_host.specs.LogChanges.{ChangesOnlyLog, keeps_log_changes}
use Rattle.b2_base.specs.Counts.{Rose}
use Rattle.b2_plan.specs.declared.plan.Plan.{Plan}
use Rattle.b2_runs.specs.Events.{AreInOrder, as_counted}
use Rattle.b2_runs.specs.PlanChildren.{AreOfOpenSteps, ArePlanChildren}
use Rattle.b2_runs.specs.Moments.{Moment}
use Rattle.b2_plan.specs.declared.step.Step.{Step}
use Rattle.b2_sched.specs.Keeping.{is_unjudged}
use Rattle.b2_facts.specs.declared.stop.FilesStop.{FilesStop}
use Rattle.b2_facts.specs.declared.stop.FilesStop.TheVariants as files
use Rattle.b2_facts.specs.Facts.{IsAbout}
use Rattle.b2_facts.specs.Stops.{StopTold}
use Rattle.b2_reach.specs.declared.sights.Sights.{Sights}
use Rattle.b2_verdicts.specs.declared.judging_mode.JudgingMode.{JudgingMode}
use Rattle.b2_looks.specs.declared.looks.Looks.{Looks}
use Rattle.b2_looks.specs.Looks.{AreLooks, Follows, LooksOn}
use Rattle.b2_turns.specs.Starts.{is_settled, settles}
use Rattle.b2_looks.proofs.LooksAreKept.{settled_on}
use Rattle.b2_turns.proofs.SettledStepsStay.{settled_tells, tells_settled}
use Rattle.b2_update.specs.declared.run.Run.{Run}
use Rattle.b2_update.specs.declared.stop.UpdateStop.TheVariants as stops
use Rattle.b2_update.specs.Stops.{StopCausedBy}
use Rattle.b2_update.specs.Going.{IsGoing, Halts, SameWay, is_unended, unended}
use Rattle.b2_update.proofs.StatesAreCounted.{count_at_most}
use Rattle.b2_update.proofs.GoingHalts.{going_halts}
use Rattle.b2_update.proofs.WaitIsHeard.{open_runs}

-- children that run stay those of the plan, where events follow as they count
children_looked : (steps : List Step) (l k : Looks) (short : List ℕ) (events : List ChildEvent) (running : List Child) → AreOfOpenSteps events running
    → Follows (as_counted short events) l → LooksOn l k → ArePlanChildren steps (settles l.board.sched) running → ArePlanChildren steps (settles k.board.sched) running
children_looked steps l k short events running opened follows on children child runs =
    let is = children child runs in
    let run = open_runs l short events child.step follows (opened.each child runs) in
    record {
      step = is.step;
      at = is.at;
      not_settled = elim (on.states child.step) [ inl same ↦ ap is_settled (same ∙ run) | inr fresh ↦ absurd (true≢false (sym (ap is_unjudged fresh.0) ∙ ap is_unjudged run)) ];
      outs = is.outs;
      ins = λ path i step among makes. settled_tells k.board.sched i (settled_on l k on i (tells_settled l.board.sched i (is.ins path i step among makes)));
    }

-- ---- steps that have not ended

pub fewer_looked : (l k : Looks) → LooksOn l k → unended k.board.sched ≤ unended l.board.sched
fewer_looked l k on = count_at_most is_unended k.board.sched.states l.board.sched.states on.size (λ i. elim (on.states i) [ inl same ↦ inl same | inr fresh ↦ inr (ap is_unended fresh.0) ])

-- the same update, with what was found
abbrev pub looked : Run → Looks → Sights → Run
looked run l s = record run { looks = l; sights = s }

pub way_looked : (run : Run) (l : Looks) (s : Sights) → LooksOn run.looks l → l.way ≡ run.looks.way → SameWay run (looked run l s)
way_looked run l s on way = record { way = way; jobs = on.jobs; quit = refl }

pub going_looked : (plan : Plan) (entry here there : Moment) (run : Run) (l : Looks) (s : Sights) → IsGoing plan entry here run
    → there.out ≡ here.out → ChangesOnlyLog here.host there.host → there.host.faults ≡ here.host.faults
    → IsAbout plan.steps plan.roots s.facts → AreLooks plan 0 s.facts l → LooksOn run.looks l
    → ((events : List ChildEvent) → Follows events run.looks → Follows events l) → l.way ≡ run.looks.way → s.by_digest ≡ run.sights.by_digest
    → IsGoing plan entry there (looked run l s)
going_looked plan entry here there run l s going out only faults about looks on follows way by_digest =
    let running = ap (λ (family : Family). family.running) only.children in
    record {
      events = going.events;
      short = going.short;
      happened = record {
        are = ap (λ (family : Family). family.events) only.children ∙ going.happened.are;
        in_order = subst (λ jobs. AreInOrder plan.steps jobs going.events) (sym on.jobs) going.happened.in_order;
        of_open = subst (AreOfOpenSteps going.events) (sym running) going.happened.of_open;
        short_are = going.happened.short_are;
        short_told = going.happened.short_told;
      };
      follows = follows (as_counted going.short going.events) going.follows;
      planned = record {
        about = about;
        looks = looks;
        way = by_digest ∙ going.planned.way ∙ sym (ap (λ (w : JudgingMode). w.by_digest) way);
        planned = subst (ArePlanChildren plan.steps (settles l.board.sched)) (sym running) (children_looked plan.steps run.looks l going.short going.events here.host.children.running going.happened.of_open going.follows on going.planned.planned);
        waits = ap (λ (xs : List Child). length xs) running ∙ going.planned.waits;
        given = λ child among. going.planned.given child (subst (λ (xs : List Child). Contains xs child) running among) ∙ sym (stays_visible here.host there.host (keeps_log_changes here.host there.host only));
        updated = (let bound = going.planned.updated in let fewer = fewer_looked run.looks l on in let size = on.size in omega (arith, bound, fewer, size));
      };
      kept = record { host = keeps_then entry.host here.host there.host going.kept.host (keeps_log_changes here.host there.host only); out = out_keeps_then entry.out here.out there.out going.kept.out (out_keeps_same here.out there.out out) };
      counts = record { host = faults ∙ going.counts.host; waits = only.failed_waits ∙ going.counts.waits; sink = ap (λ (o : Output). o.faults) out ∙ going.counts.sink };
    }

-- it stops where work on files does
pub looks_halt : (plan : Plan) (entry here there : Moment) (run : Run) (T : Type 0) (stop : FilesStop) → IsGoing plan entry here run
    → there.out ≡ here.out → ChangesOnlyLog here.host there.host → StopTold {T = T} here.host there.host (Err stop)
    → Halts plan run.looks.board.sched.jobs run.waits entry there (stops.Files stop)
looks_halt plan entry here there run T stop going out only told =
    going_halts plan entry here there run going (stops.Files stop) only.children only.failed_waits (keeps_log_changes here.host there.host only) (out_keeps_same here.out there.out out) (caused stop told)
  where
    sink : there.out.faults ≡ entry.out.faults
    sink = ap (λ (o : Output). o.faults) out ∙ going.counts.sink

    caused : (stop : FilesStop) → StopTold {T = T} here.host there.host (Err stop) → StopCausedBy entry there (stops.Files stop)
    caused files.Host (may, rose) = (record { may = sym (ap (λ (r : Risks). r.may_fail) going.kept.host.risks) ∙ may; faults = subst (λ n. Rose n there.host.faults) going.counts.host rose }, sink)
    caused files.OutOfMemory same = record { host = same ∙ going.counts.host; waits = only.failed_waits ∙ going.counts.waits; sink = sink }
    caused (files.TooBig number size) same = record { host = same ∙ going.counts.host; waits = only.failed_waits ∙ going.counts.waits; sink = sink }

-- what holds whatever the result is
pub on_ok_of : {T E : Type 0} {P : Type 0} (r : Result T E) → P → OnOk r P
on_ok_of (Ok x) p = p
on_ok_of (Err e) p = tt

pub on_ok_at_most : {T E : Type 0} (r : Result T E) (a b c : ℕ) → b ≤ c → OnOk r (a ≡ b) → OnOk r (a ≤ c)
on_ok_at_most (Ok x) a b c most same = omega (arith, most, same)
on_ok_at_most (Err e) a b c most same = tt

pub on_ok_then : {T E : Type 0} (r : Result T E) (P Q : Type 0) → (P → Q) → OnOk r P → OnOk r Q
on_ok_then (Ok x) P Q f p = f p
on_ok_then (Err e) P Q f p = tt

pub on_ok_less : {T E : Type 0} (r : Result T E) (a b c : ℕ) → b < c → OnOk r (a ≤ b) → OnOk r (a < c)
on_ok_less (Ok x) a b c less most = omega (arith, less, most)
on_ok_less (Err e) a b c less most = tt
