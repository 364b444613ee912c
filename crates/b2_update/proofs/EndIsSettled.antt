-- What holds over every host as a step is settled whose child has ended.
use Rattle.std.proofs.Common.{◌≡◌, ℕ, Bool, true, false, List, [], ◌∷◌, ◌++◌, inl, inr, Option, Some, None, IfSome, Result, Ok, Err, MatchResult, IfOk, is_some, length, refl, sym, ap, subst, ◌∙◌, arith}
use Rattle.std.specs.List.{Contains}
use Rattle.std.proofs.lemmas.Bool.{true≢false}
use Rattle.b2_base.specs.Counts.{Rose}
use Rattle.b2_host.specs.declared.children.ChildEvent.TheVariants.{Done}
use Rattle.b2_host.specs.declared.fault.IoFault.{IoFault}
use Rattle.b2_host.specs.declared.fault.IoFault.TheVariants as io
use Rattle.b2_host.specs.Disks.{Disk}
use Rattle.b2_host.specs.ChildProcesses.{Child, Family, BothTold}
use Rattle.b2_host.specs.LogChanges.{ChangesOnlyLog, ChangesOnlyAt, keeps_log_changes}
use Rattle.b2_host.specs.Outside.{Outside, Risks}
use Rattle.b2_host.specs.OutsideLaws.{Keeps, BeginsPast, keeps_then, both_visible}
use Rattle.b2_host.specs.Output.{Output, with_written}
use Rattle.b2_host.specs.OutputLaws.{OutKeeps, out_keeps_same, out_keeps_then}
use Rattle.b2_host.specs.FileCalls.{log_path}
use Rattle.b2_plan.specs.declared.plan.Plan.{Plan}
use Rattle.b2_plan.specs.declared.step.Step.{Step}
use Rattle.b2_plan.specs.Plans.{step_at, Apart}
use Rattle.b2_runs.specs.Moments.{Moment}
use Rattle.b2_runs.specs.PlanChildren.{AreOfOpenSteps}
use Rattle.b2_runs.specs.UpdateAnswers.{CountsStay}
use Rattle.b2_facts.specs.declared.stop.FilesStop.{FilesStop}
use Rattle.b2_facts.specs.declared.stop.FilesStop.TheVariants as files
use Rattle.b2_facts.specs.Facts.{Knowledge, IsAbout}
use Rattle.b2_facts.specs.Stops.{StopTold}
use Rattle.b2_reach.specs.declared.sights.Sights.{Sights}
use Rattle.b2_looks.specs.Looks.{AreLooks}
use Rattle.b2_turns.specs.Ends.{Clears, OutputsStand}
use Rattle.b2_endings.specs.Writings.{Says}
use Rattle.b2_update.specs.declared.run.Run.{Run}
use Rattle.b2_update.specs.declared.stop.UpdateStop.{UpdateStop}
use Rattle.b2_update.specs.declared.stop.UpdateStop.TheVariants as stops
use Rattle.b2_update.specs.Moments.{moment}
use Rattle.b2_update.specs.Stops.{StopCausedBy, sink_stop_of}
use Rattle.b2_update.specs.Going.{HasHappened, HasKept, HasHeard, EndsAs, Halts}

-- ---- calls that leave the children as they are

pub record LeavesChildren (x y : Outside) : Type 0 where
  pub children : y.children ≡ x.children
  pub waits : y.failed_waits ≡ x.failed_waits
  pub keeps : Keeps x y

pub leaves_log : (x y : Outside) → ChangesOnlyLog x y → LeavesChildren x y
leaves_log x y only = record { children = only.children; waits = only.failed_waits; keeps = keeps_log_changes x y only }

pub leaves_clear : {T : Type 0} (x y : Outside) (r : Result T FilesStop) → Clears x y r → LeavesChildren x y
leaves_clear x y r clears = record { children = clears.children; waits = clears.failed_waits; keeps = clears.keeps }

-- what is said keeps what every write keeps
pub out_keeps_says : {T : Type 0} (text : List ℕ) (before after : Output) (r : Result T IoFault) → Says text before after r → OutKeeps before after
out_keeps_says text before after (Ok x) same = record {
  faults = (let e = ap (λ (o : Output). o.faults) same in omega (arith, e));
  no_fault = λ none. ap (λ (o : Output). o.faults) same;
  may_fail = ap (λ (o : Output). o.may_fail) same;
}
out_keeps_says text before after (Err io.Failed) (failed, part, may) = record { faults = failed.faults.kept; no_fault = λ none. absurd (true≢false (sym failed.may ∙ none)); may_fail = may }
out_keeps_says text before after (Err io.OutOfMemory) (same, part, may) = record { faults = omega (arith, same); no_fault = λ none. same; may_fail = may }

-- ---- why it stopped

module _ (entry : Moment) (x y : Outside) (o : Output) (kept : Keeps entry.host x) (counts : CountsStay entry (moment x o)) (leaves : LeavesChildren x y) where
  pub caused_by_files : (stop : FilesStop) → StopTold {T = Unit {0}} x y (Err stop) → StopCausedBy entry (moment y o) (stops.Files stop)
  caused_by_files files.Host (may, rose) = (record { may = sym (ap (λ (k : Risks). k.may_fail) kept.risks) ∙ may; faults = subst (λ k. Rose k y.faults) counts.host rose }, counts.sink)
  caused_by_files files.OutOfMemory same = record { host = same ∙ counts.host; waits = leaves.waits ∙ counts.waits; sink = counts.sink }
  caused_by_files (files.TooBig number size) same = record { host = same ∙ counts.host; waits = leaves.waits ∙ counts.waits; sink = counts.sink }

pub caused_by_sink : (entry : Moment) (y : Outside) (o p : Output) (text : List ℕ) → OutKeeps entry.out o → CountsStay entry (moment y o) → (fault : IoFault) → Says {T = Unit {0}} text o p (Err fault) → StopCausedBy entry (moment y p) (sink_stop_of fault)
caused_by_sink entry y o p text kept counts io.Failed (failed, part, may) = (record { may = sym kept.may_fail ∙ failed.may; faults = subst (λ k. Rose k p.faults) counts.sink failed.faults }, counts.host, counts.waits)
caused_by_sink entry y o p text kept counts io.OutOfMemory (same, part, may) = record { host = counts.host; waits = counts.waits; sink = same ∙ counts.sink }

-- ---- the update

module _ (plan : Plan) (i : ℕ) (well : Bool) (entry : Moment) (x y : Outside) (o p : Output) (run : Run) (h : HasHeard plan i well entry (moment x o) run) (leaves : LeavesChildren x y) (out : OutKeeps o p) where
  happened : HasHappened plan run.looks.board.sched.jobs entry (moment y p) (h.before ++ Done i well ∷ []) h.short
  happened = record {
    are = ap (λ (f : Family). f.events) leaves.children ∙ h.happened.are;
    in_order = h.happened.in_order;
    of_open = subst (λ (f : Family). AreOfOpenSteps (h.before ++ Done i well ∷ []) f.running) (sym leaves.children) h.happened.of_open;
    short_are = h.happened.short_are;
    short_told = h.happened.short_told;
  }

  kept : HasKept entry (moment y p)
  kept = record { host = keeps_then entry.host x y h.kept.host leaves.keeps; out = out_keeps_then entry.out o p h.kept.out out }

  same_child : (child : Child) → Contains y.children.running child → Contains x.children.running child
  same_child child c = subst (λ (f : Family). Contains f.running child) leaves.children c

  same_count : length y.children.running ≡ run.waits
  same_count = ap (λ (f : Family). length f.running) leaves.children ∙ h.planned.waits

  -- the step has ended still, though more may be known of files
  pub still_heard : (t : Sights) → IsAbout plan.steps plan.roots t.facts → AreLooks plan 0 t.facts run.looks → t.by_digest ≡ run.looks.way.by_digest → y.faults ≡ x.faults → p.faults ≡ o.faults → (well ≡ true → IfSome y.disk (OutputsStand plan.steps i))
      → HasHeard plan i well entry (moment y p) (record run { sights = t })
  still_heard t about looks way host_same out_same stand = record {
    before = h.before;
    short = h.short;
    happened = happened;
    follows = h.follows;
    not_short = h.not_short;
    runs = h.runs;
    stand = stand;
    planned = record {
      about = about;
      looks = looks;
      way = way;
      planned = λ child c. h.planned.planned child (same_child child c);
      waits = same_count;
      given = λ child c. h.planned.given child (same_child child c) ∙ sym (both_visible BeginsPast x.disk y.disk leaves.keeps.files);
      updated = h.planned.updated;
    };
    kept = kept;
    counts = record { host = host_same ∙ h.counts.host; waits = leaves.waits ∙ h.counts.waits; sink = out_same ∙ h.counts.sink };
  }

  -- an update stops there
  pub halts_settling : (stop : UpdateStop) → StopCausedBy entry (moment y p) stop → Halts plan run.looks.board.sched.jobs run.waits entry (moment y p) stop
  halts_settling stop caused = record {
    events = h.before ++ Done i well ∷ [];
    short = h.short;
    happened = happened;
    planned = λ child c. (let k = h.planned.planned child (same_child child c) in (k.step, k.at, k.outs));
    waits = inl (leaves.waits ∙ h.counts.waits, same_count);
    kept = kept;
    caused = caused;
  }

-- ---- results

module _ (plan : Plan) (i : ℕ) (well : Bool) (entry after : Moment) (later : Run) where
  -- what settling promises of its result, and what failing does
  abbrev Settled : Result Bool UpdateStop → Type 0
  Settled r = MatchResult r (λ updated. EndsAs plan i well entry updated × HasHeard plan i well entry after later) (Halts plan later.looks.board.sched.jobs later.waits entry after)

  abbrev pub HasFailed : Result Bool UpdateStop → Type 0
  HasFailed r = MatchResult r (λ updated. HasHeard plan i well entry after later) (Halts plan later.looks.board.sched.jobs later.waits entry after)

  pub settle_stops : (r : Result Bool UpdateStop) (stop : UpdateStop) → r ≡ Err stop → Halts plan later.looks.board.sched.jobs later.waits entry after stop → Settled r
  settle_stops r stop e halts = subst Settled (sym e) halts

  pub fail_stops : (r : Result Bool UpdateStop) (stop : UpdateStop) → r ≡ Err stop → Halts plan later.looks.board.sched.jobs later.waits entry after stop → HasFailed r
  fail_stops r stop e halts = subst HasFailed (sym e) halts

  -- a step that has failed is settled so
  pub failed_so : (r : Result Bool UpdateStop) → EndsAs plan i well entry false → IfOk r (λ updated. updated ≡ false) → HasFailed r → Settled r
  failed_so (Ok updated) ends bad failed = (subst (EndsAs plan i well entry) (sym bad) ends, failed)
  failed_so (Err stop) ends bad failed = failed

  pub kept_by_failing : (r : Result Bool UpdateStop) → HasFailed r → Keeps entry.host after.host
  kept_by_failing (Ok updated) failed = failed.kept.host
  kept_by_failing (Err stop) failed = failed.kept.host

-- ---- outputs that stand

-- the outputs of a step stand still where only the log has changed
stand_beside : (plan : Plan) (i : ℕ) (x y : Option Disk) → Apart plan.steps plan.roots → BothTold (ChangesOnlyAt log_path) x y → IfSome x (OutputsStand plan.steps i) → IfSome y (OutputsStand plan.steps i)
stand_beside plan i None None apart only stand = tt
stand_beside plan i None (Some after) apart only stand = absurd only
stand_beside plan i (Some before) None apart only stand = absurd only
stand_beside plan i (Some before) (Some after) apart only stand = λ step out at among gone.
    stand step out at among (sym (only.others out (λ is_log. apart.not_log i step (record { at = at; among = subst (λ q. Contains step.outs q) is_log among }))) ∙ gone)

pub stand_noted : (plan : Plan) (i : ℕ) (x y : Outside) → Apart plan.steps plan.roots → ChangesOnlyLog x y → IfSome x.disk (OutputsStand plan.steps i) → IfSome y.disk (OutputsStand plan.steps i)
stand_noted plan i x y apart only stand = stand_beside plan i x.disk y.disk apart only.files stand

-- where files were not visible at entry they are not now
pub none_visible : (x y : Option Disk) → is_some y ≡ is_some x → x ≡ None → y ≡ None
none_visible x None same none = refl
none_visible x (Some disk) same none = absurd (let f : true ≡ false = same ∙ ap is_some none in cc)

-- a step that ended well has failed only where no file is visible
pub none_stand : (plan : Plan) (i : ℕ) (well : Bool) (entry : Moment) (y : Outside) → Keeps entry.host y → EndsAs plan i well entry false → well ≡ true → IfSome y.disk (OutputsStand plan.steps i)
none_stand plan i well entry y kept ends good = subst (λ d. IfSome d (OutputsStand plan.steps i)) (sym (none_visible entry.host.disk y.disk (both_visible BeginsPast entry.host.disk y.disk kept.files) (ends good).0)) tt

-- where an output is missing of a step whose outputs stand, no file is visible
none_seen : (steps : List Step) (i : ℕ) (x : Option Disk) → IfSome x (OutputsStand steps i) → IfSome x (λ disk. OutputsStand steps i disk → ⊥) → x ≡ None
none_seen steps i None stand missed = refl
none_seen steps i (Some disk) stand missed = absurd (missed stand)

pub ends_short : (plan : Plan) (i : ℕ) (entry : Moment) (x : Outside) → Keeps entry.host x → IfSome x.disk (OutputsStand plan.steps i) → IfSome x.disk (λ disk. OutputsStand plan.steps i disk → ⊥) → (step : Step) × (step_at plan.steps i ≡ Some step) × (step.notfile ≡ false)
    → EndsAs plan i true entry false
ends_short plan i entry x kept stand missed owes good =
    (none_visible x.disk entry.host.disk (sym (both_visible BeginsPast entry.host.disk x.disk kept.files)) (none_seen plan.steps i x.disk stand missed), owes)

-- the step whose child has ended is one of the plan
pub step_heard : (plan : Plan) (i : ℕ) (well : Bool) (entry here : Moment) (run : Run) → HasHeard plan i well entry here run → (step : Step) × (step_at plan.steps i ≡ Some step)
step_heard plan i well entry here run h = let ready = h.planned.looks.ready i (inr h.runs) in (ready.step, ready.at)

-- ---- a step that was noted, or cleared away

-- the record of a step was noted: its outputs stand as before
pub noted_heard : (plan : Plan) (i : ℕ) (entry : Moment) (x y : Outside) (o : Output) (run : Run) (t : Sights) → Apart plan.steps plan.roots → HasHeard plan i true entry (moment x o) run → ChangesOnlyLog x y → IsAbout plan.steps plan.roots t.facts → AreLooks plan 0 t.facts run.looks → t.by_digest ≡ run.sights.by_digest → y.faults ≡ x.faults
    → HasHeard plan i true entry (moment y o) (record run { sights = t })
noted_heard plan i entry x y o run t apart h only about looks way faults =
    still_heard plan i true entry x y o o run h (leaves_log x y only) (out_keeps_same o o refl) t about looks (way ∙ h.planned.way) faults refl (λ good. stand_noted plan i x y apart only (h.stand good))

-- a step was cleared away, and its line was written
pub cleared_heard : (plan : Plan) (i : ℕ) (well : Bool) (entry : Moment) (x y : Outside) (o p : Output) (run : Run) (t : Sights) (text : List ℕ) → HasHeard plan i well entry (moment x o) run → Clears {T = Unit {0}} x y (Ok tt) → t.facts ≡ run.sights.facts → t.by_digest ≡ run.sights.by_digest → p ≡ with_written text o → EndsAs plan i well entry false
    → HasHeard plan i well entry (moment y p) (record run { sights = t })
cleared_heard plan i well entry x y o p run t text h clears facts way said ends =
    still_heard plan i well entry x y o p run h (leaves_clear {T = Unit {0}} x y (Ok tt) clears) (out_keeps_says {T = Unit {0}} text o p (Ok tt) said) t (subst (IsAbout plan.steps plan.roots) (sym facts) h.planned.about) (subst (λ (f : Knowledge). AreLooks plan 0 f run.looks) (sym facts) h.planned.looks)
    (way ∙ h.planned.way) clears.faults (ap (λ (out : Output). out.faults) said) (none_stand plan i well entry y (keeps_then entry.host x y h.kept.host clears.keeps) ends)
