use Rattle.std.specs.Prelude.{◌≡◌, ℕ, ◌≤◌, true, false, List, ◌∷◌, ◌++◌, length}
use Rattle.std.specs.List.{Contains}
use Rattle.b2_host.specs.declared.children.ChildEvent.{ChildEvent}
use Rattle.b2_host.specs.declared.children.ChildEvent.TheVariants.{Start, Done}
use Rattle.b2_host.specs.Outside.{Outside}
use Rattle.b2_plan.specs.declared.step.Step.{Step}
use Rattle.b2_plan.specs.Plans.{Makes}
use Rattle.b2_runs.specs.LogFiles.{log_limit, IsTrueOn}
use Rattle.b2_runs.specs.Staleness.{Update, making}
use Rattle.b2_runs.specs.Soundness.{Distinguishes}
use Rattle.b2_runs.specs.Afterwards.{IsMadeEachTime}
use Rattle.b2_runs.specs.LogCourses.{held_bytes, log_file}
use Rattle.b2_runs.specs.Moments.{Moment}
use Rattle.b2_runs.specs.UpdateAnswers.{UpdateAnswer, UpdateAnswer.all_went}
use Rattle.b2_runs.specs.Sessions.{HostUpdated, IsReopened}

-- Two updates, one after the other, without an edit between them. The second one may answer anything, and may be stopped.

-- The second update is of the same plan, is judged in the same way, and does not run all. The files and the log at entry are its
-- own, and so is whether it quits and how many children may be open.
abbrev pub IsOfSamePlan : Update → Update → Type 0
IsOfSamePlan u v = v ≡ record u { build = record u.build { folder = v.build.folder }; log = v.log; all = false; quit = v.quit; jobs = v.jobs }

-- the events of an update, by the hosts before and after it
abbrev pub AreEventsBetween : Outside → Outside → List ChildEvent → Type 0
AreEventsBetween before after events = after.children.events ≡ before.children.events ++ events

-- after one that answered that all went well, with a log within its limit, the second one starts no step but those that an
-- always-step or a notfile step reaches
abbrev pub NoneStartsAfterAllWent : Type 0
NoneStartsAfterAllWent = (u v : Update) (answer : UpdateAnswer) (first between again last : Outside) (later : List ChildEvent) (i : ℕ) (step : Step) (path : List ℕ)
    → (x : HostUpdated u all_went first between) → again.disk ≡ between.disk → (y : HostUpdated v answer again last) → IsOfSamePlan u v → IsTrueOn (making u) x.old → Distinguishes u y.new.past
    → length (held_bytes (log_file y.old.now)) ≤ log_limit → AreEventsBetween again last later → Makes u.build.steps i step path → (IsMadeEachTime (record u.build { folder = x.old.now }) path → ⊥) → Contains later (Start i) → ⊥

-- Whatever the first one answered, with a log within its limit, the second one starts no step that was done well before the
-- last start of the first one. The exceptions are the same.
abbrev pub NoneDoneStartsAgain : Type 0
NoneDoneStartsAgain = (u v : Update) (given answer : UpdateAnswer) (first between again last : Outside) (events before after later : List ChildEvent) (k i : ℕ) (step : Step) (path : List ℕ)
    → (x : HostUpdated u given first between) → again.disk ≡ between.disk → (y : HostUpdated v answer again last) → IsOfSamePlan u v → IsTrueOn (making u) x.old → Distinguishes u y.new.past
    → length (held_bytes (log_file y.old.now)) ≤ log_limit → AreEventsBetween first between events → events ≡ before ++ Start k ∷ after → Contains before (Done i true) → AreEventsBetween again last later
    → Makes u.build.steps i step path → (IsMadeEachTime (record u.build { folder = x.old.now }) path → ⊥) → Contains later (Start i) → ⊥

-- nor does it where the first one was stopped, and the host was opened again after it
abbrev pub NoneDoneStartsAfterStop : Type 0
NoneDoneStartsAfterStop = (u v : Update) (given answer : UpdateAnswer) (first again last : Outside) (between reopened : Moment) (events before after later : List ChildEvent) (k i : ℕ) (step : Step) (path : List ℕ)
    → (x : HostUpdated u given first between.host) → IsReopened events between reopened → again.disk ≡ reopened.host.disk → (y : HostUpdated v answer again last) → IsOfSamePlan u v → IsTrueOn (making u) x.old → Distinguishes u y.new.past
    → length (held_bytes (log_file y.old.now)) ≤ log_limit → AreEventsBetween first between.host events → events ≡ before ++ Start k ∷ after → Contains before (Done i true) → AreEventsBetween again last later
    → Makes u.build.steps i step path → (IsMadeEachTime (record u.build { folder = x.old.now }) path → ⊥) → Contains later (Start i) → ⊥
