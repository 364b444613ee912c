-- What a call leaves to the next one that asks for the same.
use Rattle.std.specs.Prelude.{◌≡◌, ℕ, ◌≤◌, List, [], ◌++◌, length}
use Rattle.b2_host.specs.declared.children.ChildEvent.{ChildEvent}
use Rattle.b2_host.specs.ChildProcesses.{BothTold}
use Rattle.b2_host.specs.Disks.{IsConsistent}
use Rattle.b2_host.specs.Outside.{Outside}
use Rattle.b2_plan.specs.declared.step.Step.{Step}
use Rattle.b2_plan.specs.Plans.{Makes}
use Rattle.b2_log.specs.declared.line.LogLine.{LogLine}
use Rattle.b2_runs.specs.Afterwards.{IsMadeEachTime, IsFreshStep}
use Rattle.b2_runs.specs.LogCourses.{held_bytes, log_file}
use Rattle.b2_runs.specs.LogFiles.{log_limit, IsLogIn}
use Rattle.b2_runs.specs.Moments.{Moment}
use Rattle.b2_runs.specs.Runs.{Settled}
use Rattle.b2_drain.specs.Drains.{Made}
use Rattle.b2_command_line.specs.Words.{Word}
use Rattle.b2_top.specs.declared.answer.Answer.{Answer}
use Rattle.b2_top.specs.Answered.{IsOfEnd, IsAnswered}
use Rattle.b2_top.specs.Plans.{HasPlan, update_for, MeetsPremises}
use Rattle.b2_source_laws.specs.NextPlans.{AsksAgain}

-- To the update of a call that asks for the same again, of whatever plan it has then, each step is fresh of which an output was settled,
-- but for those that an always-step or a notfile step reaches.
abbrev pub FindsFresh : Made → List Word → List Word → Outside → Outside → Type 0
FindsFresh made words again before after = BothTold (λ disk later.
    (plan : HasPlan words disk) (next : HasPlan again later) (first log : List LogLine) (events : List ChildEvent)
    → IsConsistent disk → IsConsistent later → AsksAgain plan.command next.command
    → IsLogIn disk.now first → MeetsPremises (update_for made plan first) disk later
    → after.children.events ≡ before.children.events ++ events
    → IsLogIn later.now log → length (held_bytes (log_file later.now)) ≤ log_limit
    → (i : ℕ) (step : Step) (path : List ℕ) → Makes plan.planned.steps i step path → Settled (update_for made plan first) events path
    → (IsMadeEachTime (update_for made plan first).build path → ⊥) → IsFreshStep (update_for made next log) [] step) before.disk after.disk

-- a call that came to its end leaves it so
abbrev pub NextFindsFresh : Type 0
NextFindsFresh = (made : Made) (words again : List Word) (before after : Moment) (result : Answer) → IsAnswered made words before after result → IsOfEnd result
    → FindsFresh made words again before.host after.host
