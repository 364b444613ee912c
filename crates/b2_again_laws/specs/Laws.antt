-- Two calls of a session that come one after the other, of which the second one asks for the same again.
use Rattle.std.specs.Prelude.{◌≡◌, ◌≤◌, ℕ, true, List, ◌∷◌, ◌++◌, Some, length}
use Rattle.std.specs.List.{Contains}
use Rattle.b2_host.specs.declared.children.ChildEvent.{ChildEvent}
use Rattle.b2_host.specs.declared.children.ChildEvent.TheVariants.{Start, Done}
use Rattle.b2_host.specs.Disks.{Disk}
use Rattle.b2_plan.specs.declared.step.Step.{Step}
use Rattle.b2_plan.specs.Plans.{Makes}
use Rattle.b2_plan.specs.Sources.{Build}
use Rattle.b2_runs.specs.Afterwards.{IsMadeEachTime}
use Rattle.b2_runs.specs.LogCourses.{held_bytes, log_file}
use Rattle.b2_runs.specs.LogFiles.{log_limit}
use Rattle.b2_runs.specs.NextLaws.{IsOfSamePlan, AreEventsBetween}
use Rattle.b2_drain.specs.Drains.{Made}
use Rattle.b2_command_line.specs.Words.{Word}
use Rattle.b2_top.specs.declared.answer.Answer.TheVariants as answers
use Rattle.b2_top.specs.declared.build_command.BuildCommand.{BuildCommand}
use Rattle.b2_top.specs.Askings.{build_of}
use Rattle.b2_top.specs.Commands.{build_command}
use Rattle.b2_top.specs.Plans.{build_at}
use Rattle.b2_sessions.specs.BuildCalls.{update_of, UpdateHasCome}
use Rattle.b2_session_laws.specs.Neighbours.{AreNeighbours, IsNextAtOnce, IsNextAfterStop}
use Rattle.b2_source_laws.specs.NextPlans.{AsksAgain}

-- In both an update came, over the files that stood before it. The second one asks for what the first one asked for.
pub record AskAgain (made : Made) (words again : List Word) (n : AreNeighbours made (build_of words) (build_of again)) : Type 0 where
  pub disk : Disk
  pub shows : n.before.host.disk ≡ Some disk
  pub middle : Disk
  pub shows_then : n.reopened.host.disk ≡ Some middle
  pub come : UpdateHasCome made (build_of words) n.given n.before.host n.between.host disk
  pub next : UpdateHasCome made (build_of again) n.answer n.reopened.host n.after.host middle
  pub asks : AsksAgain come.plan.command next.plan.command

-- they are updates of one plan
abbrev pub NextAtOnceIsOfOnePlan : Type 0
NextAtOnceIsOfOnePlan = (made : Made) (words again : List Word) (n : AreNeighbours made (build_of words) (build_of again)) (a : AskAgain made words again n)
    → IsNextAtOnce made (build_of words) (build_of again) n → IsOfSamePlan (update_of made a.come.plan) (update_of made a.next.plan)

-- also where the first one was stopped
abbrev pub NextAfterStopIsOfOnePlan : Type 0
NextAfterStopIsOfOnePlan = (made : Made) (words again : List Word) (n : AreNeighbours made (build_of words) (build_of again)) (a : AskAgain made words again n)
    → IsNextAfterStop made (build_of words) (build_of again) n → IsOfSamePlan (update_of made a.come.plan) (update_of made a.next.plan)

-- ---- what the second one starts

-- In the first one an update came. The second one asks for what that one asked for, whatever comes of it. The log between them was within
-- its limit.
pub record IsAskedAgain (made : Made) (words again : List Word) (n : AreNeighbours made (build_of words) (build_of again)) : Type 0 where
  pub disk : Disk
  pub shows : n.before.host.disk ≡ Some disk
  pub come : UpdateHasCome made (build_of words) n.given n.before.host n.between.host disk
  pub middle : Disk
  pub shows_then : n.reopened.host.disk ≡ Some middle
  pub command : BuildCommand
  pub asked : build_command again ≡ Some command
  pub asks : AsksAgain come.plan.command command
  pub fits : length (held_bytes (log_file middle.now)) ≤ log_limit

module _ (made : Made) (words again : List Word) (n : AreNeighbours made (build_of words) (build_of again)) (a : IsAskedAgain made words again n) where
  -- the plan's build, from the files at entry
  abbrev pub first_build : Build
  first_build = build_at made a.come.plan.planned a.disk.now

  -- the second one starts no step of the plan whose output is not made each time
  abbrev pub StartsNone : Type 0
  StartsNone = (later : List ChildEvent) (i : ℕ) (step : Step) (path : List ℕ) → AreEventsBetween n.reopened.host n.after.host later
      → Makes first_build.steps i step path → (IsMadeEachTime first_build path → ⊥) → Contains later (Start i) → ⊥

  -- it starts no such step that was done well before a start of the first one
  abbrev pub RepeatsNone : Type 0
  RepeatsNone = (events front rest later : List ChildEvent) (k i : ℕ) (step : Step) (path : List ℕ)
      → AreEventsBetween n.before.host n.between.host events → events ≡ front ++ Start k ∷ rest → Contains front (Done i true)
      → AreEventsBetween n.reopened.host n.after.host later
      → Makes first_build.steps i step path → (IsMadeEachTime first_build path → ⊥) → Contains later (Start i) → ⊥

-- after a call that answered Ok, one that asks for the same again, with no edit between them, starts nothing but what is made each time
abbrev pub AgainStartsNone : Type 0
AgainStartsNone = (made : Made) (words again : List Word) (n : AreNeighbours made (build_of words) (build_of again)) (a : IsAskedAgain made words again n)
    → IsNextAtOnce made (build_of words) (build_of again) n → n.given ≡ answers.Ok → StartsNone made words again n a

-- whatever the first one answered, no finished work is lost
abbrev pub AgainRepeatsNone : Type 0
AgainRepeatsNone = (made : Made) (words again : List Word) (n : AreNeighbours made (build_of words) (build_of again)) (a : IsAskedAgain made words again n)
    → IsNextAtOnce made (build_of words) (build_of again) n → RepeatsNone made words again n a

-- nor is it by a stop
abbrev pub AfterStopRepeatsNone : Type 0
AfterStopRepeatsNone = (made : Made) (words again : List Word) (n : AreNeighbours made (build_of words) (build_of again)) (a : IsAskedAgain made words again n)
    → IsNextAfterStop made (build_of words) (build_of again) n → RepeatsNone made words again n a
