-- How an update ends that no fault has stopped.
use Rattle.std.specs.Prelude.{◌≡◌, ℕ, Bool, List, [], ◌∷◌, Result, Ok, Err, IfOk}
use Rattle.std.specs.List.{Contains}
use Rattle.b2_host.specs.declared.children.ChildEvent.{ChildEvent}
use Rattle.b2_host.specs.ChildProcesses.{BothTold}
use Rattle.b2_host.specs.Outside.{Outside, Read, Fails}
use Rattle.b2_plan.specs.declared.plan.Plan.{Plan}
use Rattle.b2_plan.specs.Sources.{IsGiven}
use Rattle.b2_log.specs.declared.line.LogLine.{LogLine}
use Rattle.b2_runs.specs.Staleness.{Update}
use Rattle.b2_runs.specs.Runs.{IsRun}
use Rattle.b2_runs.specs.Outcomes.{NoneStuck, IsListOf}
use Rattle.b2_runs.specs.Cycles.{IsStepCycle}
use Rattle.b2_runs.specs.Reports.{Lists, AreLists}
use Rattle.b2_runs.specs.UpdateAnswers.{UpdateAnswer}
use Rattle.b2_runs.specs.UpdateAnswers.UpdateAnswer.{all_went, failed as some_failed, step_cycle}
use Rattle.b2_sched.specs.Schedules.{Schedule, IsFailed, IsSkipped, QuitsNow}
use Rattle.b2_sched.specs.Ends as by_schedule
use Rattle.b2_facts.specs.declared.stop.FilesStop.{FilesStop}
use Rattle.b2_facts.specs.declared.stop.FilesStop.TheVariants as stops
use Rattle.b2_reach.specs.declared.sights.Sights.{Sights}
use Rattle.b2_looks.specs.declared.looks.Looks.{Looks}
use Rattle.b2_looks.specs.UnderWay.{IsUnderWay, AreTrueLooks, IsUpdateBy}
use Rattle.b2_turns.specs.AtRest.{IsToldAtRest}
use Rattle.b2_endings.specs.declared.ending.Ending.{Ending}
use Rattle.b2_endings.specs.declared.ending.Ending.TheVariants as endings
use Rattle.b2_endings.specs.declared.failed_lists.FailedLists.{FailedLists}

-- the lists as reports see them
abbrev pub lists_of : FailedLists → Lists
lists_of lists = record { failed = lists.failed; skipped = lists.skipped; missing = lists.missing }

-- all went well where nothing is named
abbrev pub finished_by : List ℕ → List ℕ → List (List ℕ) → UpdateAnswer
finished_by [] [] [] = all_went
finished_by [] [] (path ∷ missing) = some_failed (record { failed = []; skipped = []; missing = path ∷ missing })
finished_by [] (i ∷ skipped) missing = some_failed (record { failed = []; skipped = i ∷ skipped; missing = missing })
finished_by (i ∷ failed) skipped missing =
    some_failed (record { failed = i ∷ failed; skipped = skipped; missing = missing })

-- the answer of an update that ends so
abbrev pub answer_of_ending : Ending → UpdateAnswer
answer_of_ending (endings.StepCycle list) = step_cycle list
answer_of_ending (endings.Ended lists) = finished_by lists.failed lists.skipped lists.missing

-- ---- over every host

-- a look at the host: nothing changes, or it stops where the host failed or no memory was left
abbrev pub StopLooks : {T : Type 0} → Outside → Outside → Result T FilesStop → Type 0
StopLooks before after (Ok x) = after ≡ before
StopLooks before after (Err stops.Host) = Fails before after
StopLooks before after (Err stops.OutOfMemory) = after ≡ before
StopLooks before after (Err (stops.TooBig number size)) = ⊥

-- what an ending says of the schedule
abbrev pub IsEndingOf : Schedule → Bool → Ending → Type 0
IsEndingOf s quit (endings.StepCycle list) = (QuitsNow s quit → ⊥) × by_schedule.IsStepCycle s list
IsEndingOf s quit (endings.Ended lists) = IsListOf (IsFailed s) lists.failed × IsListOf (IsSkipped s quit) lists.skipped

-- ---- over a host whose files are visible

-- What an ending says of a run: its step cycle; or its lists, where none is stuck. A wanted file that is not missing is
-- given.
abbrev pub EndingIsTrue : Update → List ChildEvent → Ending → Type 0
EndingIsTrue u events (endings.StepCycle list) = IsStepCycle u events list
EndingIsTrue u events (endings.Ended lists) = NoneStuck u events × AreLists u events (lists_of lists)
    × ((path : List ℕ) → Contains u.build.wanted path → (Contains lists.missing path → ⊥) → IsGiven u.build path)

-- what is told at the end of a run
abbrev pub EndingTold : Plan → Looks → Bool → Outside → Sights → Outside → Result Ending FilesStop → Type 0
EndingTold plan l quit old s new result = BothTold (λ before after. (u : Update) (events : List ChildEvent)
    (first : List LogLine) (reads : List Read) → IsUpdateBy plan l u → u.quit ≡ quit → IsRun u events
    → IsUnderWay u events first reads before s → AreTrueLooks u events before s l → IsToldAtRest u events before s l
    → IfOk result (EndingIsTrue u events)) old.disk new.disk
