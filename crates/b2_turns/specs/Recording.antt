-- What it takes to append the record of a step that ended well.
use Rattle.std.specs.Prelude.{◌≡◌, ℕ, true, false, List, [], ◌∷◌, ◌++◌, Some, Result}
use Rattle.b2_host.specs.declared.children.ChildEvent.{ChildEvent}
use Rattle.b2_host.specs.declared.children.ChildEvent.TheVariants.{Done}
use Rattle.b2_host.specs.ChildProcesses.{BothTold}
use Rattle.b2_host.specs.Outside.{Outside, Read}
use Rattle.b2_plan.specs.declared.step.Step.{Step}
use Rattle.b2_plan.specs.Plans.{step_at}
use Rattle.b2_plan.specs.Closures.{Value, IsClosure}
use Rattle.b2_log.specs.declared.line.LogLine.{LogLine}
use Rattle.b2_runs.specs.Staleness.{Update}
use Rattle.b2_runs.specs.Runs.{on_settled}
use Rattle.b2_runs.specs.Soundness.{Distinguishes}
use Rattle.b2_facts.specs.declared.stop.FilesStop.{FilesStop}
use Rattle.b2_facts.specs.Facts.{Knowledge}
use Rattle.b2_reach.specs.declared.sights.Sights.{Sights}
use Rattle.b2_verdicts.specs.declared.step_numbers.StepNumbers.{StepNumbers}
use Rattle.b2_verdicts.specs.Cases.{AreNumbersOf}
use Rattle.b2_looks.specs.Judging.{OthersStayNoted, GoesOnWith}
use Rattle.b2_turns.specs.Ends.{HasEnded}

-- A step is to have its record after these events: it owes files, its closure is settled, and these are the numbers of its
-- files.
pub record IsToRecord (u : Update) (events : List ChildEvent) (number : ℕ) (step : Step) (numbers : StepNumbers)
    (members : List (List ℕ × Value)) (f : Knowledge) : Type 0 where
  pub at : step_at u.build.steps number ≡ Some step
  pub owes : step.notfile ≡ false
  pub closure : IsClosure u.build (on_settled u events) step members
  pub named : AreNumbersOf step members f numbers

-- What appending the record of a step tells that ended well: the records of the other steps stay, and P holds of the result.
abbrev pub RecordTold : {T : Type 0} → (T → Type 0) → Step → StepNumbers → Outside → Sights → Outside → Sights
    → Result T FilesStop → Type 0
RecordTold P step numbers old s new t result = BothTold (λ before after. (u : Update) (events : List ChildEvent) (i : ℕ)
    (first : List LogLine) (reads : List Read) (members : List (List ℕ × Value)) → Distinguishes u after.past
    → IsToRecord u (events ++ Done i true ∷ []) i step numbers members s.facts
    → HasEnded u events i true first reads before s
    → GoesOnWith u (events ++ Done i true ∷ []) first reads (λ x. P x
    × OthersStayNoted u (events ++ Done i true ∷ []) step before.now s.journal after.now t.journal) old new after t result)
    old.disk new.disk
