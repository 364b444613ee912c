-- Which steps lead to failed ones, as it is found.
use Rattle.std.specs.Prelude.{◌≡◌, ◌↔◌, ◌⊎◌, ℕ, ◌<◌, ◌≤◌, ◌+◌, List, [], ◌∷◌, ◌++◌, Option, Some, None, length, slice_index_or, slice_set}
use Rattle.std.specs.List.{Contains}
use Rattle.b2_plan.specs.declared.step.Step.{Step}
use Rattle.b2_plan.specs.Plans.{step_at}
use Rattle.b2_endings.specs.declared.failed_lists.FailedLists.{FailedLists}
use Rattle.b2_sched.specs.SchedulerCalls.{MakesOneOf}
use Rattle.b2_sched.specs.Cycles.{NeedsIn}
use Rattle.b2_sched.specs.NumberSets.{Has}
use Rattle.b2_testing.specs.declared.pass_list.MarkedNumbers.{MarkedNumbers}
use Rattle.b2_testing.specs.declared.pass_list.Judge.{Judge}
use Rattle.b2_testing.specs.Verdicts.{Reaches}

-- the marks of the numbers that are below a size, and these numbers
pub record AreMarks (size : ℕ) (numbers : List ℕ) (marks : MarkedNumbers) : Type 0 where
  pub size_is : length marks.flags.items ≡ size
  pub flags_are : (i : ℕ) → i < size → Has marks.flags.items i ↔ Contains numbers i
  pub below : (i : ℕ) → Contains marks.numbers.items i ↔ (Contains numbers i × (i < size))

-- a step needs another one, if there is one
abbrev pub needed_too : Option ℕ → ℕ → List (List ℕ) → List (List ℕ)
needed_too None number dependents = dependents
needed_too (Some k) number dependents = slice_set dependents k (slice_index_or dependents k [] ++ number ∷ [])

-- a step needs the makers of these paths, besides all that was needed before
pub record HasNeeds (steps : List Step) (number : ℕ) (paths : List (List ℕ)) (before after : List (List ℕ)) : Type 0 where
  pub size : length after ≡ length before
  pub needs : (i k : ℕ) → NeedsIn after i k ↔ (NeedsIn before i k ⊎ ((i ≡ number) × MakesOneOf steps paths k))

-- a step has an output of another one among its declared inputs
pub record NeedsMaker (steps : List Step) (i k : ℕ) : Type 0 where
  pub step : Step
  pub at : step_at steps i ≡ Some step
  pub makes : MakesOneOf steps step.ins k

-- the lists are of those steps, up to a number, that have an output of each step among their declared inputs
pub record AreDependentsTo (steps : List Step) (last : ℕ) (dependents : List (List ℕ)) : Type 0 where
  pub size : length dependents ≡ length steps + 1
  pub needs : (i k : ℕ) → NeedsIn dependents i k ↔ (NeedsMaker steps i k × (i ≤ last))

abbrev pub AreDependents : List Step → List (List ℕ) → Type 0
AreDependents steps dependents = AreDependentsTo steps (length steps) dependents

-- what failed and was skipped, and what leads to a failed step
pub record IsJudgeOf (steps : List Step) (lists : FailedLists) (judge : Judge) : Type 0 where
  pub of_lists : judge.lists.now ≡ lists
  pub failed_are : AreMarks (length steps + 1) lists.failed judge.failed
  pub skipped_are : AreMarks (length steps + 1) lists.skipped judge.skipped
  pub led_are : (i : ℕ) → Has judge.led.items i ↔ Reaches steps judge.failed.numbers.items i
