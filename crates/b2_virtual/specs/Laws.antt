-- Laws of joining steps.
use Rattle.std.specs.Prelude.{◌≡◌, ◌↔◌, ℕ, List, ◌⊎◌, Some, IsTrue}
use Rattle.std.specs.List.{Contains}
use Rattle.b2_plan.specs.declared.step.Step.{Step}
use Rattle.b2_plan.specs.Plans.{step_at}
use Rattle.b2_virtual.specs.Joining.{is_same, number_in, joined, AreDistinct}
use Rattle.b2_virtual.specs.Clashes.{IsFirstClash, Fits}

-- two steps count as equal exactly where they are one value
abbrev pub SameIsEqual : Type 0
SameIsEqual = (a b : Step) → IsTrue (is_same a b) ↔ (a ≡ b)

-- the number that a step gets is its number in the list that it joined
abbrev pub NumberIsItsOwn : Type 0
NumberIsItsOwn = (steps : List Step) (step : Step) → step_at (joined steps step) (number_in steps step) ≡ Some step

-- a step that stands keeps its number
abbrev pub NumbersStay : Type 0
NumbersStay = (steps : List Step) (step other : Step) (number : ℕ) → step_at steps number ≡ Some other → step_at (joined steps step) number ≡ Some other

-- to join a step again changes nothing, and it gets the same number
abbrev pub AgainIsSame : Type 0
AgainIsSame = (steps : List Step) (step : Step) → joined (joined steps step) step ≡ joined steps step

abbrev pub AgainHasNumber : Type 0
AgainHasNumber = (steps : List Step) (step : Step) → number_in (joined steps step) step ≡ number_in steps step

-- no step stands twice where none did
abbrev pub StaysDistinct : Type 0
StaysDistinct = (steps : List Step) (step : Step) → AreDistinct steps → AreDistinct (joined steps step)

-- what stands after a step joined is that step, or stood before
abbrev pub NothingElse : Type 0
NothingElse = (steps : List Step) (step other : Step) → Contains (joined steps step) other → Contains steps other ⊎ (other ≡ step)

-- there is one first output that cannot stand, and none where each of them can
abbrev pub FirstIsOne : Type 0
FirstIsOne = (steps : List Step) (step : Step) (path other : List ℕ) → IsFirstClash steps step path → IsFirstClash steps step other → path ≡ other

abbrev pub FittingHasNone : Type 0
FittingHasNone = (steps : List Step) (step : Step) (path : List ℕ) → Fits steps step → ¬ IsFirstClash steps step path
