-- What each refusal says.
use Rattle.std.specs.Prelude.{◌≡◌, ℕ, false, List, length}
use Rattle.b2_plan.specs.declared.step.Step.{Step}
use Rattle.b2_virtual.specs.declared.fault.VirtualFault.{VirtualFault}
use Rattle.b2_virtual.specs.declared.fault.VirtualFault.TheVariants.{PathClash, LocationOutside, TooManySteps, OutOfMemory}
use Rattle.b2_virtual.specs.Joining.{stands_in}
use Rattle.b2_virtual.specs.Clashes.{IsFirstClash, Fits}
use Rattle.b2_virtual.specs.Paths.{located, IsPlaced}

-- a step that is refused is none of those that stand
abbrev pub IsOfNew : List Step → Step → VirtualFault → Type 0
IsOfNew steps step (PathClash path) = stands_in steps step ≡ false
IsOfNew steps step (LocationOutside path) = Unit {0}
IsOfNew steps step (TooManySteps count) = stands_in steps step ≡ false
IsOfNew steps step OutOfMemory = Unit {0}

-- a clash names the first output that cannot stand
abbrev pub IsClashBy : List Step → Step → VirtualFault → Type 0
IsClashBy steps step (PathClash path) = IsFirstClash steps step path
IsClashBy steps step (LocationOutside path) = Unit {0}
IsClashBy steps step (TooManySteps count) = Unit {0}
IsClashBy steps step OutOfMemory = Unit {0}

-- too many steps: each output could stand, and the step would be the next after 65,536
abbrev pub IsTooManyBy : List Step → Step → VirtualFault → Type 0
IsTooManyBy steps step (PathClash path) = Unit {0}
IsTooManyBy steps step (LocationOutside path) = Unit {0}
IsTooManyBy steps step (TooManySteps count) = Fits steps step × (length steps ≡ 65536) × (count ≡ 65537)
IsTooManyBy steps step OutOfMemory = Unit {0}

-- no refusal of a location
abbrev pub IsOfStep : VirtualFault → Type 0
IsOfStep (PathClash path) = Unit {0}
IsOfStep (LocationOutside path) = ⊥
IsOfStep (TooManySteps count) = Unit {0}
IsOfStep OutOfMemory = Unit {0}

-- a refusal of a location alone: it names the path of the file that would lie outside
abbrev pub IsOutsideBy : List (List ℕ) → List ℕ → List ℕ → List ℕ → VirtualFault → Type 0
IsOutsideBy roots dir location name (PathClash path) = ⊥
IsOutsideBy roots dir location name (LocationOutside path) = (path ≡ located dir location name) × ¬ IsPlaced roots dir location name
IsOutsideBy roots dir location name (TooManySteps count) = ⊥
IsOutsideBy roots dir location name OutOfMemory = Unit {0}
