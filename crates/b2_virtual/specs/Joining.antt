-- What joining steps, one after another, makes of a list of steps.
use Rattle.std.specs.Prelude.{◌≡◌, ℕ, suc, Bool, ◌&&◌, List, [], ◌∷◌, ◌++◌, Option, Some, None, if◌then◌else◌}
use Rattle.std.specs.List.{list_any}
use Rattle.std.specs.Bool.{beq}
use Rattle.std.specs.Str.{bytes_eq}
use Rattle.std.specs.Cmp.Lexicographic.{pointwise}
use Rattle.b2_plan.specs.declared.step.Step.{Step}
use Rattle.b2_plan.specs.Plans.{step_at}

-- Two steps are equal where all their parts are.
unfoldable pub is_same : Step → Step → Bool
is_same a b =
    bytes_eq a.name b.name && bytes_eq a.text b.text
    && pointwise bytes_eq a.outs b.outs && pointwise bytes_eq a.ins b.ins && pointwise bytes_eq a.dirs b.dirs
    && beq a.always b.always && beq a.notfile b.notfile

-- an equal step is among these
abbrev pub stands_in : List Step → Step → Bool
stands_in steps step = list_any (is_same step) steps

-- the number of the first step that is equal, else the next number
abbrev pub number_in : List Step → Step → ℕ
number_in [] step = 1
number_in (first ∷ more) step = if is_same step first then 1 else suc (number_in more step)

-- A step joins others: where an equal one is among them they stay as they are, else it stands at their end.
abbrev pub joined : List Step → Step → List Step
joined steps step = if stands_in steps step then steps else steps ++ step ∷ []

-- the number of an equal step, where one stands
abbrev pub number_of : List Step → Step → Option ℕ
number_of steps step = if stands_in steps step then Some (number_in steps step) else None

-- no step stands twice
abbrev pub AreDistinct : List Step → Type 0
AreDistinct steps = (i k : ℕ) (step : Step) → step_at steps i ≡ Some step → step_at steps k ≡ Some step → i ≡ k
