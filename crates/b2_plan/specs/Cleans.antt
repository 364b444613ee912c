use Rattle.std.specs.Prelude.{◌≡◌, ℕ, zero, suc, List, Some, None, ◌⊎◌, if◌then◌else◌, length}
use Rattle.b2_plan.specs.declared.step.Step.{Step}
use Rattle.b2_plan.specs.Plans.{Makes}
use Rattle.b2_plan.specs.Sources.{Build, IsSource}
use Rattle.b2_plan.specs.Closures.{Value, Values, IsClosure, with_bytes}

-- what a step with this closure gives its output
abbrev pub value_of : Build → Step → List (List ℕ × Value) → List ℕ → Value
value_of b step members path = if step.notfile then None else Some (b.made step.text (with_bytes members) path)

-- the path is an output of a step whose closure is known by v, and has this value
pub record IsBuilt (b : Build) (v : Values) (path : List ℕ) (value : Value) : Type 0 where
  pub number : ℕ
  pub step : Step
  pub makes : Makes b.steps number step path
  pub members : List (List ℕ × Value)
  pub closure : IsClosure b v step members
  pub is : value ≡ value_of b step members path

-- the value of a source is its bytes
abbrev pub IsSourceValue : Build → Values
IsSourceValue b path value = (bytes : List ℕ) × IsSource b path bytes × (value ≡ Some bytes)

-- the value of a path, by at most n steps one on another
abbrev pub Val : Build → ℕ → Values
Val b zero = IsSourceValue b
Val b (suc n) = λ path value. IsSourceValue b path value ⊎ IsBuilt b (Val b n) path value

-- the value of a path in the clean build
abbrev pub Clean : Build → Values
Clean b = Val b (length b.steps)
