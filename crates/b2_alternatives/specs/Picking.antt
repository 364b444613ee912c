-- What the parts of a choice promise.
use Rattle.std.specs.Prelude.{◌≡◌, ℕ, suc, List, Some, Result, Ok, Err, slice_get}
use Rattle.b2_props.specs.Sets.{Pair, IsSet}
use Rattle.b2_refine.specs.Choices.{IsChoice}
use Rattle.b2_refine.specs.declared.choice.Choice.TheVariants as choices
use Rattle.b2_declared.specs.declared.place.Target.{Target}
use Rattle.b2_declared.specs.declared.whole.Declared.{Declared}
use Rattle.b2_references.specs.Names.{Name, features, alternatives}
use Rattle.b2_alternatives.specs.Choosing.{Returned, Chosen, full_set, conditions, Chooses}
use Rattle.b2_alternatives.specs.declared.fault.ChoiceFault.{ChoiceFault}
use Rattle.b2_alternatives.specs.declared.fault.ChoiceFault.TheVariants.{NoAlternative, AmbiguousAlternative, Unstable, BadAnswer, Eval, OutOfMemory}
use Rattle.b2_alternatives.specs.declared.choosing.ChosenAlternative.{ChosenAlternative}
use Rattle.b2_alternatives.specs.declared.choosing.FullChoice.{FullChoice}
use Rattle.b2_alternatives.specs.declared.choosing.TargetChoice.{TargetChoice}
use Rattle.b2_alternatives.specs.declared.choosing.TargetChoice.TheVariants.{None, Ambiguous, One}

-- what was settled on for a main target
abbrev pub seen : Name → ChosenAlternative → Chosen
seen name c = record { name = name; number = c.number; target = c.target.now; set = c.set }

-- this alternative stands at the place of a number
pub record IsAt (d : Declared) (name : Name) (full : List Pair) (number : ℕ) (t : Target) : Type 0 where
  pub place : ℕ
  pub number_is : number ≡ suc place
  pub choice : IsChoice full (conditions d name) (choices.One (suc place))
  pub at : slice_get (alternatives d name) place ≡ Some t

-- which alternative a full set chooses
abbrev pub IsPicked : Declared → Name → List Pair → TargetChoice → Type 0
IsPicked d name full None = IsChoice full (conditions d name) choices.None
IsPicked d name full (Ambiguous i k) = IsChoice full (conditions d name) (choices.Ambiguous i k)
IsPicked d name full (One number target) = IsAt d name full number target.now

-- the alternative that the full set of a main target chooses
pub record IsSelection (d : Declared) (name : Name) (set : List Pair) (s : FullChoice) : Type 0 where
  pub full : s.full ≡ full_set d name set
  pub is_set : IsSet (features d) s.full
  pub at : IsAt d name s.full s.number s.target.now

-- this is why no alternative is chosen, whatever rules return; or memory ran out
abbrev pub IsUnpicked : {E : Type 0} → Declared → Name → List Pair → ChoiceFault E → Type 0
IsUnpicked {E} d name set (NoAlternative target full) = (returned : Returned E) → Chooses d returned name set (Err (NoAlternative target full))
IsUnpicked {E} d name set (AmbiguousAlternative target full i k) = (returned : Returned E) → Chooses d returned name set (Err (AmbiguousAlternative target full i k))
IsUnpicked d name set (Unstable target first second) = ⊥
IsUnpicked d name set (BadAnswer target rule word) = ⊥
IsUnpicked d name set (Eval fault) = ⊥
IsUnpicked d name set OutOfMemory = Unit {0}

abbrev pub IsSelected : {E : Type 0} → Declared → Name → List Pair → Result FullChoice (ChoiceFault E) → Type 0
IsSelected d name set (Ok s) = IsSelection d name set s
IsSelected d name set (Err fault) = IsUnpicked d name set fault
