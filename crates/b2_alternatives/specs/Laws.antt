-- What a choice is, in other words.
use Rattle.std.specs.Prelude.{◌≡◌, false, List, Result, Ok}
use Rattle.b2_props.specs.Sets.{Pair}
use Rattle.b2_declared.specs.declared.whole.Declared.{Declared}
use Rattle.b2_declared.specs.declared.place.Target.{Target}
use Rattle.b2_references.specs.Names.{Name, is_among}
use Rattle.b2_alternatives.specs.declared.fault.ChoiceFault.{ChoiceFault}
use Rattle.b2_alternatives.specs.declared.need.Next.TheVariants.{Due}
use Rattle.b2_alternatives.specs.Choosing.{Returned, Chosen, Chooses}
use Rattle.b2_alternatives.specs.Needs.{Under, next}

-- a main target and a set have one choice at most
abbrev pub OneChoice : Type 0 → Type 0
OneChoice E = (d : Declared) (returned : Returned E) (name : Name) (set : List Pair) (a b : Result Chosen (ChoiceFault E)) → Chooses d returned name set a → Chooses d returned name set b → a ≡ b

-- what is chosen is of the main target
abbrev pub NamesItself : Type 0 → Type 0
NamesItself E = (d : Declared) (returned : Returned E) (name : Name) (set : List Pair) (c : Chosen) → Chooses d returned name set (Ok c) → c.name ≡ name

-- a main target that is due was not generated
abbrev pub DueIsNew : Type 0
DueIsNew = (d : Declared) (t : Target) (u : Under) (name : Name) → next d t u ≡ Due name → is_among u.done name ≡ false
