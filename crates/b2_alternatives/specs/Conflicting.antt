-- What the search for a conflict keeps.
use Rattle.std.specs.Prelude.{◌≡◌, ℕ, List, ◌++◌, Option, Some, None, if◌then◌else◌}
use Rattle.std.specs.Option.{option_or}
use Rattle.std.specs.FinMap as map
use Rattle.std.specs.Str.{bytes_eq}
use Rattle.b2_features.specs.Table.{DeclaredFeature}
use Rattle.b2_props.specs.Sets.{Pair}
use Rattle.b2_alternatives.specs.Needs.{conflict_after}
use Rattle.b2_alternatives.specs.DependencyWork.{AreValues}
use Rattle.b2_alternatives.specs.declared.conflict.Conflict.{Conflict}
use Rattle.b2_alternatives.specs.declared.conflict.Values.{Values}

-- the feature of a pair has its value, where it had none
abbrev pub HasFirst : Pair → Values → Values → Type 0
HasFirst p old new =
    (q : List ℕ) → map.get new.first q ≡ (if bytes_eq q p.0 then option_or (map.get old.first q) (Some p.1) else map.get old.first q)

-- the values of pairs that go together are kept
abbrev pub KeptIfNone : List Pair → Values → Option Conflict → Type 0
KeptIfNone pairs values None = AreValues pairs values
KeptIfNone pairs values (Some found) = Unit {0}

-- pairs after others have this conflict; where they have none, the values of all are kept
pub record Meets (table : List DeclaredFeature) (before pairs : List Pair) (values : Values) (found : Option Conflict) : Type 0 where
  pub exact : found ≡ conflict_after table before pairs
  pub kept : KeptIfNone (before ++ pairs) values found
