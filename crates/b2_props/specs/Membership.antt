use Rattle.std.specs.Prelude.{Bool, List}
use Rattle.std.specs.List.{list_any, list_all}
use Rattle.b2_props.specs.Sets.{Pair, same}

-- whether some pairs have a pair
abbrev pub has : List Pair → Pair → Bool
has pairs pair = list_any (λ p. same p pair) pairs

-- whether some pairs have all of some others
abbrev pub has_all : List Pair → List Pair → Bool
has_all pairs others = list_all (has pairs) others
