use Rattle.std.specs.Prelude.{◌≡◌, Bool, List}
use Rattle.std.specs.BTreeSet.{contains}
use Rattle.b2_props.specs.declared.pair_index.PairIndex.{PairIndex}
use Rattle.b2_props.specs.Sets.{Pair}
use Rattle.b2_props.specs.Membership.{has}
use Rattle.b2_props.specs.Holding.{pair_cmp}

-- whether an index has a pair
abbrev pub is_indexed : PairIndex → Pair → Bool
is_indexed index pair = contains pair_cmp index.known pair

-- an index has the pairs of a list, and no others
pub record IsIndexOf (pairs : List Pair) (index : PairIndex) : Type 0 where
  pub known : (pair : Pair) → is_indexed index pair ≡ has pairs pair
