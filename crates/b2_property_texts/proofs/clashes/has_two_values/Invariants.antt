use Rattle.std.proofs.Common.{◌≡◌, ℕ, List, false, take}
use Rattle.std.specs.List.{list_any}
use Rattle.std.specs.FinMap as map
use Rattle.b2_props.specs.Sets.{value_of}
use Rattle.b2_property_texts.specs.Clashes.{is_second_value}
use Rattle.b2_property_texts.proofs.clashes.has_two_values.Given as goal

-- the map has the first values of the pairs so far, and none of these pairs has another one
abbrev pub invariant-loop-pair : goal.invariant-loop-pair
invariant-loop-pair l = record {
  values : (q : List ℕ) → map.get l.values q ≡ value_of (take l.pair-index l.pairs) q;
  single : list_any (is_second_value l.registry l.pairs) (take l.pair-index l.pairs) ≡ false;
}
