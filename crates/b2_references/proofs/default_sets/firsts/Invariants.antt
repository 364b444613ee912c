use Rattle.std.proofs.Common.{◌≡◌, take}
use Rattle.std.specs.BTreeSet.{contains}
use Rattle.b2_props.specs.Holding.{pair_cmp}
use Rattle.b2_props.specs.Membership.{has}
use Rattle.b2_props.specs.Sets.{Pair, firsts}
use Rattle.b2_references.proofs.default_sets.firsts.Given as goal

-- those of the pairs so far
abbrev pub invariant-loop-pair : goal.invariant-loop-pair
invariant-loop-pair l = record {
  made : l.made ≡ firsts (take l.pair-index l.pairs);
  known : (pair : Pair) → contains pair_cmp l.known pair ≡ has (take l.pair-index l.pairs) pair;
}
