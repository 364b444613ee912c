use Rattle.std.proofs.Common.{◌≡◌, None, take, map, List, ℕ}
use Rattle.b2_props.specs.Sets.{Pair}
use Rattle.b2_props.specs.Words.{first_of, pair_fault}
use Rattle.b2_props.proofs.words.named_pairs.Given as goal

-- the properties so far are there, and none of them is a fault
abbrev pub invariant-loop-value : goal.invariant-loop-value
invariant-loop-value l = record {
  made : l.made.items ≡ map (λ (value : List ℕ). let p : Pair = (l.feature, value) in p) (take l.value-index l.values);
  fine : first_of (pair_fault l.registry l.word) (map (λ (value : List ℕ). let p : Pair = (l.feature, value) in p) (take l.value-index l.values)) ≡ None;
}
