use Rattle.std.proofs.Common.{◌≡◌, None, take}
use Rattle.std.specs.List.{filter_map}
use Rattle.b2_props.specs.Words.{first_of, pair_fault, implicit_pair}
use Rattle.b2_props.proofs.words.implicit_pairs.Given as goal

-- the properties so far are there, and none of them is a fault
abbrev pub invariant-loop-value : goal.invariant-loop-value
invariant-loop-value l = record {
  made : l.made.items ≡ filter_map (implicit_pair l.registry) (take l.value-index l.values);
  fine : first_of (pair_fault l.registry l.word) (filter_map (implicit_pair l.registry) (take l.value-index l.values)) ≡ None;
}
