use Rattle.std.proofs.Common.{ℕ, ◌≤◌, List, ◌++◌, take}
use Rattle.jam_expand.specs.Limits.{limit, IsWithin}
use Rattle.jam_effects.proofs.naming.summed.Given as goal

abbrev pub invariant-loop-text : goal.invariant-loop-text
invariant-loop-text l = record {
  small : l.all ≤ limit;
  so_far : (list : List (List ℕ)) → IsWithin list l.sum → IsWithin (list ++ take l.text-index l.texts) l.all;
}
