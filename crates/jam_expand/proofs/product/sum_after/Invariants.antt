use Rattle.std.proofs.Common.{◌≡◌, ◌≤◌, ◌++◌, List, ℕ, length, take, map}
use Rattle.jam_expand.specs.Limits.{limit, IsWithin}
use Rattle.jam_expand.proofs.product.sum_after.Given as goal

abbrev pub invariant-loop-other : goal.invariant-loop-other
invariant-loop-other l = record {
  so_far : (texts : List (List ℕ)) (first : List ℕ) → IsWithin texts l.fn.sum → length first ≡ l.len → IsWithin (texts ++ map (λ other. first ++ other) (take l.other-index l.others)) l.sum;
  small : l.sum ≤ limit;
}
