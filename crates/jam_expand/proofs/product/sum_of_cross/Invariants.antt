use Rattle.std.proofs.Common.{◌≡◌, ◌≤◌, ◌++◌, List, ℕ, length, take, map}
use Rattle.jam_expand.specs.Limits.{limit, IsWithin}
use Rattle.jam_expand.specs.Products.{cross}
use Rattle.jam_expand.proofs.product.sum_of_cross.Given as goal

abbrev pub invariant-loop-text : goal.invariant-loop-text
invariant-loop-text l = record {
  so_far : (first : List ℕ) → length first ≡ l.len → IsWithin (map (λ other. first ++ other) (cross (take l.text-index l.texts) l.others)) l.sum;
  small : l.sum ≤ limit;
}
