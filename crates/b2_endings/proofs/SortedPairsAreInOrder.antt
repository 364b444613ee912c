-- In a strictly sorted list each two keys are in order, also those that are no neighbours.
use Rattle.std.proofs.Common.{◌≡◌, List, [], ◌∷◌, arith}
use Rattle.std.specs.List.{AllPairs}
use Rattle.std.specs.List.Sorted.{IsStrictlySortedBy}
use Rattle.std.proofs.lemmas.List.Elements.{All-from_recursion}
use Rattle.std.proofs.lemmas.List.Kept.{AllPairs-cons}
use Rattle.std.specs.declared.cmp.Ordering.{Ordering}
use Rattle.std.specs.declared.cmp.Ordering.TheVariants.{Less}

-- where each key is below those after it, each two are in order
pub pairs_in_order : {K : Type 0} (cmp : K → K → Ordering) (keys : List K) → IsStrictlySortedBy cmp keys → AllPairs (λ x y. cmp x y ≡ Less) keys
unfolding IsStrictlySortedBy
pairs_in_order cmp [] s = λ i j d h k. absurd (omega arith)
pairs_in_order cmp (x ∷ xs) s = AllPairs-cons (λ x y. cmp x y ≡ Less) x xs (All-from_recursion _ xs s.0) (pairs_in_order cmp xs s.1)
