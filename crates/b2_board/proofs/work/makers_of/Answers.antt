use Rattle.std.proofs.Common.{ℕ, List, sym, subst}
use Rattle.std.specs.List.{Contains}
use Rattle.std.proofs.lemmas.List.Filters.{dedup_is}
use Rattle.std.proofs.lemmas.List.Kept.{Contains-dedup_nat, Contains-from_dedup}
use Rattle.std.proofs.lemmas.List.Sorted.{Contains-permutation, IsPermutation-sym}
use Rattle.b2_board.proofs.work.makers_of.Goals as goal

pub returns : goal.returns
returns c =
    let is = dedup_is _ _ _ c.dedup.ensures.filtered in
    let moved = c.in_ok-sort.ensures.permutation in
    λ k. (
      λ x. (c.in_ok-makers.ensures k).0 (Contains-permutation _ _ k (IsPermutation-sym _ _ moved) (Contains-from_dedup _ _ k (subst (λ (l : List ℕ). Contains l k) is x))),
      λ m. subst (λ (l : List ℕ). Contains l k) (sym is) (Contains-dedup_nat _ k (Contains-permutation _ _ k moved ((c.in_ok-makers.ensures k).1 m))),
    )
