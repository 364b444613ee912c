use Rattle.std.proofs.Common.{◌≡◌, ◌∙◌, ℕ, List, sym, subst}
use Rattle.std.specs.List.{Contains}
use Rattle.std.proofs.lemmas.List.Filters.{dedup_is}
use Rattle.std.proofs.lemmas.List.Kept.{IsStrictlySortedBy-dedup, Contains-dedup, Contains-from_dedup}
use Rattle.std.proofs.lemmas.List.Sorted.{Contains-permutation, IsPermutation-sym}
use Rattle.std.specs.Cmp.Lexicographic.{texts_ties, nat_list_eq_equiv, nat_list_cmp_total}
use Rattle.b2_reach.proofs.FoundMakerMakesPath.{same_bytes}
use Rattle.b2_endings.proofs.SortedPairsAreInOrder.{pairs_in_order}
use Rattle.b2_endings.proofs.distinct.distinct.Goals as goal

pub returns-clause-rising : goal.returns-clause-rising
returns-clause-rising c = rw (c.from_vec.ensures) (rw (dedup_is _ _ _ c.dedup.ensures.filtered) (pairs_in_order _ _ (IsStrictlySortedBy-dedup nat_list_cmp_total texts_ties _ c.in_ok-sort.ensures.sorted)))

pub returns-clause-same : goal.returns-clause-same
returns-clause-same c =
    let is = dedup_is _ _ _ c.dedup.ensures.filtered in
    let moved = c.in_ok-sort.ensures.permutation in
    let before : c.into_vec-found.result.items ≡ c.args.paths.now = c.into_vec-found.ensures ∙ c.in_ok-copy_paths.ensures in
    λ path. (
      λ x.
          let kept = subst (λ (l : List (List ℕ)). Contains l path) is (subst (λ (l : List (List ℕ)). Contains l path) c.from_vec.ensures x) in
          subst (λ (l : List (List ℕ)). Contains l path) before (Contains-permutation _ _ path (IsPermutation-sym _ _ moved) (Contains-from_dedup _ _ path kept)),
      λ x.
          let there = Contains-permutation _ _ path moved (subst (λ (l : List (List ℕ)). Contains l path) (sym before) x) in
          subst (λ (l : List (List ℕ)). Contains l path) (sym c.from_vec.ensures) (subst (λ (l : List (List ℕ)). Contains l path) (sym is) (Contains-dedup nat_list_eq_equiv same_bytes _ path there)),
    )
