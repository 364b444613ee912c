-- A stable sort of texts gives what putting each text in its place gives.
use Rattle.std.proofs.Common.{◌≡◌, ℕ, Bool, cond, List, [], ◌∷◌, is_lt, nat_cmp, refl, ap, ◌∙◌}
use Rattle.std.proofs.lemmas.List.Sorted.{ranks_by}
use Rattle.std.specs.Cmp.Lexicographic.{slice_cmp, nat_list_cmp_total}
use Rattle.std.specs.List.Sorted.{IsSortedBy, IsStableBy}
use Rattle.b2_base.proofs.StableSortIsInsertionSort.{insert, sorted as by_insertion, sorted_is}
use Rattle.jam_natives.specs.Texts.{put_sorted, sorted}

abbrev below : List ℕ → List ℕ → Bool
below x y = is_lt (slice_cmp nat_cmp x y)

insert_is : (x : List ℕ) (ys : List (List ℕ)) → insert below x ys ≡ put_sorted x ys
insert_is x [] = refl
insert_is x (y ∷ ys) = ap (λ l. cond (below y x) (y ∷ l) (x ∷ y ∷ ys)) (insert_is x ys)

placed_is : (xs : List (List ℕ)) → by_insertion below xs ≡ sorted xs
placed_is [] = refl
placed_is (x ∷ xs) = insert_is x (by_insertion below xs) ∙ ap (put_sorted x) (placed_is xs)

pub sorted_from_sort : (xs ys : List (List ℕ)) → IsSortedBy below ys → IsStableBy below xs ys → ys ≡ sorted xs
sorted_from_sort xs ys up stable = sorted_is (ranks_by nat_list_cmp_total (λ x. x)) xs ys up stable ∙ placed_is xs
