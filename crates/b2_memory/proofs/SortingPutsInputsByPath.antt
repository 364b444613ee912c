-- Inputs that a stable sort by path leaves are those put in place one by one.
use Rattle.std.proofs.Common.{◌≡◌, ℕ, Bool, true, false, cond, List, [], ◌∷◌, map, is_lt, nat_cmp, refl, ap, ◌∙◌}
use Rattle.std.proofs.lemmas.List.Sorted.{ranks_by}
use Rattle.std.specs.Cmp.{IsStrictWeakOrder}
use Rattle.std.specs.Cmp.Lexicographic.{slice_cmp, nat_list_cmp_total}
use Rattle.std.specs.List.Sorted.{IsSortedBy, IsStableBy}
use Rattle.std.specs.Borrow.{Bor}
use Rattle.b2_base.proofs.StableSortIsInsertionSort.{insert, sorted, sorted_is}
use Rattle.b2_files.specs.declared.file_bytes.FileBytes.{FileBytes}
use Rattle.b2_files.specs.Stores.{write_of, input_of}
use Rattle.b2_memory.specs.Results.{put_by_path, by_path}

module _ {X : Type 0} (input : X → List ℕ × List ℕ) where
  -- one has a path below the other's
  abbrev pub below : X → X → Bool
  below x y = is_lt (slice_cmp nat_cmp (input x).0 (input y).0)

  pub below_ranks : IsStrictWeakOrder below
  below_ranks = ranks_by nat_list_cmp_total (λ x. (input x).0)

  map-insert : (x : X) (ys : List X) → map input (insert below x ys) ≡ put_by_path (input x) (map input ys)
  map-insert x [] = refl
  map-insert x (y ∷ ys) =
      elim (below y x) as (λ b. map input (cond b (y ∷ insert below x ys) (x ∷ y ∷ ys)) ≡ cond b (input y ∷ put_by_path (input x) (map input ys)) (input x ∷ input y ∷ map input ys)) [
        | true ↦ ap (λ l. input y ∷ l) (map-insert x ys)
        | false ↦ refl
      ]

  pub map-sorted : (xs : List X) → map input (sorted below xs) ≡ by_path (map input xs)
  map-sorted [] = refl
  map-sorted (x ∷ xs) = map-insert x (sorted below xs) ∙ ap (put_by_path (input x)) (map-sorted xs)

  -- what a stable sort by path leaves
  pub by_path_from_sort : (xs ys : List X) → IsSortedBy below ys → IsStableBy below xs ys → map input ys ≡ by_path (map input xs)
  by_path_from_sort xs ys up stable = ap (map input) (sorted_is below_ranks xs ys up stable) ∙ map-sorted xs

-- the inputs that were handed over, as what references point to, once a stable sort by path has moved the references
pub held_in_order : (held : List FileBytes) (xs ys : List (Bor FileBytes)) → map (λ entry. entry.now) xs ≡ held → IsSortedBy (below input_of) ys → IsStableBy (below input_of) xs ys → map input_of ys ≡ by_path (map write_of held)
held_in_order held xs ys is up stable = by_path_from_sort input_of xs ys up stable ∙ ap by_path (parts xs ∙ ap (map write_of) is)
  where
    parts : (xs : List (Bor FileBytes)) → map input_of xs ≡ map write_of (map (λ entry. entry.now) xs)
    parts [] = refl
    parts (x ∷ xs) = ap (λ l. input_of x ∷ l) (parts xs)
