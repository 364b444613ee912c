-- The places of a table's paths: no path has two, the search for a path answers its own, and one path more is put at the end.
use Rattle.std.proofs.Common.{◌≡◌, inl, inr, ℕ, zero, suc, ◌<◌, Bool, true, false, cond, List, [], ◌∷◌, ◌++◌, length, slice_get, Some, refl, sym, ◌∙◌, ap, subst, arith}
use Rattle.std.specs.Str.{bytes_eq}
use Rattle.std.specs.List.{Contains, IsDistinct, list_any, position}
use Rattle.std.specs.Cmp.Lexicographic.{bytes_decides, nat_list_eq_equiv}
use Rattle.std.proofs.lemmas.Bool.{cases_lt, false≢true}
use Rattle.std.proofs.lemmas.Option.{slice_get_within, slice_get-get_or, get_or_from_slice_get}
use Rattle.std.proofs.lemmas.List.Quantifiers.{position-Some}
use Rattle.std.proofs.lemmas.Map.Keys.{apart_from_distinct}
use Rattle.std.proofs.lemmas.Map.Views.{Contains-from_any, list_any-from_Contains}
use Rattle.indexmap.specs.IndexSet.{insert_key}
use Rattle.b2_paths.specs.PathTables.{IsPlaceOf, AreDistinct}
use Rattle.b2_paths.specs.Laws.{PlacesStay, ListedHasPlace}

-- what stands in the front of a longer list
get_front : {X : Type 0} (xs ys : List X) (k : ℕ) → k < length xs → slice_get (xs ++ ys) k ≡ slice_get xs k
get_front [] ys k within = absurd (omega arith)
get_front (x ∷ xs) ys zero within = refl
get_front (x ∷ xs) ys (suc k) within = get_front xs ys k (omega arith)

get_last : {X : Type 0} (xs : List X) (x : X) → slice_get (xs ++ x ∷ []) (length xs) ≡ Some x
get_last [] x = refl
get_last (y ∷ xs) x = get_last xs x

pub places_stay : PlacesStay
places_stay paths more path place is = get_front paths more place (slice_get_within paths place path is) ∙ is

pub listed_has_place : ListedHasPlace
listed_has_place paths path = (
  λ c. (c.0, slice_get-get_or paths c.0 path c.1 ∙ ap Some c.2),
  λ p. (p.0, slice_get_within paths p.0 path p.1, get_or_from_slice_get paths p.0 path path p.1),
)

-- no path has two places where no two paths are equal
pub are_distinct : (paths : List (List ℕ)) → IsDistinct bytes_eq paths → AreDistinct paths
are_distinct paths differ path place other here there = elim (cases_lt place other) [
  | inl before ↦ absurd (apart place other here there before)
  | inr from ↦ elim (cases_lt other place) [ inl after ↦ absurd (apart other place there here after) | inr to ↦ omega (arith, from, to) ]
]
  where
    apart : (i j : ℕ) → IsPlaceOf paths path i → IsPlaceOf paths path j → i < j → ⊥
    apart i j first second before =
        let equal = get_or_from_slice_get paths i path path first ∙ sym (get_or_from_slice_get paths j path path second) in
        false≢true (sym (apart_from_distinct bytes_eq paths i j path differ before (slice_get_within paths j path second)) ∙ (bytes_decides _ _).1 equal)

-- where the search for a path ends, the path stands
pub found_place : (paths : List (List ℕ)) (path : List ℕ) (place : ℕ) → position (bytes_eq path) paths ≡ Some place → IsPlaceOf paths path place
found_place paths path place found =
    let at = position-Some (bytes_eq path) paths place path found in
    slice_get-get_or paths place path at.0 ∙ ap Some (sym ((bytes_decides path _).0 at.1))

-- a path that is equal to none of those listed is not among them
pub none_listed : (paths : List (List ℕ)) (path : List ℕ) → list_any (bytes_eq path) paths ≡ false → Contains paths path → ⊥
none_listed paths path none among = false≢true (sym none ∙ list_any-from_Contains nat_list_eq_equiv path paths among)

-- a path that is not listed is put at the end
pub put_last : (paths after : List (List ℕ)) (path key : List ℕ) → after ≡ insert_key bytes_eq paths key → key ≡ path → (Contains paths path → ⊥) → after ≡ paths ++ path ∷ []
put_last paths after path key put same absent = put ∙ ap (insert_key bytes_eq paths) same ∙ go (list_any (bytes_eq path) paths) refl
  where
    go : (b : Bool) → list_any (bytes_eq path) paths ≡ b → insert_key bytes_eq paths path ≡ paths ++ path ∷ []
    go true e = absurd (absent (Contains-from_any (λ x y. (bytes_decides x y).0) path paths e))
    go false e = ap (λ b. cond b paths (paths ++ path ∷ [])) e

-- and stands there
pub last_place : (paths after : List (List ℕ)) (path : List ℕ) (number : ℕ) → after ≡ paths ++ path ∷ [] → number ≡ length paths → IsPlaceOf after path number
last_place paths after path number put e = ap (λ ps. slice_get ps number) put ∙ subst (λ n. slice_get (paths ++ path ∷ []) n ≡ Some path) (sym e) (get_last paths path)
