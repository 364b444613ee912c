-- The keys of a map are the paths that it has, each once, in byte order: for the call that lists them.
use Rattle.std.proofs.Common.{◌≡◌, ℕ, ◌||◌, is_some, List, [], ◌∷◌, refl, ap, ap₂, sym, ◌∙◌, subst}
use Rattle.std.specs.Ordering.{nat_cmp, eq_by_cmp}
use Rattle.std.specs.Cmp.Lexicographic.{slice_cmp}
use Rattle.std.specs.FinMap as map
use Rattle.std.specs.BTreeMap as tree
use Rattle.std.specs.BTreeMap.{BTreeMap}
use Rattle.std.specs.List.{list_any}
use Rattle.std.specs.List.Sorted.{IsStrictlySortedBy}
use Rattle.std.specs.Str.{bytes_eq}
use Rattle.std.proofs.lemmas.Map.Text.{is_eq-slice_cmp}
use Rattle.b2_base.proofs.MapsHoldWhatEntriesHold.{get_text}
use Rattle.b2_base.specs.Keys.{AreKeys}

-- a test by order is one by bytes
same_test : (path : List ℕ) (keys : List (List ℕ)) → list_any (eq_by_cmp (slice_cmp nat_cmp) path) keys ≡ list_any (bytes_eq path) keys
same_test path [] = refl
same_test path (k ∷ keys) = ap₂ (λ a b. a || b) (is_eq-slice_cmp path k) (same_test path keys)

-- the keys of a map that a model is seen by
pub keys_are : {V : Type 0} (m : BTreeMap (List ℕ) V) (seen : map.FinMap (slice_cmp nat_cmp) V) (keys paths : List (List ℕ)) → map.from_entries m.entries ≡ seen → paths ≡ keys
    → ((path : List ℕ) → is_some (tree.get (slice_cmp nat_cmp) m path) ≡ list_any (eq_by_cmp (slice_cmp nat_cmp) path) keys) → IsStrictlySortedBy (slice_cmp nat_cmp) keys → AreKeys (λ path. is_some (map.get seen path)) paths
keys_are m seen keys paths view same has rising = record {
  each = λ path. ap (list_any (bytes_eq path)) same ∙ sym (same_test path keys) ∙ sym (has path) ∙ ap is_some (sym (get_text m.entries path)) ∙ ap (λ n. is_some (map.get n path)) view;
  rising = subst (IsStrictlySortedBy (slice_cmp nat_cmp)) (sym same) rising;
}
