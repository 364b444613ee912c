-- The map that entries make has at each path what a search among them finds there, also after a path was given a number.
use Rattle.std.proofs.Common.{◌≡◌, ℕ, cond, List, [], ◌∷◌, Some, refl, ap, sym, ◌∙◌}
use Rattle.std.specs.Ordering.{nat_cmp}
use Rattle.std.specs.Cmp.Lexicographic.{slice_cmp, nat_list_eq_equiv}
use Rattle.std.specs.FinMap.{get, insert, from_entries, get-from_entries, same_map}
use Rattle.std.specs.FinMap.Entries.{find}
use Rattle.std.specs.Map.{lookup}
use Rattle.std.specs.Str.{bytes_eq}
use Rattle.std.proofs.lemmas.Cmp.{nat_list_cmp_total}
use Rattle.std.proofs.lemmas.Map.Lookups.{exact_bytes}
use Rattle.std.proofs.lemmas.Map.Text.{is_eq-slice_cmp}
use Rattle.b2_plan.proofs.MakersGrowByOne.{get_put}

find_path : (es : List (List ℕ × ℕ)) (path : List ℕ) → find (slice_cmp nat_cmp) path es ≡ lookup (bytes_eq path) es
find_path [] path = refl
find_path (e ∷ es) path =
    ap (λ b. cond b (Some e.1) (find (slice_cmp nat_cmp) path es)) (is_eq-slice_cmp path e.0)
    ∙ ap (cond (bytes_eq path e.0) (Some e.1)) (find_path es path)

-- what the map that entries make has at a path
pub get_path : (es : List (List ℕ × ℕ)) (path : List ℕ) → get (from_entries {R = slice_cmp nat_cmp} es) path ≡ lookup (bytes_eq path) es
get_path es path = get-from_entries nat_list_cmp_total es path ∙ find_path es path

-- entries that differ at one path make maps that differ there
pub one_path : (es fs : List (List ℕ × ℕ)) (path : List ℕ) (number : ℕ) → ((other : List ℕ) → lookup (bytes_eq other) fs ≡ cond (bytes_eq path other) (Some number) (lookup (bytes_eq other) es))
    → from_entries {R = slice_cmp nat_cmp} fs ≡ insert (from_entries es) path number
one_path es fs path number h = same_map nat_list_cmp_total exact_bytes _ _ (λ other.
    get_path fs other ∙ h other
    ∙ ap (λ b. cond b (Some number) (lookup (bytes_eq other) es)) (nat_list_eq_equiv.symm path other)
    ∙ sym (get_put (from_entries es) path number other ∙ ap (cond (bytes_eq other path) (Some number)) (get_path es other)))
