-- A table of texts has at each text what its entries have there, also with one more entry.
use Rattle.std.proofs.Common.{◌≡◌, ℕ, cond, List, [], ◌∷◌, Some, refl, sym, ◌∙◌, ap₂}
use Rattle.std.specs.Map.{lookup}
use Rattle.std.specs.Str.{bytes_eq}
use Rattle.std.specs.FinMap.{get, insert, from_entries}
use Rattle.std.specs.Ordering.{nat_cmp}
use Rattle.std.specs.Cmp.Lexicographic.{slice_cmp}
use Rattle.std.proofs.lemmas.Map.Text.{is_eq-slice_cmp}
use Rattle.b2_base.proofs.MapsHoldWhatEntriesHold.{at_text, get_text, one_text}

-- equal bytes and the order of texts find the same entry
by_order : {V : Type 0} (es : List (List ℕ × V)) (q : List ℕ) → lookup (bytes_eq q) es ≡ at_text es q
by_order [] q = refl
by_order (e ∷ es) q = ap₂ (λ b o. cond b (Some e.1) o) (sym (is_eq-slice_cmp q e.0)) (by_order es q)

-- what the map that entries make has at a text
pub get_hashed : {V : Type 0} (es : List (List ℕ × V)) (q : List ℕ) → lookup (bytes_eq q) es ≡ get (from_entries {R = slice_cmp nat_cmp} es) q
get_hashed es q = by_order es q ∙ sym (get_text es q)

-- entries that differ at one text make maps that differ there
pub one_hashed : {V : Type 0} (es fs : List (List ℕ × V)) (s : List ℕ) (v : V) → ((q : List ℕ) → lookup (bytes_eq q) fs ≡ cond (bytes_eq s q) (Some v) (lookup (bytes_eq q) es)) → from_entries {R = slice_cmp nat_cmp} fs ≡ insert (from_entries es) s v
one_hashed es fs s v h = one_text es fs s v (λ q. sym (by_order fs q) ∙ h q ∙ ap₂ (λ b o. cond b (Some v) o) (sym (is_eq-slice_cmp s q)) (by_order es q))
