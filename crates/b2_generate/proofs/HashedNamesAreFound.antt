-- A table of main targets has at each name what its entries have there, also with one more entry.
use Rattle.std.proofs.Common.{◌≡◌, cond, List, [], ◌∷◌, Some, refl, sym, ◌∙◌, ap₂}
use Rattle.std.specs.Map.{lookup}
use Rattle.std.specs.FinMap.{get, insert, from_entries}
use Rattle.b2_references.specs.Names.{Name, is_same}
use Rattle.b2_generate.specs.Tables.{name_cmp}
use Rattle.b2_generate.proofs.MapHasWhatEntriesHave.{at_name, get_name, one_name}
use Rattle.b2_generate.proofs.SameNamesAreEqual.{names_tied}

-- the same names and their order find the same entry
by_order : {V : Type 0} (es : List (Name × V)) (q : Name) → lookup (is_same q) es ≡ at_name es q
by_order [] q = refl
by_order (e ∷ es) q = ap₂ (λ b o. cond b (Some e.1) o) (sym (names_tied q e.0)) (by_order es q)

-- what the map that entries make has at a name
pub get_hashed : {V : Type 0} (es : List (Name × V)) (q : Name) → lookup (is_same q) es ≡ get (from_entries {R = name_cmp} es) q
get_hashed es q = by_order es q ∙ sym (get_name es q)

-- entries that differ at one name make maps that differ there
pub one_hashed : {V : Type 0} (es fs : List (Name × V)) (s : Name) (v : V) → ((q : Name) → lookup (is_same q) fs ≡ cond (is_same s q) (Some v) (lookup (is_same q) es)) → from_entries {R = name_cmp} fs ≡ insert (from_entries es) s v
one_hashed es fs s v h = one_name es fs s v (λ q. sym (by_order fs q) ∙ h q ∙ ap₂ (λ b o. cond b (Some v) o) (sym (names_tied s q)) (by_order es q))
