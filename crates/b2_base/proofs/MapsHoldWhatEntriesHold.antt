-- The map made from entries has at each text what they have there, also after a change at one text; for maps by text.
use Rattle.std.proofs.Common.{◌≡◌, ℕ, true, cond, is_some, List, [], ◌∷◌, Option, Some, None, refl, ap, sym, ◌∙◌}
use Rattle.std.specs.Ordering.{nat_cmp}
use Rattle.std.specs.Cmp.Lexicographic.{slice_cmp}
use Rattle.std.specs.FinMap.{FinMap, get, insert, from_entries, get-from_entries, get-insert, same_map}
use Rattle.std.specs.FinMap.Entries.{find}
use Rattle.std.specs.Map.{lookup}
use Rattle.std.specs.BTreeMap.{is_at}
use Rattle.std.proofs.lemmas.Cmp.{nat_list_cmp_total, eq_by_cmp_equiv}
use Rattle.std.proofs.lemmas.Map.Lookups.{exact_bytes}

-- what entries have at a text
abbrev pub at_text : {V : Type 0} → List (List ℕ × V) → List ℕ → Option V
at_text entries text = lookup (is_at (slice_cmp nat_cmp text)) entries

find_text : {V : Type 0} (es : List (List ℕ × V)) (q : List ℕ) → find (slice_cmp nat_cmp) q es ≡ at_text es q
find_text [] q = refl
find_text (e ∷ es) q = ap (cond (is_at (slice_cmp nat_cmp q) e.0) (Some e.1)) (find_text es q)

-- what the map that entries make has at a text
pub get_text : {V : Type 0} (es : List (List ℕ × V)) (q : List ℕ) → get (from_entries {R = slice_cmp nat_cmp} es) q ≡ at_text es q
get_text es q = get-from_entries nat_list_cmp_total es q ∙ find_text es q

-- entries that differ at one text make maps that differ there
pub one_text : {V : Type 0} (es fs : List (List ℕ × V)) (s : List ℕ) (v : V) → ((q : List ℕ) → at_text fs q ≡ cond (is_at (slice_cmp nat_cmp s) q) (Some v) (at_text es q)) → from_entries {R = slice_cmp nat_cmp} fs ≡ insert (from_entries es) s v
one_text es fs s v h = same_map nat_list_cmp_total exact_bytes _ _ (λ q.
    get_text fs q ∙ h q ∙ ap (λ b. cond b (Some v) (at_text es q)) ((eq_by_cmp_equiv nat_list_cmp_total).symm s q)
    ∙ sym (get-insert nat_list_cmp_total (from_entries es) s v q ∙ ap (cond _ (Some v)) (get_text es q)))

-- another value at a text that has one
pub set_found : {V : Type 0} (m : FinMap (slice_cmp nat_cmp) V) (es fs : List (List ℕ × V)) (s : List ℕ) (v : V) → from_entries es ≡ m → is_some (at_text es s) ≡ true → ((q : List ℕ) → at_text fs q ≡ cond (is_at (slice_cmp nat_cmp s) q) (Some v) (at_text es q)) → from_entries fs ≡ cond (is_some (get m s)) (insert m s v) m
set_found m es fs s v e found h =
    one_text es fs s v h ∙ ap (λ n. insert n s v) e
    ∙ sym (ap (λ b. cond b (insert m s v) m) (ap (λ n. is_some (get n s)) (sym e) ∙ ap is_some (get_text es s) ∙ found))

-- a text without a value
pub set_absent : {V : Type 0} (m : FinMap (slice_cmp nat_cmp) V) (es fs : List (List ℕ × V)) (s : List ℕ) (v : V) → from_entries es ≡ m → fs ≡ es → at_text es s ≡ None → from_entries fs ≡ cond (is_some (get m s)) (insert m s v) m
set_absent m es fs s v e same absent =
    ap from_entries same ∙ e
    ∙ sym (ap (λ b. cond b (insert m s v) m) (ap (λ n. is_some (get n s)) (sym e) ∙ ap is_some (get_text es s) ∙ ap is_some absent))
