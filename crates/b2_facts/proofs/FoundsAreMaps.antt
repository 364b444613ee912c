-- Entries that differ at one pair make maps that differ there.
use Rattle.std.proofs.Common.{◌≡◌, ℕ, cond, List, [], ◌∷◌, Option, Some, refl, sym, ◌∙◌, ap}
use Rattle.std.specs.FinMap.{get, insert, from_entries, get-from_entries, get-insert, same_map}
use Rattle.std.specs.FinMap.Entries.{find}
use Rattle.std.specs.Map.{lookup}
use Rattle.std.specs.BTreeMap.{is_at}
use Rattle.std.proofs.lemmas.Cmp.{eq_by_cmp_equiv}
use Rattle.b2_paths.specs.PairMaps.{pair_cmp}
use Rattle.b2_paths.proofs.PairsAreKeys.{pairs_total, pairs_exact}

-- what entries have at a pair
abbrev at_pair : List ((ℕ × ℕ) × List ℕ) → ℕ × ℕ → Option (List ℕ)
at_pair entries pair = lookup (is_at (pair_cmp pair)) entries

find_pair : (es : List ((ℕ × ℕ) × List ℕ)) (q : ℕ × ℕ) → find pair_cmp q es ≡ at_pair es q
find_pair [] q = refl
find_pair (e ∷ es) q = ap (cond (is_at (pair_cmp q) e.0) (Some e.1)) (find_pair es q)

-- what the map that entries make has at a pair
pub get_pair : (es : List ((ℕ × ℕ) × List ℕ)) (q : ℕ × ℕ) → get (from_entries {R = pair_cmp} es) q ≡ at_pair es q
get_pair es q = get-from_entries pairs_total es q ∙ find_pair es q

-- entries that differ at one pair
pub one_pair : (es fs : List ((ℕ × ℕ) × List ℕ)) (s : ℕ × ℕ) (v : List ℕ) → ((q : ℕ × ℕ) → at_pair fs q ≡ cond (is_at (pair_cmp s) q) (Some v) (at_pair es q)) → from_entries {R = pair_cmp} fs ≡ insert (from_entries es) s v
one_pair es fs s v h = same_map pairs_total pairs_exact _ _ (λ q.
    get_pair fs q ∙ h q ∙ ap (λ b. cond b (Some v) (at_pair es q)) ((eq_by_cmp_equiv pairs_total).symm s q)
    ∙ sym (get-insert pairs_total (from_entries es) s v q ∙ ap (cond _ (Some v)) (get_pair es q)))
