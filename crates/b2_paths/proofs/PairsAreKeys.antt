-- Pairs of numbers as keys: their order tells them apart, and entries that differ at one pair make maps that differ there.
use Rattle.std.proofs.Common.{◌≡◌, ℕ, cond, List, [], ◌∷◌, Option, Some, refl, sym, ◌∙◌, ap}
use Rattle.std.specs.declared.cmp.Ordering.{Ordering}
use Rattle.std.specs.declared.cmp.Ordering.TheVariants.{Less, Equal, Greater}
use Rattle.std.specs.Ordering.{nat_cmp, ordering_then}
use Rattle.std.specs.Cmp.{IsTotalOrder, then_total, on_total}
use Rattle.std.specs.FinMap.{IsAntisymmetric, nat_cmp-IsAntisymmetric, get, insert, from_entries, get-from_entries, get-insert, same_map}
use Rattle.std.specs.FinMap.Entries.{find}
use Rattle.std.specs.Map.{lookup}
use Rattle.std.specs.BTreeMap.{is_at}
use Rattle.std.proofs.lemmas.Cmp.{nat_cmp_total, eq_by_cmp_equiv}
use Rattle.b2_paths.specs.PairMaps.{pair_cmp}
use Rattle.b2_paths.specs.Laws.{PairIsFound, OtherPairsStay}
use Rattle.b2_paths.proofs.MapsChangeAtOneKey.{at_key, at_other}

pub pairs_total : IsTotalOrder pair_cmp
pairs_total = then_total (on_total (λ (p : ℕ × ℕ). p.0) nat_cmp_total) (on_total (λ (p : ℕ × ℕ). p.1) nat_cmp_total)

pub pairs_exact : IsAntisymmetric pair_cmp
pairs_exact x y e = go (nat_cmp x.0 y.0) refl e
  where
    go : (r : Ordering) → nat_cmp x.0 y.0 ≡ r → ordering_then r (nat_cmp x.1 y.1) ≡ Equal → x ≡ y
    go Less first f = absurd (let h : Less ≡ Equal = f in cc)
    go Equal first f = λ i. (nat_cmp-IsAntisymmetric x.0 y.0 first i, nat_cmp-IsAntisymmetric x.1 y.1 f i)
    go Greater first f = absurd (let h : Greater ≡ Equal = f in cc)

-- what entries have at a pair
abbrev at_pair : List ((ℕ × ℕ) × ℕ) → ℕ × ℕ → Option ℕ
at_pair entries pair = lookup (is_at (pair_cmp pair)) entries

find_pair : (es : List ((ℕ × ℕ) × ℕ)) (q : ℕ × ℕ) → find pair_cmp q es ≡ at_pair es q
find_pair [] q = refl
find_pair (e ∷ es) q = ap (cond (is_at (pair_cmp q) e.0) (Some e.1)) (find_pair es q)

-- what the map that entries make has at a pair
pub get_pair : (es : List ((ℕ × ℕ) × ℕ)) (q : ℕ × ℕ) → get (from_entries {R = pair_cmp} es) q ≡ at_pair es q
get_pair es q = get-from_entries pairs_total es q ∙ find_pair es q

-- entries that differ at one pair
pub one_pair : (es fs : List ((ℕ × ℕ) × ℕ)) (s : ℕ × ℕ) (v : ℕ) → ((q : ℕ × ℕ) → at_pair fs q ≡ cond (is_at (pair_cmp s) q) (Some v) (at_pair es q)) → from_entries {R = pair_cmp} fs ≡ insert (from_entries es) s v
one_pair es fs s v h = same_map pairs_total pairs_exact _ _ (λ q.
    get_pair fs q ∙ h q ∙ ap (λ b. cond b (Some v) (at_pair es q)) ((eq_by_cmp_equiv pairs_total).symm s q)
    ∙ sym (get-insert pairs_total (from_entries es) s v q ∙ ap (cond _ (Some v)) (get_pair es q)))

pub pair_is_found : PairIsFound
pair_is_found pairs pair value = at_key pairs_total pairs_exact pairs pair value

pub other_pairs_stay : OtherPairsStay
other_pairs_stay pairs pair other value differs = at_other pairs_total pairs_exact pairs pair value other differs
