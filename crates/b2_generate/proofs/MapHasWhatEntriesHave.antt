-- A map by names of main targets has at each name what its entries have there, also with one more entry.
use Rattle.std.proofs.Common.{◌≡◌, cond, List, [], ◌∷◌, Option, Some, refl, ap, sym, ◌∙◌}
use Rattle.std.specs.declared.cmp.Ordering.{Ordering}
use Rattle.std.specs.declared.cmp.Ordering.TheVariants.{Less, Equal, Greater}
use Rattle.std.specs.Ordering.{nat_cmp, ordering_then}
use Rattle.std.specs.Cmp.{IsTotalOrder}
use Rattle.std.specs.Cmp.Lexicographic.{slice_cmp, on_texts}
use Rattle.std.specs.FinMap.{IsAntisymmetric, get, insert, from_entries, get-from_entries, get-insert, same_map, nat_cmp-IsAntisymmetric}
use Rattle.std.specs.FinMap.Entries.{find}
use Rattle.std.specs.Map.{lookup}
use Rattle.std.specs.BTreeMap.{is_at}
use Rattle.std.proofs.lemmas.Cmp.{then_total, on_total, nat_cmp_total, eq_by_cmp_equiv}
use Rattle.std.proofs.lemmas.Map.Lookups.{exact_bytes}
use Rattle.b2_references.specs.Names.{Name}
use Rattle.b2_generate.specs.Tables.{name_cmp}

pub name_order : IsTotalOrder name_cmp
name_order = then_total (on_total (λ (a : Name). a.0) nat_cmp_total) (on_texts (λ (a : Name). a.1))

both : (r s : Ordering) → ordering_then r s ≡ Equal → (r ≡ Equal) × (s ≡ Equal)
both Less s e = cc
both Equal s e = (refl, e)
both Greater s e = cc

names_tie : IsAntisymmetric name_cmp
names_tie x y e =
    let two = both (nat_cmp x.0 y.0) (slice_cmp nat_cmp x.1 y.1) e in
    λ i. (nat_cmp-IsAntisymmetric x.0 y.0 two.0 i, exact_bytes x.1 y.1 two.1 i)

-- what entries have at a name
abbrev pub at_name : {V : Type 0} → List (Name × V) → Name → Option V
at_name entries name = lookup (is_at (name_cmp name)) entries

find_name : {V : Type 0} (es : List (Name × V)) (q : Name) → find (name_cmp) q es ≡ at_name es q
find_name [] q = refl
find_name (e ∷ es) q = ap (cond (is_at (name_cmp q) e.0) (Some e.1)) (find_name es q)

-- what the map that entries make has at a name
pub get_name : {V : Type 0} (es : List (Name × V)) (q : Name) → get (from_entries {R = name_cmp} es) q ≡ at_name es q
get_name es q = get-from_entries name_order es q ∙ find_name es q

-- entries that differ at one name make maps that differ there
pub one_name : {V : Type 0} (es fs : List (Name × V)) (s : Name) (v : V) → ((q : Name) → at_name fs q ≡ cond (is_at (name_cmp s) q) (Some v) (at_name es q)) → from_entries {R = name_cmp} fs ≡ insert (from_entries es) s v
one_name es fs s v h = same_map name_order names_tie _ _ (λ q.
    get_name fs q ∙ h q ∙ ap (λ b. cond b (Some v) (at_name es q)) ((eq_by_cmp_equiv name_order).symm s q)
    ∙ sym (get-insert name_order (from_entries es) s v q ∙ ap (cond _ (Some v)) (get_name es q)))
