-- When names of main targets are the same, and what a map from them has.
use Rattle.std.proofs.Common.{◌≡◌, ◌==◌, Bool, true, false, cond, ◌&&◌, Some, refl, ap, ap₂, sym, ◌∙◌, if◌then◌else◌}
use Rattle.std.specs.declared.cmp.Ordering.{Ordering}
use Rattle.std.specs.declared.cmp.Ordering.TheVariants.{Less, Equal, Greater}
use Rattle.std.specs.Ordering.{nat_cmp, ordering_then, is_eq, eq_by_cmp}
use Rattle.std.specs.Cmp.{unsigned_tied}
use Rattle.std.specs.Cmp.Lexicographic.{slice_cmp}
use Rattle.std.specs.FinMap.{get, insert, get-insert}
use Rattle.std.specs.Str.{bytes_eq}
use Rattle.std.proofs.lemmas.Bool.{eqb-true}
use Rattle.std.proofs.lemmas.Cmp.{eq_by_cmp_equiv}
use Rattle.std.proofs.lemmas.Map.Text.{is_eq-slice_cmp}
use Rattle.b2_props.proofs.RepeatedPairsAddNothing.{text_is}
use Rattle.b2_references.specs.Names.{Name, is_same}
use Rattle.b2_generate.specs.Tables.{Table, name_cmp}
use Rattle.b2_generate.proofs.MapHasWhatEntriesHave.{name_order}

then_eq : (r s : Ordering) → is_eq (ordering_then r s) ≡ (is_eq r && is_eq s)
then_eq Less s = refl
then_eq Equal s = refl
then_eq Greater s = refl

-- the order ties those that are the same
pub names_tied : (a b : Name) → eq_by_cmp name_cmp a b ≡ is_same a b
names_tied a b = then_eq (nat_cmp a.0 b.0) (slice_cmp nat_cmp a.1 b.1) ∙ ap₂ ◌&&◌ (unsigned_tied a.0 b.0) (is_eq-slice_cmp a.1 b.1)

pub reflexive : (a : Name) → is_same a a ≡ true
reflexive a = sym (names_tied a a) ∙ (eq_by_cmp_equiv name_order).refl a

pub turned : (a b : Name) → is_same a b ≡ is_same b a
turned a b = sym (names_tied a b) ∙ (eq_by_cmp_equiv name_order).symm a b ∙ names_tied b a

both : (a b : Bool) → (a && b) ≡ true → (a ≡ true) × (b ≡ true)
both true b e = (refl, e)
both false b e = cc

pub same : (a b : Name) → is_same a b ≡ true → a ≡ b
same a b e =
    let two = both (a.0 == b.0) (bytes_eq a.1 b.1) e in
    λ i. (eqb-true a.0 b.0 two.0 i, text_is a.1 b.1 two.1 i)

-- what a map has after a value was put under a name
pub get_put_name : {V : Type 0} (m : Table V) (name : Name) (value : V) (other : Name) → get (insert m name value) other ≡ (if is_same other name then Some value else get m other)
get_put_name m name value other = get-insert name_order m name value other ∙ ap (λ (b : Bool). cond b (Some value) (get m other)) (names_tied other name)
