-- A value that is not yet known leaves all values so far apart: for the test whether a value is there twice.
use Rattle.std.proofs.Common.{◌≡◌, ℕ, ◌+◌, ◌<◌, Bool, true, false, cond, ◌||◌, List, [], ◌∷◌, ◌++◌, Option, Some, None, is_some, take, drop, get_or, length, refl, sym, ◌∙◌, ap, ap₂, add-one}
use Rattle.std.specs.Ordering.{nat_cmp}
use Rattle.std.specs.Cmp.Lexicographic.{slice_cmp}
use Rattle.std.specs.List.{list_any}
use Rattle.std.specs.Str.{bytes_eq}
use Rattle.std.specs.FinMap.{FinMap, get, insert, get-insert}
use Rattle.std.proofs.lemmas.Cmp.{nat_list_cmp_total}
use Rattle.std.proofs.lemmas.Map.Text.{is_eq-slice_cmp}
use Rattle.std.proofs.lemmas.List.{take_more}
use Rattle.std.proofs.lemmas.List.Folds.{list_any-append}
use Rattle.std.proofs.Math.Seq.{drop-cons}
use Rattle.b2_features.specs.Table.{DeclaredFeature}
use Rattle.b2_features.specs.Faults.{twice_value, is_implicit}

-- what a map has at a text after a text was given a value
pub get_put : {V : Type 0} (m : FinMap (slice_cmp nat_cmp) V) (text : List ℕ) (value : V) (other : List ℕ) → get (insert m text value) other ≡ cond (bytes_eq other text) (Some value) (get m other)
get_put m text value other = get-insert nat_list_cmp_total m text value other ∙ ap (λ b. cond b (Some value) (get m other)) (is_eq-slice_cmp other text)

-- one more text is known
pub known_put : {V : Type 0} (m : FinMap (slice_cmp nat_cmp) V) (text : List ℕ) (value : V) (other : List ℕ) → is_some (get (insert m text value) other) ≡ (is_some (get m other) || bytes_eq other text)
known_put {V} m text value other = ap is_some (get_put m text value other) ∙ go (bytes_eq other text) (get m other)
  where
    go : (b : Bool) (o : Option V) → is_some (cond b (Some value) o) ≡ (is_some o || b)
    go true None = refl
    go true (Some v) = refl
    go false None = refl
    go false (Some v) = refl

-- the values up to a place are known, and no value so far is there twice
pub record AreApart (table : List DeclaredFeature) (values : List (List ℕ)) (place : ℕ) (known : List ℕ → Bool) : Type 0 where
  pub rest : twice_value table (take place values) (drop place values) ≡ twice_value table [] values
  pub earlier : (q : List ℕ) → known q ≡ list_any (bytes_eq q) (take place values)

next_rest : (table : List DeclaredFeature) (values : List (List ℕ)) (i : ℕ) (x : List ℕ) → i < length values → x ≡ get_or values i x → drop i values ≡ x ∷ drop (i + 1) values
next_rest table values i x within is = drop-cons values i x within ∙ ap₂ (λ (y : List ℕ) (n : ℕ). y ∷ drop n values) (sym is) (sym (add-one i))

next_take : (values : List (List ℕ)) (i : ℕ) (x : List ℕ) → i < length values → x ≡ get_or values i x → take (i + 1) values ≡ take i values ++ x ∷ []
next_take values i x within is = take_more values i x within ∙ ap (λ y. take i values ++ y ∷ []) (sym is)

-- the value at a place decides, or the values after it
decided : (table : List DeclaredFeature) (values : List (List ℕ)) (i : ℕ) (x : List ℕ) (known : List ℕ → Bool) (b : Bool) → i < length values → x ≡ get_or values i x → AreApart table values i known → b ≡ (is_implicit table x || known x)
    → cond b (Some x) (twice_value table (take i values ++ x ∷ []) (drop (i + 1) values)) ≡ twice_value table [] values
decided table values i x known b within is apart e =
    ap (λ t. cond t (Some x) (twice_value table (take i values ++ x ∷ []) (drop (i + 1) values))) (e ∙ ap (λ k. is_implicit table x || k) (apart.earlier x))
    ∙ sym (ap (twice_value table (take i values)) (next_rest table values i x within is)) ∙ apart.rest

-- one more value that is not there
pub apart_next : (table : List DeclaredFeature) (values : List (List ℕ)) (i : ℕ) (x : List ℕ) (known new : List ℕ → Bool) → i < length values → x ≡ get_or values i x → AreApart table values i known → false ≡ (is_implicit table x || known x) → ((q : List ℕ) → new q ≡ (known q || bytes_eq q x))
    → AreApart table values (i + 1) new
apart_next table values i x known new within is apart e more = record {
  rest = ap (λ before. twice_value table before (drop (i + 1) values)) (next_take values i x within is) ∙ decided table values i x known false within is apart e;
  earlier = λ q. more q ∙ ap₂ ◌||◌ (apart.earlier q) (one (bytes_eq q x)) ∙ sym (list_any-append (bytes_eq q) (take i values) (x ∷ [])) ∙ sym (ap (list_any (bytes_eq q)) (next_take values i x within is));
}
  where
    one : (b : Bool) → b ≡ (b || false)
    one true = refl
    one false = refl

-- no value at all is known at the start
pub apart_none : (table : List DeclaredFeature) (values : List (List ℕ)) (known : List ℕ → Bool) → ((q : List ℕ) → known q ≡ false) → AreApart table values 0 known
apart_none table values known none = record {
  rest = refl;
  earlier = none;
}
