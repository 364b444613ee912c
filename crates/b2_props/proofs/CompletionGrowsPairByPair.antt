-- One required pair more, with those of its parts that are not yet taken; for the loop that completes a list.
use Rattle.std.proofs.Common.{◌≡◌, ℕ, ◌+◌, ◌<◌, Bool, true, false, cond, not, ◌||◌, List, [], ◌∷◌, ◌++◌, Option, Some, None, is_some, take, drop, get_or, length, refl, sym, ◌∙◌, ap, ap₂, append_assoc, add-one}
use Rattle.std.specs.List.{filter}
use Rattle.std.specs.Option.{option_or}
use Rattle.std.specs.Ordering.{nat_cmp}
use Rattle.std.specs.Cmp.Lexicographic.{slice_cmp}
use Rattle.std.specs.Str.{bytes_eq}
use Rattle.std.specs.FinMap.{FinMap, get, insert}
use Rattle.std.proofs.lemmas.List.Elements.{filter_agree}
use Rattle.std.proofs.Math.Seq.{drop-cons}
use Rattle.b2_features.specs.declared.attribute.Attribute.TheVariants.{Free}
use Rattle.b2_features.specs.Table.{DeclaredFeature}
use Rattle.b2_features.specs.Faults.{is_with}
use Rattle.b2_features.proofs.NewValuesKeepAllApart.{get_put}
use Rattle.b2_props.specs.Sets.{Pair, value_of}
use Rattle.b2_props.specs.Refinement.{names, parts_in, components, brought, completed, completed_from}
use Rattle.b2_props.proofs.RepeatedPairsAddNothing.{value_of-append}
use Rattle.b2_props.proofs.DraftHoldsEachGainedPair.{next_take, components_next}

is_some-or : {X : Type 0} (a b : Option X) → is_some (option_or a b) ≡ (is_some a || is_some b)
is_some-or None b = refl
is_some-or (Some x) b = refl

pub names-append : (xs ys : List Pair) (q : List ℕ) → names (xs ++ ys) q ≡ (names xs q || names ys q)
names-append xs ys q = ap is_some (value_of-append xs ys q) ∙ is_some-or (value_of xs q) (value_of ys q)

-- one more feature is taken
pub taken_more : {V : Type 0} (m new : FinMap (slice_cmp nat_cmp) V) (feature : List ℕ) (u : V) (start : List ℕ → Bool) (xs : List Pair) (i : ℕ) (x : Pair)
    → i < length xs → x ≡ get_or xs i x → feature ≡ x.0 → new ≡ insert m feature u
    → ((q : List ℕ) → is_some (get m q) ≡ (start q || names (take i xs) q))
    → (q : List ℕ) → is_some (get new q) ≡ (start q || names (take (i + 1) xs) q)
taken_more {V} m new feature u start xs i x within is same e so_far q =
    ap (λ n. is_some (get n q)) e ∙ ap is_some (get_put m feature u q) ∙ ap (λ f. is_some (cond (bytes_eq q f) (Some u) (get m q))) same
    ∙ go (bytes_eq q x.0) (get m q) (start q) (names (take i xs) q) (so_far q)
    ∙ ap (λ b. start q || b) (sym (names-append (take i xs) (x ∷ []) q) ∙ ap (λ ps. names ps q) (sym (next_take xs i x within is)))
  where
    go : (b : Bool) (o : Option V) (s n : Bool) → is_some o ≡ (s || n) → is_some (cond b (Some u) o) ≡ (s || (n || is_some (cond b (Some x.1) None)))
    go true o true n e = refl
    go true o false true e = refl
    go true o false false e = refl
    go false o true n e = e
    go false o false true e = e
    go false o false false e = e

-- the features taken after one more pair
pub seen_next : (table : List DeclaredFeature) (required : List Pair) (i : ℕ) (x : Pair) → i < length required → x ≡ get_or required i x
    → required ++ components table (take (i + 1) required) ≡ (required ++ components table (take i required)) ++ parts_in table x
seen_next table required i x within is = ap (λ ps. required ++ ps) (components_next table required i x within is) ∙ sym (append_assoc required (components table (take i required)) (parts_in table x))

-- what is brought, where a test tells what is taken
pub brought_by : (table : List DeclaredFeature) (seen : List Pair) (x : Pair) (test : List ℕ → Bool) → ((q : List ℕ) → test q ≡ names seen q) → filter (λ part. is_with Free table part.0 || not (test part.0)) (parts_in table x) ≡ brought table seen x
brought_by table seen x test agree = filter_agree (λ (part : Pair). is_with Free table part.0 || not (test part.0)) (λ (part : Pair). is_with Free table part.0 || not (names seen part.0)) (λ part. ap (λ b. is_with Free table part.0 || not b) (agree part.0)) (parts_in table x)

-- one more required pair with what it brings
pub complete_next : (table : List DeclaredFeature) (required : List Pair) (i : ℕ) (x : Pair) (whole more : List Pair) → i < length required → x ≡ get_or required i x
    → more ≡ brought table (required ++ components table (take i required)) x
    → whole ++ completed_from table (required ++ components table (take i required)) (drop i required) ≡ completed table required
    → ((whole ++ x ∷ []) ++ more) ++ completed_from table (required ++ components table (take (i + 1) required)) (drop (i + 1) required) ≡ completed table required
complete_next table required i x whole more within is brings so_far =
    ap (λ seen. ((whole ++ x ∷ []) ++ more) ++ completed_from table seen (drop (i + 1) required)) (seen_next table required i x within is)
    ∙ append_assoc (whole ++ x ∷ []) more rest ∙ append_assoc whole (x ∷ []) (more ++ rest)
    ∙ ap (λ m. whole ++ x ∷ (m ++ rest)) brings ∙ ap (λ xs. whole ++ completed_from table before xs) (sym cut) ∙ so_far
  where
    before : List Pair
    before = required ++ components table (take i required)

    rest : List Pair
    rest = completed_from table (before ++ parts_in table x) (drop (i + 1) required)

    cut : drop i required ≡ x ∷ drop (i + 1) required
    cut = drop-cons required i x within ∙ ap₂ (λ (y : Pair) (n : ℕ). y ∷ drop n required) (sym is) (sym (add-one i))
