-- One factor more makes each row longer by each of its choices; and the clashes of a row, as one choice more is met.
use Rattle.std.proofs.Common.{◌≡◌, ℕ, ◌+◌, ◌<◌, Bool, true, false, cond, not, List, [], ◌∷◌, ◌++◌, Option, Some, None, map, take, get_or, length, refl, sym, ◌∙◌, ap, ap₂, subst}
use Rattle.std.specs.List.{find, flat_map}
use Rattle.std.specs.Option.{option_map, option_or}
use Rattle.std.specs.FinMap.{FinMap, get, insert}
use Rattle.std.specs.Ordering.{nat_cmp}
use Rattle.std.specs.Cmp.Lexicographic.{slice_cmp}
use Rattle.std.specs.Str.{bytes_eq}
use Rattle.std.proofs.lemmas.List.{append-nil, map-append}
use Rattle.std.proofs.lemmas.List.Concat.{flat_map-append, flat_map_single}
use Rattle.std.proofs.lemmas.List.Elements.{filter-append}
use Rattle.b2_features.specs.Attributes.{has}
use Rattle.b2_features.proofs.NewValuesKeepAllApart.{get_put}
use Rattle.b2_props.specs.declared.word_choice.WordChoice.{WordChoice}
use Rattle.b2_props.specs.declared.clashes.Clashes.{Clashes}
use Rattle.b2_props.specs.Requests.{product, choices_at, differing}
use Rattle.b2_props.specs.Meeting.{first_value, other_word, Meets, HasChoice}
use Rattle.b2_props.proofs.RepeatedPairsAddNothing.{text_is, option_or-none}
use Rattle.b2_props.proofs.DraftHoldsEachGainedPair.{next_take}

-- ---- products

-- one more element before each row
before_all : {X : Type 0} (ys : List X) (x : X) (rows : List (List X)) → map (λ row. x ∷ row) (flat_map (λ row. map (λ y. row ++ y ∷ []) ys) rows) ≡ flat_map (λ row. map (λ y. row ++ y ∷ []) ys) (map (λ row. x ∷ row) rows)
before_all ys x [] = refl
before_all {X} ys x (row ∷ rows) = map-append (λ r. x ∷ r) (map (λ y. row ++ y ∷ []) ys) (flat_map (λ r. map (λ y. r ++ y ∷ []) ys) rows) ∙ ap₂ (λ (a b : List (List X)). a ++ b) (each ys) (before_all ys x rows)
  where
    each : (zs : List X) → map (λ r. x ∷ r) (map (λ y. row ++ y ∷ []) zs) ≡ map (λ y. (x ∷ row) ++ y ∷ []) zs
    each [] = refl
    each (z ∷ zs) = ap (λ rs. (x ∷ (row ++ z ∷ [])) ∷ rs) (each zs)

flat_map-flat_map : {A B C : Type 0} (g : B → List C) (h : A → List B) (xs : List A) → flat_map g (flat_map h xs) ≡ flat_map (λ x. flat_map g (h x)) xs
flat_map-flat_map g h [] = refl
flat_map-flat_map g h (x ∷ xs) = flat_map-append g (h x) (flat_map h xs) ∙ ap (λ zs. flat_map g (h x) ++ zs) (flat_map-flat_map g h xs)

-- one more factor at the end
pub product-push : {X : Type 0} (xss : List (List X)) (ys : List X) → product (xss ++ ys ∷ []) ≡ flat_map (λ row. map (λ y. row ++ y ∷ []) ys) (product xss)
product-push {X} [] ys = flat_map_single (λ x. x ∷ []) ys ∙ sym (append-nil (map (λ y. y ∷ []) ys))
product-push {X} (xs ∷ more) ys =
    each xs (product-push more ys) ∙ sym (flat_map-flat_map (λ row. map (λ y. row ++ y ∷ []) ys) (λ x. map (λ row. x ∷ row) (product more)) xs)
  where
    each : (zs : List X) → product (more ++ ys ∷ []) ≡ flat_map (λ row. map (λ y. row ++ y ∷ []) ys) (product more)
        → flat_map (λ x. map (λ row. x ∷ row) (product (more ++ ys ∷ []))) zs ≡ flat_map (λ x. flat_map (λ row. map (λ y. row ++ y ∷ []) ys) (map (λ row. x ∷ row) (product more))) zs
    each [] e = refl
    each (z ∷ zs) e = ap₂ (λ (a b : List (List X)). a ++ b) (ap (map (λ row. z ∷ row)) e ∙ before_all ys z (product more)) (each zs e)

-- ---- choices of a feature

choices_at-push : (choices : List WordChoice) (c : WordChoice) (q : List ℕ) → choices_at (choices ++ c ∷ []) q ≡ choices_at choices q ++ cond (bytes_eq q c.pair.0) (c ∷ []) []
choices_at-push choices c q = filter-append (λ d. bytes_eq q d.pair.0) choices (c ∷ [])

first-push : (xs : List WordChoice) (c : WordChoice) → first_value (xs ++ c ∷ []) ≡ option_or (first_value xs) (Some c.pair.1)
first-push [] c = refl
first-push (x ∷ xs) c = refl

find-push : (t : WordChoice → Bool) (xs : List WordChoice) (c : WordChoice) → option_map (λ d. d.word) (find t (xs ++ c ∷ [])) ≡ option_or (option_map (λ d. d.word) (find t xs)) (cond (t c) (Some c.word) None)
find-push t [] c = go (t c)
  where
    go : (b : Bool) → option_map (λ d. d.word) (cond b (Some c) None) ≡ cond b (Some c.word) None
    go true = refl
    go false = refl
find-push t (x ∷ xs) c = go (t x) (find-push t xs c)
  where
    go : (b : Bool) → option_map (λ d. d.word) (find t (xs ++ c ∷ [])) ≡ option_or (option_map (λ d. d.word) (find t xs)) (cond (t c) (Some c.word) None)
        → option_map (λ d. d.word) (cond b (Some x) (find t (xs ++ c ∷ []))) ≡ option_or (option_map (λ d. d.word) (cond b (Some x) (find t xs))) (cond (t c) (Some c.word) None)
    go true e = refl
    go false e = e

-- one more choice of a feature
differing-push : (xs : List WordChoice) (c : WordChoice) → differing (xs ++ c ∷ []) ≡ option_or (differing xs) (other_word c (first_value xs))
differing-push [] c = refl
differing-push (x ∷ xs) c = find-push (λ d. not (bytes_eq d.pair.1 x.pair.1)) xs c

-- one more choice
pub meets_more : (choices : List WordChoice) (c : WordChoice) (old new : Clashes) → Meets choices old → HasChoice c old new → Meets (choices ++ c ∷ []) new
meets_more choices c old new meets has = record {
  values = λ q. has.values q ∙ value q (bytes_eq q c.pair.0) refl ∙ sym (ap first_value (choices_at-push choices c q));
  words = λ q. has.words q ∙ word q (bytes_eq q c.pair.0) refl ∙ sym (ap differing (choices_at-push choices c q));
}
  where
    value : (q : List ℕ) (b : Bool) → bytes_eq q c.pair.0 ≡ b → cond b (option_or (get old.values c.pair.0) (Some c.pair.1)) (get old.values q) ≡ first_value (choices_at choices q ++ cond b (c ∷ []) [])
    value q true e = ap (λ f. option_or (get old.values f) (Some c.pair.1)) (sym (text_is q c.pair.0 e)) ∙ ap (λ o. option_or o (Some c.pair.1)) (meets.values q) ∙ sym (first-push (choices_at choices q) c)
    value q false e = meets.values q ∙ sym (ap first_value (append-nil (choices_at choices q)))

    word : (q : List ℕ) (b : Bool) → bytes_eq q c.pair.0 ≡ b → cond b (option_or (get old.words c.pair.0) (other_word c (get old.values c.pair.0))) (get old.words q) ≡ differing (choices_at choices q ++ cond b (c ∷ []) [])
    word q true e =
        ap (λ f. option_or (get old.words f) (other_word c (get old.values f))) (sym (text_is q c.pair.0 e))
        ∙ ap₂ (λ (o : Option ℕ) (v : Option (List ℕ)). option_or o (other_word c v)) (meets.words q) (meets.values q) ∙ sym (differing-push (choices_at choices q) c)
    word q false e = meets.words q ∙ sym (ap differing (append-nil (choices_at choices q)))

pub meets_next : (choices : List WordChoice) (i : ℕ) (c : WordChoice) (old new : Clashes) → i < length choices → c ≡ get_or choices i c → Meets (take i choices) old → HasChoice c old new → Meets (take (i + 1) choices) new
meets_next choices i c old new l is meets has = subst (λ cs. Meets cs new) (sym (next_take choices i c l is)) (meets_more (take i choices) c old new meets has)

-- ---- one choice more

mapped : (t : List ℕ → Bool) (o : Option (List ℕ)) (b : Bool) → option_map t o ≡ Some b → (v : List ℕ) × (o ≡ Some v) × (t v ≡ b)
mapped t None b e = cc
mapped t (Some v) b e = (v, refl, cc)

-- at one text the new answer, elsewhere the old one
same_there : {V : Type 0} (m : FinMap (slice_cmp nat_cmp) V) (f : List ℕ) (o : Option V) → o ≡ get m f → (q : List ℕ) → get m q ≡ cond (bytes_eq q f) o (get m q)
same_there {V} m f o e q = go (bytes_eq q f) refl
  where
    go : (b : Bool) → bytes_eq q f ≡ b → get m q ≡ cond b o (get m q)
    go true is = ap (get m) (text_is q f is) ∙ sym e
    go false is = refl

put_there : {V : Type 0} (m : FinMap (slice_cmp nat_cmp) V) (f : List ℕ) (v : V) (o : Option V) → o ≡ Some v → (q : List ℕ) → get (insert m f v) q ≡ cond (bytes_eq q f) o (get m q)
put_there m f v o e q = get_put m f v q ∙ ap (λ p. cond (bytes_eq q f) p (get m q)) (sym e)

-- the first value of a feature
pub has_first : (c : WordChoice) (old new : Clashes) → get old.values c.pair.0 ≡ None → new.values ≡ insert old.values c.pair.0 c.pair.1 → new.words ≡ old.words → HasChoice c old new
has_first c old new none put same = record {
  values = λ q. ap (λ m. get m q) put ∙ put_there old.values c.pair.0 c.pair.1 (option_or (get old.values c.pair.0) (Some c.pair.1)) (ap (λ o. option_or o (Some c.pair.1)) none) q;
  words = λ q.
      ap (λ m. get m q) same
      ∙ same_there old.words c.pair.0 (option_or (get old.words c.pair.0) (other_word c (get old.values c.pair.0))) (ap (λ o. option_or (get old.words c.pair.0) (other_word c o)) none ∙ option_or-none (get old.words c.pair.0)) q;
}

-- the first word that differs
pub has_mark : (c : WordChoice) (old new : Clashes) → option_map (λ v. not (bytes_eq c.pair.1 v)) (get old.values c.pair.0) ≡ Some true → get old.words c.pair.0 ≡ None → new.values ≡ old.values → new.words ≡ insert old.words c.pair.0 c.word → HasChoice c old new
has_mark c old new differs none same put =
    let (v, there, other) = mapped (λ v. not (bytes_eq c.pair.1 v)) (get old.values c.pair.0) true differs in
    record {
      values = λ q. ap (λ m. get m q) same ∙ same_there old.values c.pair.0 (option_or (get old.values c.pair.0) (Some c.pair.1)) (ap (λ o. option_or o (Some c.pair.1)) there ∙ sym there) q;
      words = λ q.
          ap (λ m. get m q) put
          ∙ put_there old.words c.pair.0 c.word (option_or (get old.words c.pair.0) (other_word c (get old.values c.pair.0)))
          (ap₂ (λ (o : Option ℕ) (p : Option (List ℕ)). option_or o (other_word c p)) none there ∙ ap (λ b. cond b (Some c.word) None) other) q;
    }
