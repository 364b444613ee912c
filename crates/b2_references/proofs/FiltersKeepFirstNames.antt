-- When numbers and names are the same, and names that stand once under tests; for indexes and requests.
use Rattle.std.proofs.Common.{◌≡◌, ℕ, Bool, true, false, cond, not, ◌||◌, ◌&&◌, List, [], ◌∷◌, ◌++◌, eqb, refl, sym, ◌∙◌, ap, ap₂}
use Rattle.std.specs.List.{filter}
use Rattle.std.specs.Str.{bytes_eq}
use Rattle.std.proofs.lemmas.Bool.Decides.{Decides-eqb}
use Rattle.std.proofs.lemmas.List.{append-nil}
use Rattle.std.proofs.lemmas.List.Elements.{filter-append}
use Rattle.b2_props.proofs.RepeatedPairsAddNothing.{text_is, text_sym}
use Rattle.b2_references.specs.Names.{Name, is_same, is_among, first_names}

-- ---- numbers

pub number_is : (a b : ℕ) → eqb a b ≡ true → a ≡ b
number_is a b e = (Decides-eqb a b).0 e

pub number_itself : (a : ℕ) → eqb a a ≡ true
number_itself a = (Decides-eqb a a).1 refl

pub number_sym : (a b : ℕ) → eqb a b ≡ eqb b a
number_sym a b = go (eqb a b) (eqb b a) refl refl
  where
    turned : (x y : ℕ) → eqb x y ≡ true → eqb y x ≡ true
    turned x y f = ap (λ z. eqb y z) (number_is x y f) ∙ number_itself y

    go : (s t : Bool) → eqb a b ≡ s → eqb b a ≡ t → s ≡ t
    go true true f g = refl
    go false false f g = refl
    go true false f g = sym (turned a b f) ∙ g
    go false true f g = sym f ∙ turned b a g

-- ---- names

pub name_sym : (a b : Name) → is_same a b ≡ is_same b a
name_sym a b = ap₂ ◌&&◌ (number_sym a.0 b.0) (text_sym a.1 b.1)

pub name_is : (a b : Name) → is_same a b ≡ true → a ≡ b
name_is a b e = go (eqb a.0 b.0) (bytes_eq a.1 b.1) refl refl e
  where
    go : (s t : Bool) → eqb a.0 b.0 ≡ s → bytes_eq a.1 b.1 ≡ t → (s && t) ≡ true → a ≡ b
    go true true f g e = ap₂ (λ (x : ℕ) (y : List ℕ). let made : Name = (x, y) in made) (number_is a.0 b.0 f) (text_is a.1 b.1 g)
    go true false f g e = cc
    go false t f g e = cc

-- ---- tests in either order

cond_cons : {X : Type 0} (a : Bool) (x : X) (xs ys : List X) → xs ≡ ys → cond a (x ∷ xs) xs ≡ cond a (x ∷ ys) ys
cond_cons a x xs ys e = ap (λ zs. cond a (x ∷ zs) zs) e

pub filter_swap : {X : Type 0} (s t : X → Bool) (xs : List X) → filter s (filter t xs) ≡ filter t (filter s xs)
filter_swap s t [] = refl
filter_swap {X} s t (x ∷ xs) = go (s x) (t x) refl refl (filter_swap s t xs)
  where
    go : (a b : Bool) → s x ≡ a → t x ≡ b → filter s (filter t xs) ≡ filter t (filter s xs) → filter s (cond b (x ∷ filter t xs) (filter t xs)) ≡ filter t (cond a (x ∷ filter s xs) (filter s xs))
    go true true e f more = ap (λ c. cond c (x ∷ filter s (filter t xs)) (filter s (filter t xs))) e ∙ ap (λ zs. x ∷ zs) more ∙ sym (ap (λ c. cond c (x ∷ filter t (filter s xs)) (filter t (filter s xs))) f)
    go true false e f more = more ∙ sym (ap (λ c. cond c (x ∷ filter t (filter s xs)) (filter t (filter s xs))) f)
    go false true e f more = ap (λ c. cond c (x ∷ filter s (filter t xs)) (filter s (filter t xs))) e ∙ more
    go false false e f more = more

-- two tests at once
pub filter_both : {X : Type 0} (s t : X → Bool) (xs : List X) → filter (λ x. s x && t x) xs ≡ filter t (filter s xs)
filter_both s t [] = refl
filter_both {X} s t (x ∷ xs) = go (s x) (filter_both s t xs)
  where
    go : (a : Bool) → filter (λ y. s y && t y) xs ≡ filter t (filter s xs) → cond (a && t x) (x ∷ filter (λ y. s y && t y) xs) (filter (λ y. s y && t y) xs) ≡ filter t (cond a (x ∷ filter s xs) (filter s xs))
    go true more = cond_cons (t x) x (filter (λ y. s y && t y) xs) (filter t (filter s xs)) more
    go false more = more

-- ---- names that stand once

-- one more name at the end stands there only where it did not stand before
pub first_names_push : (xs : List Name) (x : Name) → first_names (xs ++ x ∷ []) ≡ cond (is_among xs x) (first_names xs) (first_names xs ++ x ∷ [])
first_names_push [] x = refl
first_names_push (y ∷ more) x = ap (λ zs. y ∷ filter (λ q. not (is_same y q)) zs) (first_names_push more x) ∙ go (is_same x y) (is_among more x) refl
  where
    kept : List Name
    kept = filter (λ q. not (is_same y q)) (first_names more)

    tail : (b : Bool) → is_same x y ≡ b → filter (λ q. not (is_same y q)) (x ∷ []) ≡ cond b [] (x ∷ [])
    tail true e = ap (λ t. cond (not t) (x ∷ []) []) (name_sym y x ∙ e)
    tail false e = ap (λ t. cond (not t) (x ∷ []) []) (name_sym y x ∙ e)

    go : (b there : Bool) → is_same x y ≡ b → y ∷ filter (λ q. not (is_same y q)) (cond there (first_names more) (first_names more ++ x ∷ [])) ≡ cond (b || there) (y ∷ kept) (y ∷ kept ++ x ∷ [])
    go true true e = refl
    go false true e = refl
    go true false e = ap (λ zs. y ∷ zs) (filter-append (λ q. not (is_same y q)) (first_names more) (x ∷ []) ∙ ap (λ zs. kept ++ zs) (tail true e) ∙ append-nil kept)
    go false false e = ap (λ zs. y ∷ zs) (filter-append (λ q. not (is_same y q)) (first_names more) (x ∷ []) ∙ ap (λ zs. kept ++ zs) (tail false e))

-- what fails a test is not missed there
filter_others : (t : Name → Bool) (z : Name) → t z ≡ false → (xs : List Name) → filter t (filter (λ q. not (is_same z q)) xs) ≡ filter t xs
filter_others t z fails [] = refl
filter_others t z fails (x ∷ xs) = go (filter_others t z fails xs) (is_same z x) refl
  where
    go : filter t (filter (λ q. not (is_same z q)) xs) ≡ filter t xs → (b : Bool) → is_same z x ≡ b → filter t (cond (not b) (x ∷ filter (λ q. not (is_same z q)) xs) (filter (λ q. not (is_same z q)) xs)) ≡ cond (t x) (x ∷ filter t xs) (filter t xs)
    go more true e = more ∙ sym (ap (λ c. cond c (x ∷ filter t xs) (filter t xs)) (ap t (sym (name_is z x e)) ∙ fails))
    go more false e = cond_cons (t x) x (filter t (filter (λ q. not (is_same z q)) xs)) (filter t xs) more

-- a test keeps the first places
pub first_names-filter : (t : Name → Bool) (xs : List Name) → first_names (filter t xs) ≡ filter t (first_names xs)
first_names-filter t [] = refl
first_names-filter t (x ∷ xs) = go (first_names-filter t xs) (t x) refl
  where
    go : first_names (filter t xs) ≡ filter t (first_names xs) → (b : Bool) → t x ≡ b → first_names (cond b (x ∷ filter t xs) (filter t xs)) ≡ cond b (x ∷ filter t (filter (λ q. not (is_same x q)) (first_names xs))) (filter t (filter (λ q. not (is_same x q)) (first_names xs)))
    go more true e = ap (λ zs. x ∷ zs) (ap (filter (λ q. not (is_same x q))) more ∙ filter_swap (λ q. not (is_same x q)) t (first_names xs))
    go more false e = more ∙ sym (filter_others t x e (first_names xs))
