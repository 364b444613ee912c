-- Equal texts and pairs are one, joined lists have the first value, and a pair that was there changes no first places.
use Rattle.std.proofs.Common.{◌≡◌, ℕ, Bool, true, false, cond, not, ◌||◌, ◌&&◌, List, [], ◌∷◌, ◌++◌, Option, Some, None, refl, sym, ◌∙◌, ap, ap₂, append_assoc, subst}
use Rattle.std.specs.List.{filter, list_any, AllByRecursion}
use Rattle.std.specs.Option.{option_or}
use Rattle.std.specs.Str.{bytes_eq}
use Rattle.std.specs.Cmp.Lexicographic.{nat_list_eq_equiv}
use Rattle.std.proofs.lemmas.Slice.Eq.{bytes_eq-Decides}
use Rattle.std.proofs.lemmas.List.{append-nil}
use Rattle.std.proofs.lemmas.List.Elements.{filter-append}
use Rattle.std.proofs.lemmas.List.Folds.{list_any-append}
use Rattle.b2_props.specs.Sets.{Pair, same, value_of, firsts}

-- ---- values

cond-or : (b : Bool) (v : List ℕ) (o p : Option (List ℕ)) → cond b (Some v) (option_or o p) ≡ option_or (cond b (Some v) o) p
cond-or true v o p = refl
cond-or false v o p = refl

-- the first value of joined pairs
pub value_of-append : (xs ys : List Pair) (q : List ℕ) → value_of (xs ++ ys) q ≡ option_or (value_of xs q) (value_of ys q)
value_of-append [] ys q = refl
value_of-append (x ∷ xs) ys q = ap (cond (bytes_eq q x.0) (Some x.1)) (value_of-append xs ys q) ∙ cond-or (bytes_eq q x.0) x.1 (value_of xs q) (value_of ys q)

pub option_or-none : {X : Type 0} (o : Option X) → option_or o None ≡ o
option_or-none None = refl
option_or-none (Some x) = refl

pub option_or-assoc : {X : Type 0} (a b c : Option X) → option_or (option_or a b) c ≡ option_or a (option_or b c)
option_or-assoc None b c = refl
option_or-assoc (Some x) b c = refl

-- ---- equal pairs

pub text_is : (x y : List ℕ) → bytes_eq x y ≡ true → x ≡ y
text_is x y e = (bytes_eq-Decides x y).0 e

pub text_sym : (x y : List ℕ) → bytes_eq x y ≡ bytes_eq y x
text_sym x y = nat_list_eq_equiv.symm x y

pub text_itself : (x : List ℕ) → bytes_eq x x ≡ true
text_itself x = nat_list_eq_equiv.refl x

pub same_sym : (p q : Pair) → same p q ≡ same q p
same_sym p q = ap₂ ◌&&◌ (text_sym p.0 q.0) (text_sym p.1 q.1)

pub same_itself : (p : Pair) → same p p ≡ true
same_itself p = ap₂ ◌&&◌ (text_itself p.0) (text_itself p.1)

pub same_is : (p q : Pair) → same p q ≡ true → p ≡ q
same_is p q e = go (bytes_eq p.0 q.0) (bytes_eq p.1 q.1) refl refl e
  where
    go : (a b : Bool) → bytes_eq p.0 q.0 ≡ a → bytes_eq p.1 q.1 ≡ b → (a && b) ≡ true → p ≡ q
    go true true f g e = ap₂ (λ (x y : List ℕ). let made : Pair = (x, y) in made) (text_is p.0 q.0 f) (text_is p.1 q.1 g)
    go true false f g e = cc
    go false b f g e = cc

-- ---- pairs that stand once

-- one more pair at the end stands there only where it did not stand before
pub firsts_push : (ys : List Pair) (p : Pair) → firsts (ys ++ p ∷ []) ≡ cond (list_any (same p) ys) (firsts ys) (firsts ys ++ p ∷ [])
firsts_push [] p = refl
firsts_push (y ∷ more) p = ap (λ zs. y ∷ filter (λ q. not (same y q)) zs) (firsts_push more p) ∙ go (same p y) (list_any (same p) more) refl
  where
    kept : List Pair
    kept = filter (λ q. not (same y q)) (firsts more)

    tail : (b : Bool) → same p y ≡ b → filter (λ q. not (same y q)) (p ∷ []) ≡ cond b [] (p ∷ [])
    tail true e = ap (λ t. cond (not t) (p ∷ []) []) (same_sym y p ∙ e)
    tail false e = ap (λ t. cond (not t) (p ∷ []) []) (same_sym y p ∙ e)

    go : (b there : Bool) → same p y ≡ b → y ∷ filter (λ q. not (same y q)) (cond there (firsts more) (firsts more ++ p ∷ [])) ≡ cond (b || there) (y ∷ kept) (y ∷ kept ++ p ∷ [])
    go true true e = refl
    go false true e = refl
    go true false e = ap (λ zs. y ∷ zs) (filter-append (λ q. not (same y q)) (firsts more) (p ∷ []) ∙ ap (λ zs. kept ++ zs) (tail true e) ∙ append-nil kept)
    go false false e = ap (λ zs. y ∷ zs) (filter-append (λ q. not (same y q)) (firsts more) (p ∷ []) ∙ ap (λ zs. kept ++ zs) (tail false e))

cond_cons : (a : Bool) (x : Pair) (xs ys : List Pair) → xs ≡ ys → cond a (x ∷ xs) xs ≡ cond a (x ∷ ys) ys
cond_cons a x xs ys e = ap (λ zs. cond a (x ∷ zs) zs) e

-- two tests in either order
pub filter_swap : (s t : Pair → Bool) (xs : List Pair) → filter s (filter t xs) ≡ filter t (filter s xs)
filter_swap s t [] = refl
filter_swap s t (x ∷ xs) = go (s x) (t x) refl refl (filter_swap s t xs)
  where
    go : (a b : Bool) → s x ≡ a → t x ≡ b → filter s (filter t xs) ≡ filter t (filter s xs) → filter s (cond b (x ∷ filter t xs) (filter t xs)) ≡ filter t (cond a (x ∷ filter s xs) (filter s xs))
    go true true e f more = ap (λ c. cond c (x ∷ filter s (filter t xs)) (filter s (filter t xs))) e ∙ ap (λ zs. x ∷ zs) more ∙ sym (ap (λ c. cond c (x ∷ filter t (filter s xs)) (filter t (filter s xs))) f)
    go true false e f more = more ∙ sym (ap (λ c. cond c (x ∷ filter t (filter s xs)) (filter t (filter s xs))) f)
    go false true e f more = ap (λ c. cond c (x ∷ filter s (filter t xs)) (filter s (filter t xs))) e ∙ more
    go false false e f more = more

pub filter_twice : (t : Pair → Bool) (xs : List Pair) → filter t (filter t xs) ≡ filter t xs
filter_twice t [] = refl
filter_twice t (x ∷ xs) = go (t x) refl (filter_twice t xs)
  where
    go : (b : Bool) → t x ≡ b → filter t (filter t xs) ≡ filter t xs → filter t (cond b (x ∷ filter t xs) (filter t xs)) ≡ cond b (x ∷ filter t xs) (filter t xs)
    go true e more = ap (λ c. cond c (x ∷ filter t (filter t xs)) (filter t (filter t xs))) e ∙ ap (λ zs. x ∷ zs) more
    go false e more = more

-- what fails a test is not missed there
filter_others : (t : Pair → Bool) (z : Pair) → t z ≡ false → (xs : List Pair) → filter t (filter (λ q. not (same z q)) xs) ≡ filter t xs
filter_others t z fails [] = refl
filter_others t z fails (x ∷ xs) = go (filter_others t z fails xs) (same z x) refl
  where
    go : filter t (filter (λ q. not (same z q)) xs) ≡ filter t xs → (b : Bool) → same z x ≡ b → filter t (cond (not b) (x ∷ filter (λ q. not (same z q)) xs) (filter (λ q. not (same z q)) xs)) ≡ cond (t x) (x ∷ filter t xs) (filter t xs)
    go more true e = more ∙ sym (ap (λ c. cond c (x ∷ filter t xs) (filter t xs)) (ap t (sym (same_is z x e)) ∙ fails))
    go more false e = cond_cons (t x) x (filter t (filter (λ q. not (same z q)) xs)) (filter t xs) more

-- a test keeps the first places
pub firsts-filter : (t : Pair → Bool) (xs : List Pair) → firsts (filter t xs) ≡ filter t (firsts xs)
firsts-filter t [] = refl
firsts-filter t (x ∷ xs) = go (firsts-filter t xs) (t x) refl
  where
    go : firsts (filter t xs) ≡ filter t (firsts xs) → (b : Bool) → t x ≡ b → firsts (cond b (x ∷ filter t xs) (filter t xs)) ≡ cond b (x ∷ filter t (filter (λ q. not (same x q)) (firsts xs))) (filter t (filter (λ q. not (same x q)) (firsts xs)))
    go more true e = ap (λ zs. x ∷ zs) (ap (filter (λ q. not (same x q))) more ∙ filter_swap (λ q. not (same x q)) t (firsts xs))
    go more false e = more ∙ sym (filter_others t x e (firsts xs))

-- first places of first places
pub firsts_twice : (xs : List Pair) → firsts (firsts xs) ≡ firsts xs
firsts_twice [] = refl
firsts_twice (x ∷ xs) =
    ap (λ zs. x ∷ filter (λ q. not (same x q)) zs) (firsts-filter (λ q. not (same x q)) (firsts xs) ∙ ap (filter (λ q. not (same x q))) (firsts_twice xs))
    ∙ ap (λ zs. x ∷ zs) (filter_twice (λ q. not (same x q)) (firsts xs))

-- ---- pairs that are there already

any_others : (z y : Pair) → same z y ≡ false → (ws : List Pair) → list_any (same z) (filter (λ q. not (same y q)) ws) ≡ list_any (same z) ws
any_others z y apart [] = refl
any_others z y apart (w ∷ ws) = go (same y w) refl (any_others z y apart ws)
  where
    go : (b : Bool) → same y w ≡ b → list_any (same z) (filter (λ q. not (same y q)) ws) ≡ list_any (same z) ws → list_any (same z) (cond (not b) (w ∷ filter (λ q. not (same y q)) ws) (filter (λ q. not (same y q)) ws)) ≡ (same z w || list_any (same z) ws)
    go true e more = more ∙ sym (ap (λ b. b || list_any (same z) ws) (ap (same z) (sym (same_is y w e)) ∙ apart))
    go false e more = ap (λ b. same z w || b) more

-- the first places have all that is there
firsts-any : (z : Pair) (xs : List Pair) → list_any (same z) (firsts xs) ≡ list_any (same z) xs
firsts-any z [] = refl
firsts-any z (x ∷ xs) = go (same z x) refl (firsts-any z xs)
  where
    go : (b : Bool) → same z x ≡ b → list_any (same z) (firsts xs) ≡ list_any (same z) xs → (b || list_any (same z) (filter (λ q. not (same x q)) (firsts xs))) ≡ (b || list_any (same z) xs)
    go true e more = refl
    go false e more = any_others z x e (firsts xs) ∙ more

-- each of some pairs is among others
abbrev AllAmong : List Pair → List Pair → Type 0
AllAmong xs zs = AllByRecursion (λ z. list_any (same z) xs ≡ true) zs

among_more : (xs : List Pair) (y : Pair) (zs : List Pair) → AllAmong xs zs → AllAmong (xs ++ y ∷ []) zs
among_more xs y [] all = tt
among_more xs y (z ∷ zs) all = (list_any-append (same z) xs (y ∷ []) ∙ ap (λ b. b || list_any (same z) (y ∷ [])) all.0, among_more xs y zs all.1)

among_itself : (xs zs : List Pair) → AllAmong (xs ++ zs) zs
among_itself xs [] = tt
among_itself xs (z ∷ zs) = (
  list_any-append (same z) xs (z ∷ zs) ∙ ap (λ b. list_any (same z) xs || (b || list_any (same z) zs)) (same_itself z) ∙ or_true (list_any (same z) xs),
  subst (λ ps. AllAmong ps zs) (append_assoc xs (z ∷ []) zs) (among_itself (xs ++ z ∷ []) zs),
)
  where
    or_true : (b : Bool) → (b || true) ≡ true
    or_true true = refl
    or_true false = refl

among_firsts : (xs zs : List Pair) → AllAmong xs zs → AllAmong (firsts xs) zs
among_firsts xs [] all = tt
among_firsts xs (z ∷ zs) all = (firsts-any z xs ∙ all.0, among_firsts xs zs all.1)

-- pairs that are there add nothing
firsts_same : (ys zs : List Pair) → AllAmong ys zs → firsts (ys ++ zs) ≡ firsts ys
firsts_same ys [] all = ap firsts (append-nil ys)
firsts_same ys (z ∷ zs) all =
    ap firsts (sym (append_assoc ys (z ∷ []) zs)) ∙ firsts_same (ys ++ z ∷ []) zs (among_more ys z zs all.1) ∙ firsts_push ys z ∙ ap (λ b. cond b (firsts ys) (firsts ys ++ z ∷ [])) all.0

-- the same pairs a second time
pub firsts_again : (xs zs : List Pair) → firsts (firsts (xs ++ zs) ++ zs) ≡ firsts (xs ++ zs)
firsts_again xs zs = firsts_same (firsts (xs ++ zs)) zs (among_firsts (xs ++ zs) zs (among_itself xs zs)) ∙ firsts_twice (xs ++ zs)
