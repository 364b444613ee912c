-- Texts in order of their bytes: what goes on from a text comes directly after it.
use Rattle.std.proofs.Common.{◌≡◌, ◌≢◌, ℕ, false, List, [], ◌∷◌, ◌++◌, refl, ap, sym, ◌∙◌, subst, append-nil}
use Rattle.std.specs.declared.cmp.Ordering.{Ordering}
use Rattle.std.specs.declared.cmp.Ordering.TheVariants.{Less, Equal, Greater}
use Rattle.std.specs.Ordering.{nat_cmp, ordering_then, ordering_reverse, is_gt, is_lt}
use Rattle.std.specs.Cmp.Lexicographic.{slice_cmp}
use Rattle.std.proofs.lemmas.Bool.{true≢false}
use Rattle.std.proofs.lemmas.Cmp.{ranked, nat_cmp_total, nat_list_cmp_total}
use Rattle.b2_base.specs.Bytes.{IsFrontOf}

abbrev pub cmp : List ℕ → List ℕ → Ordering
cmp = slice_cmp nat_cmp

own_byte : (x : ℕ) → nat_cmp x x ≡ Equal
own_byte x = go (nat_cmp x x) (nat_cmp_total.antisymm x x)
  where
    go : (o : Ordering) → o ≡ ordering_reverse o → o ≡ Equal
    go Less e = let bad : Less ≡ Greater = e in cc
    go Equal e = refl
    go Greater e = let bad : Greater ≡ Less = e in cc

same_byte : (x y : ℕ) → nat_cmp x y ≡ Equal → x ≡ y
same_byte x y e = ranked x y Equal (sym e)

at_byte : (x y : ℕ) (s t u : List ℕ) → (is_lt (cmp t s) ≡ false → is_gt (cmp t (s ++ u)) ≡ false → IsFrontOf s t)
    → (o : Ordering) → nat_cmp y x ≡ o → is_lt (ordering_then o (cmp t s)) ≡ false → is_gt (ordering_then o (cmp t (s ++ u))) ≡ false → IsFrontOf (x ∷ s) (y ∷ t)
at_byte x y s t u more Less e a b = absurd (true≢false a)
at_byte x y s t u more Equal e a b =
    let rest : IsFrontOf s t = more a b in
    (rest.0, ap (λ z. z ∷ t) (same_byte y x e) ∙ ap (λ l. x ∷ l) rest.1)
at_byte x y s t u more Greater e a b = absurd (true≢false b)

-- what lies between a text and one that goes on from it goes on from it too
pub between : (s t u : List ℕ) → is_lt (cmp t s) ≡ false → is_gt (cmp t (s ++ u)) ≡ false → IsFrontOf s t
between [] t u a b = (t, refl)
between (x ∷ s) [] u a b = absurd (true≢false a)
between (x ∷ s) (y ∷ t) u a b = at_byte x y s t u (between s t u) (nat_cmp y x) refl a b

-- a text comes before one that goes on from it
pub before_more : (s : List ℕ) (x : ℕ) (rest : List ℕ) → cmp s (s ++ x ∷ rest) ≡ Less
before_more [] x rest = refl
before_more (y ∷ s) x rest = ap (λ o. ordering_then o (cmp s (s ++ x ∷ rest))) (own_byte y) ∙ before_more s x rest

pub upto_more : (s rest : List ℕ) → is_gt (cmp s (s ++ rest)) ≡ false
upto_more [] [] = refl
upto_more [] (x ∷ rest) = refl
upto_more (y ∷ s) rest = ap (λ o. is_gt (ordering_then o (cmp s (s ++ rest)))) (own_byte y) ∙ upto_more s rest

reversed : (o : Ordering) → is_lt (ordering_reverse o) ≡ is_gt o
reversed Less = refl
reversed Equal = refl
reversed Greater = refl

flipped : (a b : List ℕ) → is_gt (cmp a b) ≡ false → is_lt (cmp b a) ≡ false
flipped a b h = ap is_lt (nat_list_cmp_total.antisymm b a) ∙ reversed (cmp a b) ∙ h

-- where the first key from a text on is not after one that goes on from the text, it goes on from the text
pub first_goes_on : (text key other : List ℕ) → is_gt (cmp text key) ≡ false → is_gt (cmp key other) ≡ false → IsFrontOf text other → IsFrontOf text key
first_goes_on text key other a b more = between text key more.0 (flipped text key a) (subst (λ k. is_gt (cmp key k) ≡ false) more.1 b)

-- where the last key before a text is not before one that begins the text, that one begins it
pub last_goes_on : (text key other : List ℕ) → cmp key text ≡ Less → is_lt (cmp key other) ≡ false → IsFrontOf other text → IsFrontOf other key
last_goes_on text key other a b more = between other key more.0 b (ap is_gt (ap (cmp key) (sym more.1) ∙ a))

-- a text that begins another one, and is not that one, comes before it
pub begins_before : (text other : List ℕ) → IsFrontOf text other → text ≢ other → cmp text other ≡ Less
begins_before text other more differ = go more.0 more.1
  where
    go : (rest : List ℕ) → other ≡ text ++ rest → cmp text other ≡ Less
    go [] e = absurd (differ (sym (e ∙ append-nil text)))
    go (x ∷ rest) e = ap (cmp text) e ∙ before_more text x rest

-- a text that comes before another one differs from it, and the other one does not begin it
never_before : (s : List ℕ) → cmp s s ≡ Less → ⊥
never_before s e = let bad : Less ≡ Greater = sym e ∙ nat_list_cmp_total.antisymm s s ∙ ap ordering_reverse e in cc

pub before_differs : (s t : List ℕ) → cmp s t ≡ Less → s ≢ t
before_differs s t less same = never_before s (ap (cmp s) same ∙ less)

pub later_begins_not : (s t : List ℕ) → cmp s t ≡ Less → IsFrontOf t s → ⊥
later_begins_not s t less more =
    true≢false (sym (ap is_gt (nat_list_cmp_total.antisymm t s ∙ ap ordering_reverse less)) ∙ ap (λ x. is_gt (cmp t x)) more.1 ∙ upto_more t more.0)
