-- Numbers for the end of generation: a name more leaves fewer, and what is opened takes fewer turns than its opener.
use Rattle.std.proofs.Common.{arith, ◌≡◌, ◌<◌, ◌≤◌, Bool, true, false, ◌||◌, ℕ, zero, suc, ◌+◌, ◌-◌, ◌*◌, List, [], ◌∷◌, ◌++◌, length, refl, sym, ap, subst, true≢false, ◌∙◌, if◌then◌else◌}
use Rattle.std.proofs.lemmas.List.Folds.{list_any-append}
use Rattle.b2_references.specs.Names.{Name, is_among, is_same}
use Rattle.b2_generate.specs.Measure.{left, turns}

-- where one more is among some, no more are left
bit_falls : (a b : Bool) → (if (a || b) then 0 else 1) ≤ (if a then 0 else 1)
bit_falls true b = omega arith
bit_falls false true = omega arith
bit_falls false false = omega arith

pub left_stays : (all names : List Name) (name : Name) → left all (names ++ name ∷ []) ≤ left all names
left_stays [] names name = omega arith
left_stays (n ∷ all) names name =
    subst (λ (b : Bool). (if b then 0 else 1) + left all (names ++ name ∷ []) ≤ (if (is_among names n) then 0 else 1) + left all names)
    (sym (list_any-append (is_same n) names (name ∷ [])))
    (omega (arith, bit_falls (is_among names n) (is_among (name ∷ []) n), left_stays all names name))

module _ (same : (a b : Name) → is_same a b ≡ true → a ≡ b) (reflexive : (a : Name) → is_same a a ≡ true) where
  falls_here : (all names : List Name) (name n : Name) → name ≡ n → is_among names name ≡ false → left (n ∷ all) (names ++ name ∷ []) < left (n ∷ all) names
  falls_here all names name n here new =
      let before : is_among names n ≡ false = subst (λ (m : Name). is_among names m ≡ false) here new in
      let own : is_same n name ≡ true = subst (λ (m : Name). is_same n m ≡ true) (sym here) (reflexive n) in
      let after : is_among (names ++ name ∷ []) n ≡ true = list_any-append (is_same n) names (name ∷ []) ∙ rw (before, own) refl in
      rw (before, after) (omega (arith, left_stays all names name))

  falls_later : (all names : List Name) (name n : Name) → left all (names ++ name ∷ []) < left all names → left (n ∷ all) (names ++ name ∷ []) < left (n ∷ all) names
  falls_later all names name n h =
      subst (λ (b : Bool). (if b then 0 else 1) + left all (names ++ name ∷ []) < (if (is_among names n) then 0 else 1) + left all names)
      (sym (list_any-append (is_same n) names (name ∷ [])))
      (omega (arith, bit_falls (is_among names n) (is_among (name ∷ []) n), h))

  -- where a name that was not among them comes, one fewer is left
  pub left_falls : (all names : List Name) (name : Name) → is_among all name ≡ true → is_among names name ≡ false → left all (names ++ name ∷ []) < left all names
  left_falls [] names name is new = absurd (true≢false (sym is))
  left_falls (n ∷ all) names name is new = go (is_same name n) refl (λ rest. left_falls all names name rest new)
    where
      go : (b : Bool) → is_same name n ≡ b → (is_among all name ≡ true → left all (names ++ name ∷ []) < left all names) → left (n ∷ all) (names ++ name ∷ []) < left (n ∷ all) names
      go true e more = falls_here all names name n (same name n e) new
      go false e more = falls_later all names name n (more (sym (ap (λ (b : Bool). b || is_among all name) e) ∙ is))

bit_bound : (b : Bool) → (if b then 0 else 1) ≤ 1
bit_bound true = omega arith
bit_bound false = omega arith

-- all that are left are some of all
pub left_bound : (all names : List Name) → left all names ≤ length all
left_bound [] names = omega arith
left_bound (n ∷ all) names = omega (arith, bit_bound (is_among names n), left_bound all names)

-- ---- turns

pub turns_positive : (count levels : ℕ) → 0 < turns count levels
turns_positive count zero = omega arith
turns_positive count (suc levels) = omega arith

times_more : (k w : ℕ) → w ≤ suc k * w
times_more k w = grind arith

turns_up : (count a b k : ℕ) → b ≡ k + a → turns count a ≤ turns count b
turns_up count a b zero e = subst (λ (n : ℕ). turns count a ≤ turns count n) (same a b e) (omega arith)
  where
    same : (a b : ℕ) → b ≡ 0 + a → a ≡ b
    same a b e = omega (arith, e)
turns_up count a zero (suc k) e = absurd (omega (arith, e))
turns_up count a (suc b) (suc k) e = omega (arith, turns_up count a b k (omega (arith, e)), times_more count (turns count b))

pub turns_grow : (count a b : ℕ) → a ≤ b → turns count a ≤ turns count b
turns_grow count a b h = turns_up count a b (b - a) (omega (arith, h))

-- a target that has one level and one turn less at least: what it opens takes fewer turns than this turn
pub opening_falls : (count levels lower r r₁ : ℕ) → lower < levels → r₁ < r → suc count * turns count lower + suc r₁ * turns count levels < suc r * turns count levels
opening_falls count zero lower r r₁ low less = absurd (omega (arith, low))
opening_falls count (suc levels) lower r r₁ low less =
    let most : turns count lower ≤ turns count levels = turns_grow count lower levels (omega (arith, low)) in
    let first : suc count * turns count lower ≤ suc count * turns count levels = times_le (suc count) (turns count lower) (turns count levels) most in
    let rest : suc (suc r₁) * turns count (suc levels) ≤ suc r * turns count (suc levels) = times_le_left (suc (suc r₁)) (suc r) (turns count (suc levels)) (omega (arith, less)) in
    over (suc count * turns count lower) (suc count * turns count levels) (turns count (suc levels)) (suc r₁) (suc r * turns count (suc levels)) first refl rest
  where
    times_le : (k a b : ℕ) → a ≤ b → k * a ≤ k * b
    times_le k a b h = grind (arith, h)

    times_le_left : (a b k : ℕ) → a ≤ b → a * k ≤ b * k
    times_le_left a b k h = grind (arith, h)

    over : (x y w r z : ℕ) → x ≤ y → w ≡ suc y → suc r * w ≤ z → x + r * w < z
    over x y w r z h e k = grind (arith, h, e, k)
