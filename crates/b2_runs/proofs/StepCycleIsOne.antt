use Rattle.std.proofs.Common.{◌≡◌, ◌≢◌, ℕ, ◌<◌, List, [], ◌∷◌, ◌++◌, inl, inr, refl, sym, ap, subst, ◌∙◌, arith, append_assoc}
use Rattle.std.specs.List.{Contains, AllPairs}
use Rattle.std.proofs.lemmas.List.Elements.{Contains-append_right}
use Rattle.b2_runs.specs.Outcomes.{IsStuck}
use Rattle.b2_runs.specs.Cycles.{IsLowest, NeedsStuck, NextStuck, LeadsOn}
use Rattle.b2_runs.specs.StuckLaws.{StepCycleIsOne}
use Rattle.b2_runs.proofs.FirstElementOrLater.{Contains_here, Contains_cases, Contains_nil, AllPairs_head, AllPairs_tail}

-- the lowest is one
lowest_is_one : (P : ℕ → Type 0) (i k : ℕ) → IsLowest P i → IsLowest P k → i ≡ k
lowest_is_one P i k a b = grind (arith, lower, higher)
  where
    lower : i < k → ⊥
    lower less = b.lowest i less a.has

    higher : k < i → ⊥
    higher less = a.lowest k less b.has

abbrev Apart : List ℕ → Type 0
Apart = AllPairs (λ i k. i ≢ k)

-- what stands before is not what stands after
before_after : (xs ys : List ℕ) (a b : ℕ) → Apart (xs ++ ys) → Contains xs a → Contains ys b → a ≢ b
before_after [] ys a b p c d = absurd (Contains_nil a c)
before_after (x ∷ xs) ys a b p c d = elim (Contains_cases x a xs c) [
  | inl e ↦ subst (λ z. z ≢ b) e (AllPairs_head (λ i k. i ≢ k) x b (xs ++ ys) p (Contains-append_right xs ys b d))
  | inr old ↦ before_after xs ys a b (AllPairs_tail (λ i k. i ≢ k) x (xs ++ ys) p) old d
]

module _ (R : ℕ → ℕ → Type 0) (one : (x y z : ℕ) → R x y → R x z → y ≡ z) where
  -- one walk cannot end where the other goes on
  no_longer : (seen : List ℕ) (x k b : ℕ) (more : List ℕ) → R x b → R x k → Contains (seen ++ x ∷ []) b → Apart ((seen ++ x ∷ []) ++ k ∷ more) → ⊥
  no_longer seen x k b more to_b to_k c p = before_after (seen ++ x ∷ []) (k ∷ more) b k p c (Contains_here k more) (one x b k to_b to_k)

  -- two walks from one step are one
  walk_is_one : (seen : List ℕ) (x b c : ℕ) (xs ys : List ℕ) → LeadsOn R (x ∷ xs) b → LeadsOn R (x ∷ ys) c → Contains (seen ++ x ∷ xs) b → Contains (seen ++ x ∷ ys) c → Apart (seen ++ x ∷ xs) → Apart (seen ++ x ∷ ys) → (xs ≡ ys) × (b ≡ c)
  walk_is_one seen x b c [] [] to_b to_c in_b in_c p q = (refl, one x b c to_b to_c)
  walk_is_one seen x b c [] (k ∷ ys) to_b (to_k, rest) in_b in_c p q = absurd (no_longer seen x k b ys to_b to_k in_b (subst Apart (sym (append_assoc seen (x ∷ []) (k ∷ ys))) q))
  walk_is_one seen x b c (k ∷ xs) [] (to_k, rest) to_c in_b in_c p q = absurd (no_longer seen x k c xs to_c to_k in_c (subst Apart (sym (append_assoc seen (x ∷ []) (k ∷ xs))) p))
  walk_is_one seen x b c (k ∷ xs) (j ∷ ys) (to_k, rest_k) (to_j, rest_j) in_b in_c p q =
      let same : j ≡ k = one x j k to_j to_k in
      let shift : (n : ℕ) (zs : List ℕ) → (seen ++ x ∷ []) ++ n ∷ zs ≡ seen ++ x ∷ n ∷ zs = λ n zs. append_assoc seen (x ∷ []) (n ∷ zs) in
      let (tails, ends) = walk_is_one (seen ++ x ∷ []) k b c xs ys rest_k (subst (λ n. LeadsOn R (n ∷ ys) c) same rest_j)
      (subst (λ l. Contains l b) (sym (shift k xs)) in_b)
      (subst (λ l. Contains l c) (sym (shift k ys)) (subst (λ n. Contains (seen ++ x ∷ n ∷ ys) c) same in_c))
      (subst Apart (sym (shift k xs)) p)
      (subst Apart (sym (shift k ys)) (subst (λ n. Apart (seen ++ x ∷ n ∷ ys)) same q)) in
      ((λ i. sym same i ∷ tails i), ends)

-- what stands from a number on is one, where it stands once
from_is_one : (x : ℕ) (fs gs xs ys : List ℕ) → Apart (fs ++ x ∷ xs) → fs ++ x ∷ xs ≡ gs ++ x ∷ ys → xs ≡ ys
from_is_one x [] [] xs ys p e = let f : x ∷ xs ≡ x ∷ ys = e in let g : xs ≡ ys = cc in g
from_is_one x [] (g ∷ gs) xs ys p e =
    let f : x ∷ xs ≡ g ∷ (gs ++ x ∷ ys) = e in
    let t : xs ≡ gs ++ x ∷ ys = cc in
    absurd (AllPairs_head (λ i k. i ≢ k) x x xs p (subst (λ l. Contains l x) (sym t) (Contains-append_right gs (x ∷ ys) x (Contains_here x ys))) refl)
from_is_one x (f ∷ fs) [] xs ys p e =
    let h : f ∷ (fs ++ x ∷ xs) ≡ x ∷ ys = e in
    let s : f ≡ x = cc in
    absurd (AllPairs_head (λ i k. i ≢ k) f x (fs ++ x ∷ xs) p (Contains-append_right fs (x ∷ xs) x (Contains_here x xs)) s)
from_is_one x (f ∷ fs) (g ∷ gs) xs ys p e =
    let h : f ∷ (fs ++ x ∷ xs) ≡ g ∷ (gs ++ x ∷ ys) = e in
    let t : fs ++ x ∷ xs ≡ gs ++ x ∷ ys = cc in
    from_is_one x fs gs xs ys (AllPairs_tail (λ i k. i ≢ k) f (fs ++ x ∷ xs) p) t

-- the list of a step cycle is one
pub step_cycle_is_one : StepCycleIsOne
step_cycle_is_one u events list other a b =
    let R = NextStuck u events in
    let one : (x y z : ℕ) → R x y → R x z → y ≡ z = λ x y z. lowest_is_one (NeedsStuck u events x) y z in
    let start : b.first ≡ a.first = lowest_is_one (IsStuck u events) b.first a.first b.starts a.starts in
    let among_a : Contains (a.first ∷ a.more) a.back = subst (λ l. Contains l a.back) (sym a.walk) (Contains-append_right a.front (a.back ∷ a.rest) a.back (Contains_here a.back a.rest)) in
    let among_b : Contains (b.first ∷ b.more) b.back = subst (λ l. Contains l b.back) (sym b.walk) (Contains-append_right b.front (b.back ∷ b.rest) b.back (Contains_here b.back b.rest)) in
    let (tails, ends) = walk_is_one R one [] a.first a.back b.back a.more b.more a.leads (subst (λ n. LeadsOn R (n ∷ b.more) b.back) start b.leads)
    among_a (subst (λ n. Contains (n ∷ b.more) b.back) start among_b) a.once (subst (λ n. Apart (n ∷ b.more)) start b.once) in
    let walks : a.first ∷ a.more ≡ b.first ∷ b.more = (λ i. sym start i ∷ tails i) in
    let whole : a.front ++ a.back ∷ a.rest ≡ b.front ++ a.back ∷ b.rest = sym a.walk ∙ walks ∙ b.walk ∙ ap (λ x. b.front ++ x ∷ b.rest) (sym ends) in
    let rests : a.rest ≡ b.rest = from_is_one a.back a.front b.front a.rest b.rest (subst Apart a.walk a.once) whole in
    a.list_is ∙ (λ i. ends i ∷ rests i) ∙ sym b.list_is
