-- Byte order of paths: of two paths the one stands before the other, or they are one.
use Rattle.std.proofs.Common.{◌≡◌, ◌⊎◌, inl, inr, ℕ, List, refl, sym, ap, subst, ◌∙◌, Less, Equal, Greater, nat_cmp}
use Rattle.std.specs.declared.cmp.Ordering.{Ordering}
use Rattle.std.specs.Ordering.{ordering_reverse, is_eq}
use Rattle.std.specs.Cmp.Lexicographic.{slice_cmp, nat_list_cmp_total, texts_ties}
use Rattle.std.proofs.lemmas.Slice.Eq.{bytes_eq-Decides}
use Rattle.b2_base.specs.Bytes.{Before}
use Rattle.b2_runs.proofs.ClosureIsOne.{Before_irrefl, Before_trans}

less_equal : {A : Type 0} → Less ≡ Equal → A
less_equal e = let f : Less ≡ Equal = e in cc

less_greater : {A : Type 0} → Less ≡ Greater → A
less_greater e = let f : Less ≡ Greater = e in cc

-- paths that compare as equal are one
pub equal_is : (p q : List ℕ) → slice_cmp nat_cmp p q ≡ Equal → p ≡ q
equal_is p q e = (bytes_eq-Decides p q).0 (texts_ties p q ∙ ap is_eq e)

-- paths that compare so stand the other way round
pub greater_is : (p q : List ℕ) → slice_cmp nat_cmp p q ≡ Greater → Before q p
greater_is p q e = go (slice_cmp nat_cmp q p) (sym (nat_list_cmp_total.antisymm p q) ∙ e)
  where
    go : (o : Ordering) → ordering_reverse o ≡ Greater → o ≡ Less
    go Less r = refl
    go Equal r = (let f : Equal ≡ Greater = r in cc)
    go Greater r = less_greater r

pub before_or : (p q : List ℕ) → (p ≡ q) ⊎ (Before p q ⊎ Before q p)
before_or p q = go (slice_cmp nat_cmp p q) refl
  where
    go : (o : Ordering) → slice_cmp nat_cmp p q ≡ o → (p ≡ q) ⊎ (Before p q ⊎ Before q p)
    go Less e = inr (inl e)
    go Equal e = inl (equal_is p q e)
    go Greater e = inr (inr (greater_is p q e))

-- one that stands before the other does not stand behind it, and is not that one
pub not_behind : {A : Type 0} (p q : List ℕ) → Before p q → Before q p → A
not_behind p q one other = absurd (Before_irrefl p (Before_trans p q p one other))

pub not_same : {A : Type 0} (p q : List ℕ) → Before p q → p ≡ q → A
not_same p q one same = absurd (Before_irrefl q (subst (λ r. Before r q) same one))

pub equal_not : {A : Type 0} (p q : List ℕ) → slice_cmp nat_cmp p q ≡ Equal → Before p q → A
equal_not p q e less = less_equal (sym less ∙ e)

pub greater_not : {A : Type 0} (p q : List ℕ) → slice_cmp nat_cmp p q ≡ Greater → Before p q → A
greater_not p q e less = less_greater (sym less ∙ e)

-- what stands before one that is not behind another stands before that one
pub before_through : (p q r : List ℕ) → Before p q → (Before r q → ⊥) → Before p r
before_through p q r one not = elim (before_or q r) [
  | inl same ↦ subst (Before p) same one
  | inr apart ↦ elim apart [
    | inl less ↦ Before_trans p q r one less
    | inr more ↦ absurd (not more)
  ]
]
