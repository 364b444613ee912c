-- A map that is given a value at one key has it there, and at all others what it had; for the maps from paths and from pairs.
use Rattle.std.proofs.Common.{◌≡◌, ◌⊎◌, inl, inr, Bool, true, false, cond, Some, refl, sym, ◌∙◌, ap}
use Rattle.std.proofs.lemmas.Bool.{false≢true}
use Rattle.std.specs.declared.cmp.Ordering.{Ordering}
use Rattle.std.specs.declared.cmp.Ordering.TheVariants.{Less, Equal, Greater}
use Rattle.std.specs.Ordering.{is_eq, eq_by_cmp}
use Rattle.std.specs.Cmp.{IsTotalOrder}
use Rattle.std.specs.FinMap.{FinMap, IsAntisymmetric, get, insert, get-insert}
use Rattle.std.proofs.lemmas.Cmp.{eq_by_cmp_equiv}

equal_if : (r : Ordering) → is_eq r ≡ true → r ≡ Equal
equal_if Less e = absurd (false≢true e)
equal_if Equal e = refl
equal_if Greater e = absurd (false≢true e)

module _ {K : Type 0} {R : K → K → Ordering} (total : IsTotalOrder R) (same : IsAntisymmetric R) where
  -- two keys that differ are not alike by the order
  apart : (q k : K) → (q ≡ k → ⊥) → (b : Bool) → eq_by_cmp R q k ≡ b → eq_by_cmp R q k ≡ false
  apart q k other true e = absurd (other (same q k (equal_if (R q k) e)))
  apart q k other false e = e

  -- two keys are one, or not
  pub one_or_other : (q k : K) → (q ≡ k) ⊎ (q ≡ k → ⊥)
  one_or_other q k = go (eq_by_cmp R q k) refl
    where
      go : (b : Bool) → eq_by_cmp R q k ≡ b → (q ≡ k) ⊎ (q ≡ k → ⊥)
      go true e = inl (same q k (equal_if (R q k) e))
      go false e = inr (λ one. false≢true (sym e ∙ ap (eq_by_cmp R q) (sym one) ∙ (eq_by_cmp_equiv total).refl q))

  module _ {V : Type 0} where
    pub at_key : (m : FinMap R V) (k : K) (v : V) → get (insert m k v) k ≡ Some v
    at_key m k v = get-insert total m k v k ∙ ap (λ b. cond b (Some v) (get m k)) ((eq_by_cmp_equiv total).refl k)

    pub at_other : (m : FinMap R V) (k : K) (v : V) (q : K) → (q ≡ k → ⊥) → get (insert m k v) q ≡ get m q
    at_other m k v q other = get-insert total m k v q ∙ ap (λ b. cond b (Some v) (get m q)) (apart q k other (eq_by_cmp R q k) refl)
