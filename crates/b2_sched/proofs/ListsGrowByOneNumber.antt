-- A further number in the list of all those that have a property, for the lists of steps that are answered.
use Rattle.std.proofs.Common.{◌≡◌, ◌⊎◌, inl, inr, ℕ, ◌+◌, ◌<◌, ◌≤◌, Bool, true, false, cond, List, [], ◌∷◌, ◌++◌, length, get_or, refl, sym, ap, subst, arith}
use Rattle.std.specs.List.{Contains}
use Rattle.std.proofs.lemmas.Bool.{cases_eq, cases_lt, false≢true}
use Rattle.std.proofs.lemmas.List.{get_or_past}
use Rattle.std.proofs.lemmas.List.Quantifiers.{all_pairs_push}
use Rattle.std.proofs.lemmas.List.Elements.{Contains-append_left, Contains-get_or}
use Rattle.b2_runs.specs.Outcomes.{IsListOf}
use Rattle.b2_sched.specs.declared.state.State.{State}
use Rattle.b2_sched.specs.declared.state.State.TheVariants.{Unjudged, Stale, Running, Settled, Failed}
use Rattle.b2_sched.specs.Keeping.{is_failed}
use Rattle.b2_sched.proofs.ChangesKeepTheInvariant.{in_pushed, pushed_has, not_two}

-- a list of the same numbers by another property
pub listed_same : (P Q : ℕ → Type 0) (xs : List ℕ) → ((i : ℕ) → P i → Q i) → ((i : ℕ) → Q i → P i) → IsListOf P xs → IsListOf Q xs
listed_same P Q xs there back is = record {
  rising = is.rising;
  each = λ i c. there i (is.each i c);
  whole = λ i q. is.whole i (back i q);
}

-- one more number
pub listed_more : (P : ℕ → Type 0) (n : ℕ) (xs ys : List ℕ) (flag : Bool) → ys ≡ cond flag (xs ++ n ∷ []) xs → (flag ≡ true → P n) → (P n → flag ≡ true)
    → IsListOf (λ i. (i < n) × P i) xs → IsListOf (λ i. (i < n + 1) × P i) ys
listed_more P n xs ys true e has whole is = subst (IsListOf (λ i. (i < n + 1) × P i)) (sym e) (record {
  rising = all_pairs_push (λ i k. i < k) xs n is.rising (λ k d w. (is.each (get_or xs k d) (Contains-get_or xs k d w)).0);
  each = λ i c. each i (in_pushed xs n i c);
  whole = λ i q. there i q (cases_eq i n);
})
  where
    each : (i : ℕ) → Contains xs i ⊎ (i ≡ n) → (i < n + 1) × P i
    each i (inl c) = let h = is.each i c in (omega (arith, h.0), h.1)
    each i (inr same) = (omega arith, subst P (sym same) (has refl))

    there : (i : ℕ) → (i < n + 1) × P i → (i ≡ n) ⊎ (i ≡ n → ⊥) → Contains (xs ++ n ∷ []) i
    there i q (inl same) = subst (Contains (xs ++ n ∷ [])) (sym same) (pushed_has xs n)
    there i q (inr ne) = Contains-append_left xs (n ∷ []) i (is.whole i (let b = q.0 in omega arith, q.1))
listed_more P n xs ys false e has whole is = subst (IsListOf (λ i. (i < n + 1) × P i)) (sym e) (record {
  rising = is.rising;
  each = λ i c. (let h = is.each i c in (omega (arith, h.0), h.1));
  whole = λ i q. there i q (cases_eq i n);
})
  where
    there : (i : ℕ) → (i < n + 1) × P i → (i ≡ n) ⊎ (i ≡ n → ⊥) → Contains xs i
    there i q (inl same) = absurd (false≢true (whole (subst P same q.1)))
    there i q (inr ne) = is.whole i (let b = q.0 in omega arith, q.1)

-- whether a state is that of a failed step
pub failed_yes : (x : State) → is_failed x ≡ true → x ≡ Failed
failed_yes Unjudged e = absurd (false≢true e)
failed_yes Stale e = absurd (false≢true e)
failed_yes Running e = absurd (false≢true e)
failed_yes Settled e = absurd (false≢true e)
failed_yes Failed e = refl

pub failed_back : (x : State) → x ≡ Failed → is_failed x ≡ true
failed_back x e = ap is_failed e

-- a failed step is one of the steps
pub failed_within : (states : List State) (i : ℕ) → get_or states i Settled ≡ Failed → i < length states
failed_within states i e = go (cases_lt i (length states))
  where
    go : (i < length states) ⊎ (length states ≤ i) → i < length states
    go (inl w) = w
    go (inr past) = absurd (not_two (get_or states i Settled) Settled Failed (get_or_past states i Settled past) e (λ f. cc))
