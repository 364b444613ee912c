-- How steps are counted by their states.
use Rattle.std.proofs.Common.{◌≡◌, ℕ, suc, ◌+◌, ◌≤◌, ◌⊎◌, Bool, true, false, List, [], ◌∷◌, cond, count_by, slice_index_or, inl, inr, sym, ap, subst, length, arith}
use Rattle.std.proofs.lemmas.List.Sums.{sum_by-append}
use Rattle.b2_sched.specs.declared.state.State.{State}
use Rattle.b2_sched.specs.declared.state.State.TheVariants.{Settled}

count_first : (p : State → Bool) (x : State) (xs : List State) → count_by p (x ∷ xs) ≡ cond (p x) 1 0 + count_by p xs
count_first p x xs = let f = sum_by-append (λ y. cond (p y) 1 0) (x ∷ []) xs in omega arith

at_most_one : (c : Bool) → cond c 1 0 ≤ 1
at_most_one true = omega arith
at_most_one false = omega arith

-- no more have the property than there are
pub count_within : (p : State → Bool) (xs : List State) → count_by p xs ≤ length xs
count_within p [] = omega arith
count_within p (x ∷ xs) = let rest = count_within p xs in let one = at_most_one (p x) in omega (arith, rest, one, count_first p x xs)

at_most : (a b : Bool) → (a ≡ b) ⊎ (b ≡ true) → cond a 1 0 ≤ cond b 1 0
at_most a b (inl same) = subst (λ c. cond a 1 0 ≤ cond c 1 0) same (omega arith)
at_most a b (inr is) = subst (λ c. cond a 1 0 ≤ cond c 1 0) (sym is) (at_most_one a)

-- no more have it where each state is as before, or had it
pub count_at_most : (p : State → Bool) (xs ys : List State) → length xs ≡ length ys
    → ((i : ℕ) → (slice_index_or xs i Settled ≡ slice_index_or ys i Settled) ⊎ (p (slice_index_or ys i Settled) ≡ true)) → count_by p xs ≤ count_by p ys
count_at_most p [] [] size each = omega arith
count_at_most p [] (y ∷ ys) size each = omega (arith, size)
count_at_most p (x ∷ xs) [] size each = omega (arith, size)
count_at_most p (x ∷ xs) (y ∷ ys) size each =
    let first = at_most (p x) (p y) (elim (each 0) [ inl same ↦ inl (ap p same) | inr is ↦ inr is ]) in
    let rest = count_at_most p xs ys (omega (arith, size)) (λ i. each (suc i)) in
    omega (arith, first, rest, count_first p x xs, count_first p y ys)
