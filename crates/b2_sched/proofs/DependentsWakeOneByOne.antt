-- A further dependent of a settled step can be looked at, for the loop over them; and what lists with one more have.
use Rattle.std.proofs.Common.{◌≡◌, ◌⊎◌, inl, inr, ℕ, ◌+◌, ◌<◌, Bool, true, false, cond, List, [], ◌∷◌, take, length, get_or, set, refl, sym, ◌∙◌, ap, subst, arith}
use Rattle.std.specs.List.{Contains}
use Rattle.std.proofs.Math.ListN.{length-set}
use Rattle.std.proofs.lemmas.List.{take_more}
use Rattle.std.proofs.lemmas.List.Elements.{Contains-append_left, Contains-append_right, Contains-append_cases}
use Rattle.b2_sched.specs.declared.state.State.{State}
use Rattle.b2_sched.specs.declared.state.State.TheVariants.{Unjudged, Stale, Running, Settled, Failed}
use Rattle.b2_sched.specs.NumberSets.{Has}
use Rattle.b2_sched.specs.Keeping.{IsWoken, is_unjudged}
use Rattle.b2_sched.proofs.IndexFindsTheLowest.{has_set, has_still, had_or_is}

-- whether a state is that of a step that is not judged
pub unjudged_or_not : (state : State) → ((state ≡ Unjudged) × (is_unjudged state ≡ true)) ⊎ ((state ≡ Unjudged → ⊥) × (is_unjudged state ≡ false))
unjudged_or_not Unjudged = inl (refl, refl)
unjudged_or_not Stale = inr ((λ e. cc), refl)
unjudged_or_not Running = inr ((λ e. cc), refl)
unjudged_or_not Settled = inr ((λ e. cc), refl)
unjudged_or_not Failed = inr ((λ e. cc), refl)

-- what a list of one has
pub only_one : {X : Type 0} (y i : X) → Contains (y ∷ []) i → i ≡ y
only_one y i (k, below, e) = let z : k ≡ 0 = omega arith in sym e ∙ ap (λ m. get_or (y ∷ []) m i) z

pub one_has : {X : Type 0} (y : X) → Contains (y ∷ []) y
one_has y = (0, omega arith, refl)

pub none_in_empty : {X : Type 0} (i : X) → Contains [] i → ⊥
none_in_empty i (k, below, e) = omega arith

-- an element of the front and one more
pub in_more : {X : Type 0} (xs : List X) (n : ℕ) (d i : X) → n < length xs → Contains (take (n + 1) xs) i → Contains (take n xs) i ⊎ (i ≡ get_or xs n d)
in_more {X} xs n d i w c = go (Contains-append_cases (take n xs) (get_or xs n d ∷ []) i (subst (λ (ys : List X). Contains ys i) (take_more xs n d w) c))
  where
    go : Contains (take n xs) i ⊎ Contains (get_or xs n d ∷ []) i → Contains (take n xs) i ⊎ (i ≡ get_or xs n d)
    go (inl h) = inl h
    go (inr h) = inr (only_one (get_or xs n d) i h)

pub in_front : {X : Type 0} (xs : List X) (n : ℕ) (d i : X) → n < length xs → Contains (take n xs) i → Contains (take (n + 1) xs) i
in_front {X} xs n d i w c = subst (λ (ys : List X). Contains ys i) (sym (take_more xs n d w)) (Contains-append_left (take n xs) (get_or xs n d ∷ []) i c)

pub in_last : {X : Type 0} (xs : List X) (n : ℕ) (d : X) → n < length xs → Contains (take (n + 1) xs) (get_or xs n d)
in_last {X} xs n d w = subst (λ (ys : List X). Contains ys (get_or xs n d)) (sym (take_more xs n d w)) (Contains-append_right (take n xs) (get_or xs n d ∷ []) (get_or xs n d) (one_has (get_or xs n d)))

-- one more dependent
pub woken_more : (states : List State) (dependents : List ℕ) (n : ℕ) (looks woken after : List Bool) → n < length dependents → get_or dependents n 0 < length woken
    → after ≡ cond (is_unjudged (get_or states (get_or dependents n 0) Settled)) (set woken (get_or dependents n 0) true) woken
    → IsWoken states (take n dependents) looks woken → IsWoken states (take (n + 1) dependents) looks after
woken_more states dependents n looks woken after w inside made was = go (unjudged_or_not (get_or states (get_or dependents n 0) Settled))
  where
    d : ℕ
    d = get_or dependents n 0

    go : ((get_or states d Settled ≡ Unjudged) × (is_unjudged (get_or states d Settled) ≡ true)) ⊎ ((get_or states d Settled ≡ Unjudged → ⊥) × (is_unjudged (get_or states d Settled) ≡ false))
        → IsWoken states (take (n + 1) dependents) looks after
    go (inl (unjudged, e)) =
        let is : after ≡ set woken d true = made ∙ ap (λ b. cond b (set woken d true) woken) e in
        subst (λ (xs : List Bool). IsWoken states (take (n + 1) dependents) looks xs) (sym is) (record {
          size = length-set woken d true ∙ was.size;
          looks_are = λ i. (λ h. there i unjudged (had_or_is woken d i h), λ h. back i unjudged h);
        })
      where
        there : (i : ℕ) → get_or states d Settled ≡ Unjudged → (i ≡ d) ⊎ Has woken i → Has looks i ⊎ ((get_or states i Settled ≡ Unjudged) × Contains (take (n + 1) dependents) i)
        there i u (inl same) = inr (ap (λ k. get_or states k Settled) same ∙ u, subst (Contains (take (n + 1) dependents)) (sym same) (in_last dependents n 0 w))
        there i u (inr h) = elim ((was.looks_are i).0 h) [ inl a ↦ inl a | inr b ↦ inr (b.0, in_front dependents n 0 i w b.1) ]

        back : (i : ℕ) → get_or states d Settled ≡ Unjudged → Has looks i ⊎ ((get_or states i Settled ≡ Unjudged) × Contains (take (n + 1) dependents) i) → Has (set woken d true) i
        back i u (inl a) = has_still woken d i inside ((was.looks_are i).1 (inl a))
        back i u (inr b) = elim (in_more dependents n 0 i w b.1) [
          | inl c ↦ has_still woken d i inside ((was.looks_are i).1 (inr (b.0, c)))
          | inr same ↦ subst (Has (set woken d true)) (sym same) (has_set woken d inside)
        ]
    go (inr (judged, e)) =
        let is : after ≡ woken = made ∙ ap (λ b. cond b (set woken d true) woken) e in
        subst (λ (xs : List Bool). IsWoken states (take (n + 1) dependents) looks xs) (sym is) (record {
          size = was.size;
          looks_are = λ i. (λ h. there i ((was.looks_are i).0 h), λ h. back i judged h);
        })
      where
        there : (i : ℕ) → Has looks i ⊎ ((get_or states i Settled ≡ Unjudged) × Contains (take n dependents) i) → Has looks i ⊎ ((get_or states i Settled ≡ Unjudged) × Contains (take (n + 1) dependents) i)
        there i (inl a) = inl a
        there i (inr b) = inr (b.0, in_front dependents n 0 i w b.1)

        back : (i : ℕ) → (get_or states d Settled ≡ Unjudged → ⊥) → Has looks i ⊎ ((get_or states i Settled ≡ Unjudged) × Contains (take (n + 1) dependents) i) → Has woken i
        back i j (inl a) = (was.looks_are i).1 (inl a)
        back i j (inr b) = elim (in_more dependents n 0 i w b.1) [
          | inl c ↦ (was.looks_are i).1 (inr (b.0, c))
          | inr same ↦ absurd (j (ap (λ k. get_or states k Settled) (sym same) ∙ b.0))
        ]
