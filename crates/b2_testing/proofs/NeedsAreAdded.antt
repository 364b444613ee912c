-- A further input adds a need of its maker, and a further step those of its inputs.
use Rattle.std.proofs.Common.{◌≡◌, ◌⊎◌, inl, inr, ℕ, suc, ◌+◌, ◌<◌, ◌≤◌, List, [], ◌∷◌, ◌++◌, take, length, get_or, set, Option, Some, None, slice_get, refl, sym, ◌∙◌, ap, subst, arith}
use Rattle.std.specs.List.{Contains}
use Rattle.std.proofs.Math.ListN.{length-set}
use Rattle.std.proofs.lemmas.Bool.{cases_eq}
use Rattle.std.proofs.lemmas.List.{get_or-set_same, get_or-set_other}
use Rattle.std.proofs.lemmas.List.Elements.{Contains-append_left}
use Rattle.b2_plan.specs.declared.step.Step.{Step}
use Rattle.b2_plan.specs.Plans.{step_at, maker_of}
use Rattle.b2_runs.proofs.NumberHasOneStep.{one_step}
use Rattle.b2_sched.specs.SchedulerCalls.{MakesOneOf}
use Rattle.b2_sched.specs.Cycles.{NeedsIn}
use Rattle.b2_sched.proofs.WantedFilesAddTheirMakers.{maker_within, makes_more, makes_last, made_or_last}
use Rattle.b2_sched.proofs.DependentsWakeOneByOne.{none_in_empty}
use Rattle.b2_sched.proofs.ChangesKeepTheInvariant.{in_pushed, pushed_has}
use Rattle.b2_testing.specs.Leading.{HasNeeds, NeedsMaker, AreDependentsTo, needed_too}

-- no input adds nothing
pub none_needed : (steps : List Step) (number : ℕ) (dependents : List (List ℕ)) → HasNeeds steps number [] dependents dependents
none_needed steps number dependents = record { size = refl; needs = λ i k. ((λ c. inl c), back i k) }
  where
    back : (i k : ℕ) → NeedsIn dependents i k ⊎ ((i ≡ number) × MakesOneOf steps [] k) → NeedsIn dependents i k
    back i k (inl c) = c
    back i k (inr (e, m)) = absurd (none_in_empty m.0 m.1)

same_maker : (a b : ℕ) → Some a ≡ Some b → a ≡ b
same_maker a b e = cc

not_found : (k : ℕ) → None ≡ Some k → ⊥
not_found k e = cc

-- one more input
pub needs_more : (steps : List Step) (number : ℕ) (paths : List (List ℕ)) (n : ℕ) (before dependents after : List (List ℕ)) (r : Option ℕ) → n < length paths → length before ≡ length steps + 1 → maker_of steps (get_or paths n []) ≡ r
    → after ≡ needed_too r number dependents → HasNeeds steps number (take n paths) before dependents → HasNeeds steps number (take (n + 1) paths) before after
needs_more steps number paths n before dependents after None w whole found asked was = record {
  size = ap length asked ∙ was.size;
  needs = λ i k. ((λ c. there i k ((was.needs i k).0 (subst (λ (ds : List (List ℕ)). NeedsIn ds i k) asked c))), (λ m. subst (λ (ds : List (List ℕ)). NeedsIn ds i k) (sym asked) ((was.needs i k).1 (back i k m))));
}
  where
    there : (i k : ℕ) → NeedsIn before i k ⊎ ((i ≡ number) × MakesOneOf steps (take n paths) k) → NeedsIn before i k ⊎ ((i ≡ number) × MakesOneOf steps (take (n + 1) paths) k)
    there i k (inl c) = inl c
    there i k (inr m) = inr (m.0, makes_more steps paths n k w m.1)

    back : (i k : ℕ) → NeedsIn before i k ⊎ ((i ≡ number) × MakesOneOf steps (take (n + 1) paths) k) → NeedsIn before i k ⊎ ((i ≡ number) × MakesOneOf steps (take n paths) k)
    back i k (inl c) = inl c
    back i k (inr m) = inr (m.0, elim (made_or_last steps paths n k w m.1) [ inl h ↦ h | inr e ↦ absurd (not_found k (sym found ∙ e)) ])
needs_more steps number paths n before dependents after (Some on) w whole found asked was = record {
  size = ap length asked ∙ length-set dependents on pushed ∙ was.size;
  needs = λ i k. ((λ c. there i k (subst (λ (ds : List (List ℕ)). NeedsIn ds i k) asked c) (cases_eq k on)), (λ m. subst (λ (ds : List (List ℕ)). NeedsIn ds i k) (sym asked) (back i k m (cases_eq k on))));
}
  where
    pushed : List ℕ
    pushed = get_or dependents on [] ++ number ∷ []

    inside : on < length dependents
    inside = omega (arith, was.size, whole, (maker_within steps (get_or paths n []) on found).1)

    -- what stands at the maker, and elsewhere
    here : (k : ℕ) → k ≡ on → get_or (set dependents on pushed) k [] ≡ pushed
    here k same = ap (λ j. get_or (set dependents on pushed) j []) same ∙ get_or-set_same dependents on pushed [] inside

    elsewhere : (k : ℕ) → (k ≡ on → ⊥) → get_or (set dependents on pushed) k [] ≡ get_or dependents k []
    elsewhere k ne = get_or-set_other dependents on k pushed [] ne

    more : (i k : ℕ) → NeedsIn dependents i k → NeedsIn before i k ⊎ ((i ≡ number) × MakesOneOf steps (take (n + 1) paths) k)
    more i k c = elim ((was.needs i k).0 c) [ inl h ↦ inl h | inr m ↦ inr (m.0, makes_more steps paths n k w m.1) ]

    there : (i k : ℕ) → NeedsIn (set dependents on pushed) i k → (k ≡ on) ⊎ (k ≡ on → ⊥) → NeedsIn before i k ⊎ ((i ≡ number) × MakesOneOf steps (take (n + 1) paths) k)
    there i k c (inl same) = elim (in_pushed (get_or dependents on []) number i (subst (λ (xs : List ℕ). Contains xs i) (here k same) c)) [
      | inl h ↦ more i k (subst (λ (j : ℕ). NeedsIn dependents i j) (sym same) h)
      | inr e ↦ inr (e, subst (MakesOneOf steps (take (n + 1) paths)) (sym same) (makes_last steps paths n on w found))
    ]
    there i k c (inr ne) = more i k (subst (λ (xs : List ℕ). Contains xs i) (elsewhere k ne) c)

    kept : (i k : ℕ) → NeedsIn dependents i k → (k ≡ on) ⊎ (k ≡ on → ⊥) → NeedsIn (set dependents on pushed) i k
    kept i k h (inl same) = subst (λ (xs : List ℕ). Contains xs i) (sym (here k same)) (in_front i (subst (λ (j : ℕ). NeedsIn dependents i j) same h))
      where
        in_front : (i : ℕ) → Contains (get_or dependents on []) i → Contains (get_or dependents on [] ++ number ∷ []) i
        in_front i c = Contains-append_left (get_or dependents on []) (number ∷ []) i c
    kept i k h (inr ne) = subst (λ (xs : List ℕ). Contains xs i) (sym (elsewhere k ne)) h

    last : (i k : ℕ) → i ≡ number → maker_of steps (get_or paths n []) ≡ Some k → NeedsIn (set dependents on pushed) i k
    last i k e made =
        let same : k ≡ on = same_maker k on (sym made ∙ found) in
        subst (λ (xs : List ℕ). Contains xs i) (sym (here k same)) (subst (Contains pushed) (sym e) (pushed_has (get_or dependents on []) number))

    back : (i k : ℕ) → NeedsIn before i k ⊎ ((i ≡ number) × MakesOneOf steps (take (n + 1) paths) k) → (k ≡ on) ⊎ (k ≡ on → ⊥) → NeedsIn (set dependents on pushed) i k
    back i k (inl c) d = kept i k ((was.needs i k).1 (inl c)) d
    back i k (inr m) d = elim (made_or_last steps paths n k w m.1) [ inl h ↦ kept i k ((was.needs i k).1 (inr (m.0, h))) d | inr made ↦ last i k m.0 made ]

-- no step needs another one yet
pub none_depend : (steps : List Step) (dependents : List (List ℕ)) → length dependents ≡ length steps + 1 → ((k : ℕ) → get_or dependents k [] ≡ []) → AreDependentsTo steps 0 dependents
none_depend steps dependents size none = record {
  size = size;
  needs = λ i k. ((λ c. absurd (none_in_empty i (subst (λ (xs : List ℕ). Contains xs i) (none k) c))), (λ m. absurd (none_at (subst (λ (n : ℕ). step_at steps n ≡ Some m.0.step) (let h = m.1 in let e : i ≡ 0 = omega arith in e) m.0.at))));
}
  where
    none_at : {X : Type 0} {x : X} → None ≡ Some x → ⊥
    none_at e = cc

-- one more step
pub depend_more : (steps : List Step) (place : ℕ) (step : Step) (before after : List (List ℕ)) → step_at steps (place + 1) ≡ Some step → HasNeeds steps (place + 1) step.ins before after → AreDependentsTo steps place before → AreDependentsTo steps (place + 1) after
depend_more steps place step before after at has was = record {
  size = has.size ∙ was.size;
  needs = λ i k. ((λ c. there i k ((has.needs i k).0 c)), (λ m. back i k m.0 m.1 (cases_eq i (place + 1))));
}
  where
    there : (i k : ℕ) → NeedsIn before i k ⊎ ((i ≡ place + 1) × MakesOneOf steps step.ins k) → NeedsMaker steps i k × (i ≤ place + 1)
    there i k (inl c) = let m = (was.needs i k).0 c in (m.0, omega (arith, m.1))
    there i k (inr (e, makes)) = (record { step = step; at = subst (λ (n : ℕ). step_at steps n ≡ Some step) (sym e) at; makes = makes }, omega (arith, e))

    back : (i k : ℕ) → NeedsMaker steps i k → i ≤ place + 1 → (i ≡ place + 1) ⊎ (i ≡ place + 1 → ⊥) → NeedsIn after i k
    back i k m low (inl e) =
        let same : m.step ≡ step = one_step steps i m.step step m.at (subst (λ (n : ℕ). step_at steps n ≡ Some step) (sym e) at) in
        (has.needs i k).1 (inr (e, subst (λ (s : Step). MakesOneOf steps s.ins k) same m.makes))
    back i k m low (inr ne) = (has.needs i k).1 (inl ((was.needs i k).1 (m, omega (arith, low, ne))))

-- the same of steps as they are read
pub depend_next : (steps read : List Step) (place : ℕ) (step : Step) (ins : List (List ℕ)) (before after : List (List ℕ)) → read ≡ steps → slice_get read place ≡ Some step → ins ≡ step.ins → HasNeeds steps (place + 1) ins before after → AreDependentsTo steps place before
    → AreDependentsTo steps (place + 1) after
depend_next steps read place step ins before after same at e has was =
    let number : suc place ≡ place + 1 = omega arith in
    depend_more steps place step before after (subst (λ (n : ℕ). step_at steps n ≡ Some step) number (subst (λ (xs : List Step). slice_get xs place ≡ Some step) same at))
    (subst (λ (ps : List (List ℕ)). HasNeeds steps (place + 1) ps before after) e has) was
