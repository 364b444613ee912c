-- A further wanted file asks for the step that makes it, if there is one; for the loop that begins a scheduler.
use Rattle.std.proofs.Common.{◌≡◌, ◌⊎◌, inl, inr, ℕ, ◌+◌, ◌<◌, ◌≤◌, Bool, true, false, cond, List, [], ◌∷◌, ◌++◌, take, length, get_or, set, Option, Some, None, sym, ◌∙◌, ap, subst, arith}
use Rattle.std.specs.List.{Contains, list_any}
use Rattle.std.specs.Str.{bytes_eq}
use Rattle.std.proofs.Math.ListN.{length-set}
use Rattle.std.proofs.lemmas.Bool.{cases_eq}
use Rattle.std.proofs.lemmas.List.{get_or-set_same, get_or-set_other}
use Rattle.b2_plan.specs.declared.step.Step.{Step}
use Rattle.b2_plan.specs.Plans.{maker_of, maker_from}
use Rattle.b2_sched.specs.SchedulerCalls.{MakesOneOf}
use Rattle.b2_sched.specs.NumberSets.{Has, HasNone}
use Rattle.b2_sched.specs.Keeping.{AreWanted, asked_too, looked_too}
use Rattle.b2_sched.proofs.IndexFindsTheLowest.{has_set, has_still, had_or_is}
use Rattle.b2_sched.proofs.DependentsWakeOneByOne.{none_in_empty, in_more, in_front, in_last}
use Rattle.b2_sched.proofs.ChangesKeepTheInvariant.{in_pushed, pushed_has}

-- makers are steps
pub maker_from_within : (n : ℕ) (steps : List Step) (path : List ℕ) (k : ℕ) → maker_from n steps path ≡ Some k → (n ≤ k) × (k < n + length steps)
maker_from_within n [] path k e = cc
maker_from_within n (step ∷ steps) path k e = go (list_any (bytes_eq path) step.outs) (λ f. maker_from_within (n + 1) steps path k f) e
  where
    go : (b : Bool) → (maker_from (n + 1) steps path ≡ Some k → (n + 1 ≤ k) × (k < n + 1 + length steps)) → cond b (Some n) (maker_from (n + 1) steps path) ≡ Some k → (n ≤ k) × (k < n + length (step ∷ steps))
    go true more f = let same : n ≡ k = cc in (omega arith, omega arith)
    go false more f = let m = more f in (omega (arith, m.0), omega (arith, m.1))

pub maker_within : (steps : List Step) (path : List ℕ) (k : ℕ) → maker_of steps path ≡ Some k → (0 < k) × (k < length steps + 1)
maker_within steps path k e = let w = maker_from_within 1 steps path k e in (omega (arith, w.0), omega (arith, w.1))

-- no file was asked for yet
pub none_wanted : (steps : List Step) (dependents : List (List ℕ)) (looks : List Bool) → length dependents ≡ length steps + 1 → length looks ≡ length steps + 1
    → ((k : ℕ) → get_or dependents k [] ≡ []) → HasNone looks → AreWanted steps [] dependents looks
none_wanted steps dependents looks size lsize none empty = record {
  dependents_size = size;
  looks_size = lsize;
  needs = λ i k. ((λ c. absurd (none_in_empty i (subst (λ (xs : List ℕ). Contains xs i) (none k) c))), (λ m. absurd (none_in_empty m.1.0 m.1.1)));
  looks_are = λ k. ((λ h. absurd (empty k h)), (λ m. absurd (none_in_empty m.0 m.1)));
}

-- the makers of one more file
pub makes_more : (steps : List Step) (wanted : List (List ℕ)) (n k : ℕ) → n < length wanted → MakesOneOf steps (take n wanted) k → MakesOneOf steps (take (n + 1) wanted) k
makes_more steps wanted n k w (path, among, makes) = (path, in_front wanted n [] path w among, makes)

pub makes_last : (steps : List Step) (wanted : List (List ℕ)) (n k : ℕ) → n < length wanted → maker_of steps (get_or wanted n []) ≡ Some k → MakesOneOf steps (take (n + 1) wanted) k
makes_last steps wanted n k w e = (get_or wanted n [], in_last wanted n [] w, e)

pub made_or_last : (steps : List Step) (wanted : List (List ℕ)) (n k : ℕ) → n < length wanted → MakesOneOf steps (take (n + 1) wanted) k → MakesOneOf steps (take n wanted) k ⊎ (maker_of steps (get_or wanted n []) ≡ Some k)
made_or_last steps wanted n k w (path, among, makes) = elim (in_more wanted n [] path w among)
    [ inl h ↦ inl (path, h, makes) | inr same ↦ inr (ap (maker_of steps) (sym same) ∙ makes) ]

-- one more file is asked for
pub wanted_more : (steps : List Step) (wanted : List (List ℕ)) (n : ℕ) (dependents after : List (List ℕ)) (looks seen : List Bool) (r : Option ℕ) → n < length wanted → maker_of steps (get_or wanted n []) ≡ r
    → after ≡ asked_too r dependents → seen ≡ looked_too r looks → AreWanted steps (take n wanted) dependents looks → AreWanted steps (take (n + 1) wanted) after seen
wanted_more steps wanted n dependents after looks seen None w found asked looked was = record {
  dependents_size = ap length asked ∙ was.dependents_size;
  looks_size = ap length looked ∙ was.looks_size;
  needs = λ i k. ((λ c. there i k (subst (λ (ds : List (List ℕ)). Contains (get_or ds k []) i) asked c)), (λ m. subst (λ (ds : List (List ℕ)). Contains (get_or ds k []) i) (sym asked) ((was.needs i k).1 (m.0, back k m.1))));
  looks_are = λ k. ((λ h. makes_more steps wanted n k w ((was.looks_are k).0 (subst (λ (fs : List Bool). Has fs k) looked h))), (λ m. subst (λ (fs : List Bool). Has fs k) (sym looked) ((was.looks_are k).1 (back k m))));
}
  where
    there : (i k : ℕ) → Contains (get_or dependents k []) i → (i ≡ 0) × MakesOneOf steps (take (n + 1) wanted) k
    there i k c = let m = (was.needs i k).0 c in (m.0, makes_more steps wanted n k w m.1)

    back : (k : ℕ) → MakesOneOf steps (take (n + 1) wanted) k → MakesOneOf steps (take n wanted) k
    back k m = elim (made_or_last steps wanted n k w m) [ inl h ↦ h | inr e ↦ absurd (not_found k (sym found ∙ e)) ]
      where
        not_found : (k : ℕ) → None ≡ Some k → ⊥
        not_found k e = cc
wanted_more steps wanted n dependents after looks seen (Some on) w found asked looked was = record {
  dependents_size = ap length asked ∙ length-set dependents on (get_or dependents on [] ++ 0 ∷ []) ∙ was.dependents_size;
  looks_size = ap length looked ∙ length-set looks on true ∙ was.looks_size;
  needs = λ i k. (
    (λ c. there i k (subst (λ (ds : List (List ℕ)). Contains (get_or ds k []) i) asked c) (cases_eq k on)),
    (λ m. subst (λ (ds : List (List ℕ)). Contains (get_or ds k []) i) (sym asked) (back i k m.0 (made_or_last steps wanted n k w m.1) (cases_eq k on))),
  );
  looks_are = λ k. ((λ h. seen_there k (had_or_is looks on k (subst (λ (fs : List Bool). Has fs k) looked h))), (λ m. subst (λ (fs : List Bool). Has fs k) (sym looked) (seen_back k (made_or_last steps wanted n k w m))));
}
  where
    inside : on < length dependents
    inside = omega (arith, was.dependents_size, (maker_within steps (get_or wanted n []) on found).1)

    within : on < length looks
    within = omega (arith, was.looks_size, (maker_within steps (get_or wanted n []) on found).1)

    pushed : List ℕ
    pushed = get_or dependents on [] ++ 0 ∷ []

    there : (i k : ℕ) → Contains (get_or (set dependents on pushed) k []) i → (k ≡ on) ⊎ (k ≡ on → ⊥) → (i ≡ 0) × MakesOneOf steps (take (n + 1) wanted) k
    there i k c (inl same) = elim (in_pushed (get_or dependents on []) 0 i (subst (λ (xs : List ℕ). Contains xs i) (ap (λ j. get_or (set dependents on pushed) j []) same ∙ get_or-set_same dependents on pushed [] inside) c)) [
      | inl h ↦ (let m = (was.needs i on).0 h in (m.0, subst (MakesOneOf steps (take (n + 1) wanted)) (sym same) (makes_more steps wanted n on w m.1)))
      | inr zero ↦ (zero, subst (MakesOneOf steps (take (n + 1) wanted)) (sym same) (makes_last steps wanted n on w found))
    ]
    there i k c (inr ne) = let m = (was.needs i k).0 (subst (λ (xs : List ℕ). Contains xs i) (get_or-set_other dependents on k pushed [] ne) c) in (m.0, makes_more steps wanted n k w m.1)

    back : (i k : ℕ) → i ≡ 0 → MakesOneOf steps (take n wanted) k ⊎ (maker_of steps (get_or wanted n []) ≡ Some k) → (k ≡ on) ⊎ (k ≡ on → ⊥) → Contains (get_or (set dependents on pushed) k []) i
    back i k zero m (inl same) = subst (λ (xs : List ℕ). Contains xs i) (sym (ap (λ j. get_or (set dependents on pushed) j []) same ∙ get_or-set_same dependents on pushed [] inside))
        (subst (Contains pushed) (sym zero) (pushed_has (get_or dependents on []) 0))
    back i k zero (inl m) (inr ne) = subst (λ (xs : List ℕ). Contains xs i) (sym (get_or-set_other dependents on k pushed [] ne)) ((was.needs i k).1 (zero, m))
    back i k zero (inr e) (inr ne) = absurd (ne (same_step k on (sym e ∙ found)))
      where
        same_step : (a b : ℕ) → Some a ≡ Some b → a ≡ b
        same_step a b e = cc

    seen_there : (k : ℕ) → (k ≡ on) ⊎ Has looks k → MakesOneOf steps (take (n + 1) wanted) k
    seen_there k (inl same) = subst (MakesOneOf steps (take (n + 1) wanted)) (sym same) (makes_last steps wanted n on w found)
    seen_there k (inr h) = makes_more steps wanted n k w ((was.looks_are k).0 h)

    seen_back : (k : ℕ) → MakesOneOf steps (take n wanted) k ⊎ (maker_of steps (get_or wanted n []) ≡ Some k) → Has (set looks on true) k
    seen_back k (inl m) = has_still looks on k within ((was.looks_are k).1 m)
    seen_back k (inr e) = subst (Has (set looks on true)) (sym (same_step k on (sym e ∙ found))) (has_set looks on within)
      where
        same_step : (a b : ℕ) → Some a ≡ Some b → a ≡ b
        same_step a b e = cc
