-- What is kept of a scheduler holds after a look, a need, a lack and each change of a state, for all of its calls.
use Rattle.std.proofs.Common.{◌≡◌, ◌≢◌, ◌⊎◌, inl, inr, ℕ, ◌+◌, ◌<◌, ◌≤◌, Bool, true, false, cond, List, [], ◌∷◌, ◌++◌, length, get_or, set, refl, sym, ◌∙◌, ap, subst, arith}
use Rattle.std.specs.List.{Contains, count_by}
use Rattle.std.proofs.Math.ListN.{length-set}
use Rattle.std.proofs.lemmas.Bool.{cases_eq, cases_lt}
use Rattle.std.proofs.lemmas.List.{get_or-set_same, get_or-set_other, get_or_past}
use Rattle.std.proofs.lemmas.List.Sums.{sum_by-set}
use Rattle.std.proofs.lemmas.List.Elements.{Contains-append_left, Contains-append_right, Contains-append_cases}
use Rattle.b2_sched.specs.declared.state.State.{State}
use Rattle.b2_sched.specs.declared.state.State.TheVariants.{Unjudged, Stale, Running, Settled, Failed}
use Rattle.b2_sched.specs.NumberSets.{Has, IsLeast}
use Rattle.b2_runs.specs.Numbers.{NeededOf, NeededOf.first, NeededOf.of_needed}
use Rattle.b2_sched.specs.Schedules.{Schedule, state_of, IsUnjudged, IsStale, IsRunning, IsSettled, IsStep, Needs, IsFirst, IsNeeded, CanLook, dependents_of, is_running, running}
use Rattle.b2_sched.specs.SchedulerCalls.{looked_at, with_need, with_lack, with_stale, with_start, with_failure, Settles, is_empty}
use Rattle.b2_sched.specs.Keeping.{IsAsked, IsKept, LooksNext}
use Rattle.b2_sched.proofs.IndexFindsTheLowest.{has_set, has_still, had_or_is, had_other, has_other}
use Rattle.b2_sched.proofs.DependentsWakeOneByOne.{only_one, one_has, none_in_empty}

-- what is needed by fewer needs is needed by more
pub needed_more : (First More : ℕ → Type 0) (Needs Grown : ℕ → ℕ → Type 0) → ((i : ℕ) → First i → More i) → ((i k : ℕ) → Needs i k → Grown i k) → (i : ℕ) → NeededOf First Needs i → NeededOf More Grown i
needed_more First More Needs Grown firsts grows i (first k f) = first k (firsts k f)
needed_more First More Needs Grown firsts grows i (of_needed k j n r) = of_needed k j (needed_more First More Needs Grown firsts grows j n) (grows j k r)

-- a list that has something is not empty
pub some_in : (xs : List ℕ) (i : ℕ) → Contains xs i → xs ≢ []
some_in xs i c e = none_in_empty i (subst (λ (ys : List ℕ). Contains ys i) e c)

-- needed steps have dependents
pub asked_if_needed : (s : Schedule) (i : ℕ) → IsNeeded s i → IsAsked s i
asked_if_needed s i (first k f) = some_in (dependents_of s k) 0 f
asked_if_needed s i (of_needed k j n r) = some_in (dependents_of s k) j r

-- a number that has dependents is that of a step
pub step_if_asked : (s : Schedule) (starts : List Bool) (count : ℕ) → IsKept s starts count → (i : ℕ) → IsAsked s i → IsStep s i
step_if_asked s starts count is i asked = record { some = some (cases_eq i 0); within = within (cases_lt i (length s.dependents)) }
  where
    some : (i ≡ 0) ⊎ (i ≡ 0 → ⊥) → 0 < i
    some (inl zero) = absurd (asked (ap (dependents_of s) zero ∙ is.no_need))
    some (inr more) = omega arith

    within : (i < length s.dependents) ⊎ (length s.dependents ≤ i) → i < length s.states
    within (inl w) = omega (arith, is.dependents_size)
    within (inr past) = absurd (asked (get_or_past s.dependents i [] past))

-- the next step to be looked at
pub looks_next : (s : Schedule) (starts : List Bool) (count step : ℕ) → IsKept s starts count → IsLeast s.looks step → LooksNext s step
looks_next s starts count step is least = record {
  is_step = step_if_asked s starts count is step (is.looks step least.has).0;
  can = least.has;
  lowest = least.least;
  needed = is.needed step (is.looks step least.has).0;
  unjudged = (is.looks step least.has).1;
}

-- a step was looked at
pub kept_looked : (s : Schedule) (starts : List Bool) (count step : ℕ) → IsKept s starts count → step < length s.looks → IsKept (looked_at s step) starts count
kept_looked s starts count step is w = record {
  dependents_size = is.dependents_size;
  lacking_size = is.lacking_size;
  looks_size = length-set s.looks step false ∙ is.looks_size;
  starts_size = is.starts_size;
  some = is.some;
  few = is.few;
  request = is.request;
  no_need = is.no_need;
  within = is.within;
  known = is.known;
  needed = is.needed;
  idle = λ i step_i. is.idle i (record { some = step_i.some; within = step_i.within });
  looks = λ i h. is.looks i (had_other s.looks step i w h).0;
  starts_are = is.starts_are;
  count_is = is.count_is;
}

-- a step lacks a source
pub kept_lack : (s : Schedule) (starts : List Bool) (count step : ℕ) → IsKept s starts count → IsKept (with_lack s step) starts count
kept_lack s starts count step is = record {
  dependents_size = is.dependents_size;
  lacking_size = length-set s.lacking step true ∙ is.lacking_size;
  looks_size = is.looks_size;
  starts_size = is.starts_size;
  some = is.some;
  few = is.few;
  request = is.request;
  no_need = is.no_need;
  within = is.within;
  known = is.known;
  needed = is.needed;
  idle = λ i step_i. is.idle i (record { some = step_i.some; within = step_i.within });
  looks = is.looks;
  starts_are = is.starts_are;
  count_is = is.count_is;
}

-- the state of another step stays
pub state_stays : (s t : Schedule) (step i : ℕ) (v : State) → t.states ≡ set s.states step v → (i ≡ step → ⊥) → state_of t i ≡ state_of s i
state_stays s t step i v e ne = ap (λ xs. get_or xs i Settled) e ∙ get_or-set_other s.states step i v Settled ne

pub state_changed : (s t : Schedule) (step : ℕ) (v : State) → t.states ≡ set s.states step v → step < length s.states → state_of t step ≡ v
state_changed s t step v e w = ap (λ xs. get_or xs step Settled) e ∙ get_or-set_same s.states step v Settled w

-- what changes as the state of a needed step changes
pub record IsChange (s : Schedule) (step : ℕ) (v : State) (t : Schedule) : Type 0 where
  pub is_step : IsStep s step
  pub asked : IsAsked s step
  pub judged : v ≡ Unjudged → ⊥
  pub states : t.states ≡ set s.states step v
  pub dependents : t.dependents ≡ s.dependents
  pub lacking : t.lacking ≡ s.lacking
  pub size : length t.looks ≡ length s.looks
  pub looks : (i : ℕ) → CanLook t i → IsUnjudged t i × (CanLook s i ⊎ Needs s i step)

-- the state of a needed step changes
pub kept_change : (s t : Schedule) (starts after : List Bool) (count now step : ℕ) (v : State) → IsKept s starts count → IsChange s step v t
    → length after ≡ length starts → ((i : ℕ) → Has after i → IsStale t i) → ((i : ℕ) → IsStale t i → Has after i) → now ≡ running t → IsKept t after now
kept_change s t starts after count now step v is change size there back counted =
    let same : length t.states ≡ length s.states = ap length change.states ∙ length-set s.states step v in
    record {
      dependents_size = ap length change.dependents ∙ is.dependents_size ∙ sym same;
      lacking_size = ap length change.lacking ∙ is.lacking_size ∙ sym same;
      looks_size = change.size ∙ is.looks_size ∙ sym same;
      starts_size = size ∙ is.starts_size ∙ sym same;
      some = omega (arith, is.some);
      few = omega (arith, is.few);
      request = state_stays s t step 0 v change.states (λ e. other e) ∙ is.request;
      no_need = dependents_same 0 ∙ is.no_need;
      within = λ i k n. subst (λ (m : ℕ). i < m) (sym same) (is.within i k (needs_same i k n));
      known = λ i k n. elim (is.known i k (needs_same i k n)) [ inl z ↦ inl z | inr a ↦ inr (asked_same i a) ];
      needed = λ k a. needed_more (IsFirst s) (IsFirst t) (Needs s) (Needs t) (λ i f. needs_back 0 i f) needs_back k (is.needed k (λ e. a (dependents_same k ∙ e)));
      idle = λ i step_i e. idle i step_i e (cases_eq i step);
      looks = λ i h. (asked_same i (looks_asked i h (change.looks i h)), (change.looks i h).0);
      starts_are = λ i. (there i, back i);
      count_is = counted;
    }
  where
    other : 0 ≡ step → ⊥
    other e = let some : 0 < step = change.is_step.some in omega arith

    dependents_same : (k : ℕ) → dependents_of t k ≡ dependents_of s k
    dependents_same k = ap (λ xs. get_or xs k []) change.dependents

    needs_same : (i k : ℕ) → Needs t i k → Needs s i k
    needs_same i k n = subst (λ (xs : List ℕ). Contains xs i) (dependents_same k) n

    needs_back : (i k : ℕ) → Needs s i k → Needs t i k
    needs_back i k n = subst (λ (xs : List ℕ). Contains xs i) (sym (dependents_same k)) n

    asked_same : (i : ℕ) → IsAsked s i → IsAsked t i
    asked_same i a e = a (sym (dependents_same i) ∙ e)

    idle : (i : ℕ) → IsStep t i → dependents_of t i ≡ [] → (i ≡ step) ⊎ (i ≡ step → ⊥) → IsUnjudged t i
    idle i step_i e (inl same) = absurd (change.asked (ap (dependents_of s) (sym same) ∙ sym (dependents_same i) ∙ e))
    idle i step_i e (inr ne) = state_stays s t step i v change.states ne ∙ is.idle i (record { some = step_i.some; within = subst (λ (m : ℕ). i < m) (ap length change.states ∙ length-set s.states step v) step_i.within }) (sym (dependents_same i) ∙ e)

    not_both : (x : State) → x ≡ Unjudged → x ≡ Settled → ⊥
    not_both x e f = cc

    looks_asked : (i : ℕ) → CanLook t i → IsUnjudged t i × (CanLook s i ⊎ Needs s i step) → IsAsked s i
    looks_asked i h (u, inl can) = (is.looks i can).0
    looks_asked i h (u, inr need) = elim (is.known i step need) [
      | inl zero ↦ absurd (not_both (state_of t i) u (ap (state_of t) zero ∙ state_stays s t step 0 v change.states (λ e. other e) ∙ is.request))
      | inr a ↦ a
    ]

-- how many run, as a state changes
pub running_change : (s t : Schedule) (step : ℕ) (v : State) → step < length s.states → t.states ≡ set s.states step v
    → running t + cond (is_running (state_of s step)) 1 0 ≡ running s + cond (is_running v) 1 0
running_change s t step v w e = ap (λ xs. count_by is_running xs + cond (is_running (state_of s step)) 1 0) e ∙ sum_by-set (λ x. cond (is_running x) 1 0) s.states step v Settled w

-- two states at once
pub not_two : (x u v : State) → x ≡ u → x ≡ v → (u ≡ v → ⊥) → ⊥
not_two x u v e f ne = ne (sym e ∙ f)

pub empty_or_not : (xs : List ℕ) → (xs ≡ []) ⊎ (xs ≡ [] → ⊥)
empty_or_not [] = inl refl
empty_or_not (x ∷ xs) = inr (λ e. cc)

-- a step that was judged is needed
pub asked_if_judged : (s : Schedule) (starts : List Bool) (count step : ℕ) → IsKept s starts count → IsStep s step → (IsUnjudged s step → ⊥) → IsAsked s step
asked_if_judged s starts count step is step_is judged = go (empty_or_not (dependents_of s step))
  where
    go : (dependents_of s step ≡ []) ⊎ (dependents_of s step ≡ [] → ⊥) → IsAsked s step
    go (inl none) = absurd (judged (is.idle step step_is none))
    go (inr some) = some

-- a number that is neither settled nor out of range is that of a step
pub step_if_not_settled : (s : Schedule) (starts : List Bool) (count step : ℕ) → IsKept s starts count → (IsSettled s step → ⊥) → IsStep s step
step_if_not_settled s starts count step is open_step = record { some = some (cases_eq step 0); within = within (cases_lt step (length s.states)) }
  where
    some : (step ≡ 0) ⊎ (step ≡ 0 → ⊥) → 0 < step
    some (inl zero) = absurd (open_step (ap (state_of s) zero ∙ is.request))
    some (inr more) = omega arith

    within : (step < length s.states) ⊎ (length s.states ≤ step) → step < length s.states
    within (inl w) = w
    within (inr past) = absurd (open_step (get_or_past s.states step Settled past))

-- a step was judged stale
pub kept_stale : (s : Schedule) (starts : List Bool) (count step : ℕ) → IsKept s starts count → IsStep s step → IsAsked s step → IsUnjudged s step → IsKept (with_stale s step) (set starts step true) count
kept_stale s starts count step is step_is asked unjudged =
    kept_change s (with_stale s step) starts (set starts step true) count count step Stale is
    (record {
      is_step = step_is;
      asked = asked;
      judged = λ e. cc;
      states = refl;
      dependents = refl;
      lacking = refl;
      size = length-set s.looks step false;
      looks = λ i h. looks i (had_other s.looks step i within h);
    })
    (length-set starts step true) (λ i h. there i (had_or_is starts step i h)) (λ i h. back i h (cases_eq i step)) (is.count_is ∙ counted)
  where
    t : Schedule
    t = with_stale s step

    within : step < length s.looks
    within = omega (arith, is.looks_size, step_is.within)

    inside : step < length starts
    inside = omega (arith, is.starts_size, step_is.within)

    looks : (i : ℕ) → Has s.looks i × (i ≡ step → ⊥) → IsUnjudged t i × (CanLook s i ⊎ Needs s i step)
    looks i (h, ne) = (state_stays s t step i Stale refl ne ∙ (is.looks i h).1, inl h)

    there : (i : ℕ) → (i ≡ step) ⊎ Has starts i → IsStale t i
    there i (inl same) = subst (λ (k : ℕ). state_of t k ≡ Stale) (sym same) (state_changed s t step Stale refl step_is.within)
    there i (inr h) = state_stays s t step i Stale refl (λ e. not_two (state_of s i) Stale Unjudged ((is.starts_are i).0 h) (ap (state_of s) e ∙ unjudged) (λ f. cc)) ∙ (is.starts_are i).0 h

    back : (i : ℕ) → IsStale t i → (i ≡ step) ⊎ (i ≡ step → ⊥) → Has (set starts step true) i
    back i h (inl same) = subst (Has (set starts step true)) (sym same) (has_set starts step inside)
    back i h (inr ne) = has_still starts step i inside ((is.starts_are i).1 (sym (state_stays s t step i Stale refl ne) ∙ h))

    counted : running s ≡ running t
    counted = let e = running_change s t step Stale step_is.within refl in
        let none : cond {A = ℕ} (is_running (state_of s step)) 1 0 ≡ 0 = ap (λ x. cond {A = ℕ} (is_running x) 1 0) unjudged in omega arith

-- a step was started
pub kept_start : (s : Schedule) (starts : List Bool) (count step : ℕ) → IsKept s starts count → IsStale s step → IsKept (with_start s step) (set starts step false) (count + 1)
kept_start s starts count step is stale =
    kept_change s t starts (set starts step false) count (count + 1) step Running is
    (record {
      is_step = step_is;
      asked = asked_if_judged s starts count step is step_is (λ e. not_two (state_of s step) Stale Unjudged stale e (λ f. cc));
      judged = λ e. cc;
      states = refl;
      dependents = refl;
      lacking = refl;
      size = refl;
      looks = λ i h. (state_stays s t step i Running refl (λ e. not_two (state_of s i) Unjudged Stale (is.looks i h).1 (ap (state_of s) e ∙ stale) (λ f. cc)) ∙ (is.looks i h).1, inl h);
    })
    (length-set starts step false) (λ i h. there i (had_other starts step i inside h)) (λ i h. back i h (cases_eq i step)) counted
  where
    t : Schedule
    t = with_start s step

    step_is : IsStep s step
    step_is = step_if_not_settled s starts count step is (λ e. not_two (state_of s step) Stale Settled stale e (λ f. cc))

    inside : step < length starts
    inside = omega (arith, is.starts_size, step_is.within)

    there : (i : ℕ) → Has starts i × (i ≡ step → ⊥) → IsStale t i
    there i (h, ne) = state_stays s t step i Running refl ne ∙ (is.starts_are i).0 h

    back : (i : ℕ) → IsStale t i → (i ≡ step) ⊎ (i ≡ step → ⊥) → Has (set starts step false) i
    back i h (inl same) = absurd (not_two (state_of t step) Stale Running (ap (state_of t) (sym same) ∙ h) (state_changed s t step Running refl step_is.within) (λ f. cc))
    back i h (inr ne) = has_other starts step i ne ((is.starts_are i).1 (sym (state_stays s t step i Running refl ne) ∙ h))

    counted : count + 1 ≡ running t
    counted = let e = running_change s t step Running step_is.within refl in
        let none : cond {A = ℕ} (is_running (state_of s step)) 1 0 ≡ 0 = ap (λ x. cond {A = ℕ} (is_running x) 1 0) stale in omega (arith, is.count_is)

-- the steps that are to be started stay where a step's state, which was not stale, does not become so
pub starts_stay : (s t : Schedule) (starts : List Bool) (count step : ℕ) (v : State) → IsKept s starts count → step < length s.states → t.states ≡ set s.states step v → (IsStale s step → ⊥) → (v ≡ Stale → ⊥)
    → (i : ℕ) → (Has starts i → IsStale t i) × (IsStale t i → Has starts i)
starts_stay s t starts count step v is within e old new i = go (cases_eq i step)
  where
    go : (i ≡ step) ⊎ (i ≡ step → ⊥) → (Has starts i → IsStale t i) × (IsStale t i → Has starts i)
    go (inl same) = ((λ h. absurd (old (ap (state_of s) (sym same) ∙ (is.starts_are i).0 h))), (λ h. absurd (new (sym (state_changed s t step v e within) ∙ ap (state_of t) (sym same) ∙ h))))
    go (inr ne) = ((λ h. state_stays s t step i v e ne ∙ (is.starts_are i).0 h), (λ h. (is.starts_are i).1 (sym (state_stays s t step i v e ne) ∙ h)))

-- a step failed
pub kept_failure : (s : Schedule) (starts : List Bool) (count now step : ℕ) → IsKept s starts count → IsRunning s step → now + 1 ≡ count → IsKept (with_failure s step) starts now
kept_failure s starts count now step is runs fewer =
    kept_change s t starts starts count now step Failed is
    (record {
      is_step = step_is;
      asked = asked_if_judged s starts count step is step_is (λ e. not_two (state_of s step) Running Unjudged runs e (λ f. cc));
      judged = λ e. cc;
      states = refl;
      dependents = refl;
      lacking = refl;
      size = refl;
      looks = λ i h. (state_stays s t step i Failed refl (λ e. not_two (state_of s i) Unjudged Running (is.looks i h).1 (ap (state_of s) e ∙ runs) (λ f. cc)) ∙ (is.looks i h).1, inl h);
    })
    refl (λ i. (stay i).0) (λ i. (stay i).1) counted
  where
    t : Schedule
    t = with_failure s step

    step_is : IsStep s step
    step_is = step_if_not_settled s starts count step is (λ e. not_two (state_of s step) Running Settled runs e (λ f. cc))

    stay : (i : ℕ) → (Has starts i → IsStale t i) × (IsStale t i → Has starts i)
    stay = starts_stay s t starts count step Failed is step_is.within refl (λ e. not_two (state_of s step) Running Stale runs e (λ f. cc)) (λ e. cc)

    counted : now ≡ running t
    counted = let e = running_change s t step Failed step_is.within refl in
        let one : cond {A = ℕ} (is_running (state_of s step)) 1 0 ≡ 1 = ap (λ x. cond {A = ℕ} (is_running x) 1 0) runs in omega (arith, is.count_is)

-- a step settled
pub kept_settled : (s t : Schedule) (starts : List Bool) (count now step : ℕ) → IsKept s starts count → IsStep s step → IsAsked s step → (IsStale s step → ⊥) → Settles s step t
    → now + cond (is_running (state_of s step)) 1 0 ≡ count → IsKept t starts now
kept_settled s t starts count now step is step_is asked not_stale settles fewer =
    kept_change s t starts starts count now step Settled is
    (record {
      is_step = step_is;
      asked = asked;
      judged = λ e. cc;
      states = settles.states;
      dependents = settles.dependents;
      lacking = settles.lacking;
      size = settles.size;
      looks = λ i h. (settles.looks i).0 h;
    })
    refl (λ i. (stay i).0) (λ i. (stay i).1) counted
  where
    stay : (i : ℕ) → (Has starts i → IsStale t i) × (IsStale t i → Has starts i)
    stay = starts_stay s t starts count step Settled is step_is.within settles.states not_stale (λ e. cc)

    counted : now ≡ running t
    counted = let e = running_change s t step Settled step_is.within settles.states in omega (arith, is.count_is, fewer)

-- what is in a list with one more at its end
pub in_pushed : (xs : List ℕ) (y i : ℕ) → Contains (xs ++ y ∷ []) i → Contains xs i ⊎ (i ≡ y)
in_pushed xs y i c = elim (Contains-append_cases xs (y ∷ []) i c) [ inl h ↦ inl h | inr h ↦ inr (only_one y i h) ]

pub pushed_has : (xs : List ℕ) (y : ℕ) → Contains (xs ++ y ∷ []) y
pushed_has xs y = Contains-append_right xs (y ∷ []) y (one_has y)

-- the dependents of each step, as a need is added
pub dependents_there : (s : Schedule) (step on : ℕ) → on < length s.dependents → dependents_of (with_need s step on) on ≡ dependents_of s on ++ step ∷ []
dependents_there s step on w = get_or-set_same s.dependents on (dependents_of s on ++ step ∷ []) [] w

pub dependents_other : (s : Schedule) (step on k : ℕ) → (k ≡ on → ⊥) → dependents_of (with_need s step on) k ≡ dependents_of s k
dependents_other s step on k ne = get_or-set_other s.dependents on k (dependents_of s on ++ step ∷ []) [] ne

-- the needs, as one is added
pub needs_were : (s : Schedule) (step on i k : ℕ) → on < length s.dependents → Needs (with_need s step on) i k → Needs s i k ⊎ ((i ≡ step) × (k ≡ on))
needs_were s step on i k w n = go (cases_eq k on)
  where
    go : (k ≡ on) ⊎ (k ≡ on → ⊥) → Needs s i k ⊎ ((i ≡ step) × (k ≡ on))
    go (inl same) = elim (in_pushed (dependents_of s on) step i (subst (λ (xs : List ℕ). Contains xs i) (ap (dependents_of (with_need s step on)) same ∙ dependents_there s step on w) n))
        [ inl h ↦ inl (subst (λ (j : ℕ). Needs s i j) (sym same) h) | inr e ↦ inr (e, same) ]
    go (inr ne) = inl (subst (λ (xs : List ℕ). Contains xs i) (dependents_other s step on k ne) n)

pub needs_stay : (s : Schedule) (step on i k : ℕ) → on < length s.dependents → Needs s i k → Needs (with_need s step on) i k
needs_stay s step on i k w n = go (cases_eq k on)
  where
    go : (k ≡ on) ⊎ (k ≡ on → ⊥) → Needs (with_need s step on) i k
    go (inl same) = subst (λ (xs : List ℕ). Contains xs i) (sym (ap (dependents_of (with_need s step on)) same ∙ dependents_there s step on w))
        (Contains-append_left (dependents_of s on) (step ∷ []) i (subst (λ (j : ℕ). Needs s i j) same n))
    go (inr ne) = subst (λ (xs : List ℕ). Contains xs i) (sym (dependents_other s step on k ne)) n

pub needs_added : (s : Schedule) (step on : ℕ) → on < length s.dependents → Needs (with_need s step on) step on
needs_added s step on w = subst (λ (xs : List ℕ). Contains xs step) (sym (dependents_there s step on w)) (pushed_has (dependents_of s on) step)

-- what needs a step has asked for it
pub asked_if_needs : (s : Schedule) (i k : ℕ) → Needs s i k → IsAsked s k
asked_if_needs s i k n = some_in (dependents_of s k) i n

pub needs_of_asked : (s : Schedule) (k : ℕ) → IsAsked s k → (i : ℕ) × Needs s i k
needs_of_asked s k asked = go (dependents_of s k) asked
  where
    go : (xs : List ℕ) → xs ≢ [] → (i : ℕ) × Contains xs i
    go [] ne = absurd (ne refl)
    go (x ∷ xs) some = (x, (0, omega arith, refl))

-- what is asked for stays so
pub asked_stays : (s : Schedule) (step on k : ℕ) → on < length s.dependents → IsAsked s k → IsAsked (with_need s step on) k
asked_stays s step on k w asked = let by = needs_of_asked s k asked in asked_if_needs (with_need s step on) by.0 k (needs_stay s step on by.0 k w by.1)

-- a need was added
pub kept_need : (s : Schedule) (starts : List Bool) (count step on : ℕ) → IsKept s starts count → IsNeeded s step → IsStep s on → (IsSettled s on → ⊥) → IsKept (with_need s step on) starts count
kept_need s starts count step on is step_needed on_is not_settled = record {
  dependents_size = length-set s.dependents on (dependents_of s on ++ step ∷ []) ∙ is.dependents_size;
  lacking_size = is.lacking_size;
  looks_size = looks_size (is_empty (dependents_of s on)) ∙ is.looks_size;
  starts_size = is.starts_size;
  some = is.some;
  few = is.few;
  request = is.request;
  no_need = dependents_other s step on 0 (λ e. zero_not e) ∙ is.no_need;
  within = λ i k n. elim (needs_were s step on i k inside n) [ inl h ↦ is.within i k h | inr same ↦ subst (λ (m : ℕ). m < length s.states) (sym same.0) step_is.within ];
  known = λ i k n. elim (needs_were s step on i k inside n) [ inl h ↦ known i (is.known i k h) | inr same ↦ inr (asked_stays s step on i inside (subst (IsAsked s) (sym same.0) asked)) ];
  needed = λ k a. needed k (needs_of_asked t k a);
  idle = λ i i_is none. is.idle i (record { some = i_is.some; within = i_is.within }) (idle i none (empty_or_not (dependents_of s i)));
  looks = λ i h. looks i h (empty_or_not (dependents_of s on));
  starts_are = is.starts_are;
  count_is = is.count_is;
}
  where
    t : Schedule
    t = with_need s step on

    inside : on < length s.dependents
    inside = omega (arith, is.dependents_size, on_is.within)

    seen : on < length s.looks
    seen = omega (arith, is.looks_size, on_is.within)

    asked : IsAsked s step
    asked = asked_if_needed s step step_needed

    step_is : IsStep s step
    step_is = step_if_asked s starts count is step asked

    zero_not : 0 ≡ on → ⊥
    zero_not e = let some : 0 < on = on_is.some in omega arith

    looks_size : (b : Bool) → length (cond b (set s.looks on true) s.looks) ≡ length s.looks
    looks_size true = length-set s.looks on true
    looks_size false = refl

    known : (i : ℕ) → (i ≡ 0) ⊎ IsAsked s i → (i ≡ 0) ⊎ IsAsked t i
    known i (inl zero) = inl zero
    known i (inr a) = inr (asked_stays s step on i inside a)

    more : (i : ℕ) → IsNeeded s i → IsNeeded t i
    more = needed_more (IsFirst s) (IsFirst t) (Needs s) (Needs t) (λ i f. needs_stay s step on 0 i inside f) (λ i k n. needs_stay s step on i k inside n)

    needed : (k : ℕ) → (i : ℕ) × Needs t i k → IsNeeded t k
    needed k (i, n) = elim (needs_were s step on i k inside n) [
      | inl h ↦ more k (is.needed k (asked_if_needs s i k h))
      | inr same ↦ of_needed k step (more step step_needed) (subst (λ (j : ℕ). Needs t step j) (sym same.1) (needs_added s step on inside))
    ]

    idle : (i : ℕ) → dependents_of t i ≡ [] → (dependents_of s i ≡ []) ⊎ (dependents_of s i ≡ [] → ⊥) → dependents_of s i ≡ []
    idle i none (inl e) = e
    idle i none (inr a) = absurd (asked_stays s step on i inside a none)

    looks : (i : ℕ) → CanLook t i → (dependents_of s on ≡ []) ⊎ (dependents_of s on ≡ [] → ⊥) → IsAsked t i × IsUnjudged t i
    looks i h (inl none) = elim (had_or_is s.looks on i (subst (λ (xs : List ℕ). Has (cond (is_empty xs) (set s.looks on true) s.looks) i) none h)) [
      | inl same ↦ (subst (IsAsked t) (sym same) (asked_if_needs t step on (needs_added s step on inside)), ap (state_of s) same ∙ is.idle on on_is none)
      | inr can ↦ (asked_stays s step on i inside (is.looks i can).0, (is.looks i can).1)
    ]
    looks i h (inr some) =
        let can : CanLook s i = subst (λ (b : Bool). Has (cond b (set s.looks on true) s.looks) i) (not_empty (dependents_of s on) some) h in
        (asked_stays s step on i inside (is.looks i can).0, (is.looks i can).1)
      where
        not_empty : (xs : List ℕ) → (xs ≡ [] → ⊥) → is_empty xs ≡ false
        not_empty [] ne = absurd (ne refl)
        not_empty (x ∷ xs) ne = refl
