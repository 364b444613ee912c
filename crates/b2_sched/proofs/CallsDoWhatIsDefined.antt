-- What the code of each call reads and writes is the change that is defined, and a new scheduler is one that is kept.
use Rattle.std.proofs.Common.{◌≡◌, ◌⊎◌, inl, inr, ℕ, ◌+◌, ◌<◌, ◌≤◌, Bool, true, false, cond, List, [], ◌∷◌, ◌++◌, length, get_or, set, replicate, nat_eq, refl, sym, ◌∙◌, ap, subst, arith}
use Rattle.std.specs.List.{Contains, count_by}
use Rattle.std.proofs.Math.ListN.{length-set, length-replicate}
use Rattle.std.proofs.lemmas.Bool.{cases_eq, cases_lt, false_from_ne_true, eqb-true}
use Rattle.std.proofs.lemmas.List.{get_or-set_same, get_or-set_other, get_or_default, get_or-replicate, get_or_past, set-get_or}
use Rattle.std.proofs.lemmas.List.Folds.{sum_by-replicate}
use Rattle.std.proofs.lemmas.List.Sums.{sum_by-set, get_or-le-sum_by}
use Rattle.b2_plan.specs.declared.step.Step.{Step}
use Rattle.b2_runs.specs.Numbers.{NeededOf.first}
use Rattle.b2_sched.specs.declared.state.State.{State}
use Rattle.b2_sched.specs.declared.state.State.TheVariants.{Unjudged, Stale, Running, Settled}
use Rattle.b2_sched.specs.NumberSets.{Has, HasNone, IsLeast}
use Rattle.b2_sched.specs.Schedules.{Schedule, shown, state_of, IsUnjudged, IsStale, IsRunning, IsStep, Needs, CanLook, dependents_of, is_running, running}
use Rattle.b2_sched.specs.SchedulerCalls.{with_need, Settles, is_empty, MakesOneOf, IsNew, StartsNext, StartsNone}
use Rattle.b2_sched.specs.Keeping.{IsKept, IsWoken, AreWanted}
use Rattle.b2_sched.proofs.IndexFindsTheLowest.{had_other, has_other, none_has}
use Rattle.b2_sched.proofs.ChangesKeepTheInvariant.{not_two, some_in, needs_of_asked}
use Rattle.b2_sched.proofs.WantedFilesAddTheirMakers.{maker_within}

-- a list in which an element was replaced by itself
pub set_same : {X : Type 0} (xs : List X) (i : ℕ) (y : X) → y ≡ get_or xs i y → set xs i y ≡ xs
set_same xs i y e = ap (set xs i) e ∙ set-get_or xs i y

-- a need was added
pub need_made : (s : Schedule) (step on : ℕ) (list : List ℕ) (looks : List Bool) → list ≡ dependents_of s on ++ step ∷ [] → looks ≡ cond (is_empty (dependents_of s on)) (set s.looks on true) s.looks
    → shown s.jobs s.states (set s.dependents on list) s.lacking looks ≡ with_need s step on
need_made s step on list looks e f =
    ap (λ l. shown s.jobs s.states (set s.dependents on l) s.lacking looks) e
    ∙ ap (λ k. shown s.jobs s.states (set s.dependents on (dependents_of s on ++ step ∷ [])) s.lacking k) f

-- whether a list is empty, by its length
empty_is : (xs : List ℕ) → nat_eq (length xs) 0 ≡ is_empty xs
empty_is [] = refl
empty_is (x ∷ xs) = false_from_ne_true (nat_eq (length (x ∷ xs)) 0) (λ e. not_zero (eqb-true (length (x ∷ xs)) 0 e))
  where
    not_zero : length (x ∷ xs) ≡ 0 → ⊥
    not_zero f = omega arith

-- a need was added, as the code reads and writes the list of dependents
pub need_written : (s : Schedule) (step on : ℕ) (slot seen list : List ℕ) (empty : Bool) (looks : List Bool) → on < length s.dependents → slot ≡ get_or s.dependents on slot → seen ≡ slot → empty ≡ nat_eq (length seen) 0
    → list ≡ slot ++ step ∷ [] → looks ≡ cond empty (set s.looks on true) s.looks → shown s.jobs s.states (set s.dependents on list) s.lacking looks ≡ with_need s step on
need_written s step on slot seen list empty looks w slot_is seen_is empty_told list_is looks_are =
    let read : slot ≡ dependents_of s on = slot_is ∙ get_or_default s.dependents on slot [] w in
    need_made s step on list looks (list_is ∙ ap (λ l. l ++ step ∷ []) read)
    (looks_are ∙ ap (λ b. cond b (set s.looks on true) s.looks) (empty_told ∙ empty_is seen ∙ ap is_empty (seen_is ∙ read)))

-- dependents that were woken, as the code reads them
pub woken_read : (s : Schedule) (step : ℕ) (states : List State) (slot seen : List ℕ) (looks woken : List Bool) → step < length s.dependents → states ≡ set s.states step Settled → seen ≡ slot → slot ≡ get_or s.dependents step slot
    → IsWoken states seen looks woken → IsWoken (set s.states step Settled) (dependents_of s step) looks woken
woken_read s step states slot seen looks woken w states_are seen_is slot_is woke =
    subst (λ (xs : List State). IsWoken xs (dependents_of s step) looks woken) states_are
    (subst (λ (ds : List ℕ). IsWoken states ds looks woken) (seen_is ∙ slot_is ∙ get_or_default s.dependents step slot [] w) woke)

-- these dependents are within
pub read_within : (s : Schedule) (starts : List Bool) (count step : ℕ) (states : List State) (slot seen : List ℕ) → IsKept s starts count → step < length s.dependents → states ≡ set s.states step Settled → seen ≡ slot → slot ≡ get_or s.dependents step slot
    → (i : ℕ) → Contains seen i → i < length states
read_within s starts count step states slot seen is w states_are seen_is slot_is i c =
    let below = is.within i step (subst (λ (ds : List ℕ). Contains ds i) (seen_is ∙ slot_is ∙ get_or_default s.dependents step slot [] w) c) in
    subst (λ (n : ℕ). i < n) (sym (ap length states_are ∙ length-set s.states step Settled)) below

-- a step settled, where those that could be looked at can yet, but for the step itself
pub settles_by : (s : Schedule) (step : ℕ) (looks woken : List Bool) → IsWoken (set s.states step Settled) (dependents_of s step) looks woken → length looks ≡ length s.looks
    → ((i : ℕ) → Has looks i → CanLook s i × (get_or (set s.states step Settled) i Settled ≡ Unjudged)) → ((i : ℕ) → CanLook s i → get_or (set s.states step Settled) i Settled ≡ Unjudged → Has looks i)
    → Settles s step (shown s.jobs (set s.states step Settled) s.dependents s.lacking woken)
settles_by s step looks woken is size could can = record {
  jobs = refl;
  states = refl;
  dependents = refl;
  lacking = refl;
  size = is.size ∙ size;
  looks = λ i. ((λ h. there i ((is.looks_are i).0 h)), (λ h. (is.looks_are i).1 (back i h.0 h.1)));
}
  where
    there : (i : ℕ) → Has looks i ⊎ ((get_or (set s.states step Settled) i Settled ≡ Unjudged) × Needs s i step) → (get_or (set s.states step Settled) i Settled ≡ Unjudged) × (CanLook s i ⊎ Needs s i step)
    there i (inl h) = ((could i h).1, inl (could i h).0)
    there i (inr h) = (h.0, inr h.1)

    back : (i : ℕ) → get_or (set s.states step Settled) i Settled ≡ Unjudged → CanLook s i ⊎ Needs s i step → Has looks i ⊎ ((get_or (set s.states step Settled) i Settled ≡ Unjudged) × Needs s i step)
    back i u (inl h) = inl (can i h u)
    back i u (inr n) = inr (u, n)

-- a step was judged fresh
pub settles_judged : (s : Schedule) (starts : List Bool) (count step : ℕ) (looks woken : List Bool) → IsKept s starts count → IsStep s step → looks ≡ set s.looks step false
    → IsWoken (set s.states step Settled) (dependents_of s step) looks woken → Settles s step (shown s.jobs (set s.states step Settled) s.dependents s.lacking woken)
settles_judged s starts count step looks woken is step_is e woke =
    settles_by s step looks woken woke (ap length e ∙ length-set s.looks step false) (λ i h. could i (had_other s.looks step i inside (subst (λ (fs : List Bool). Has fs i) e h)))
    (λ i h u. subst (λ (fs : List Bool). Has fs i) (sym e) (has_other s.looks step i (λ same. not_two (get_or (set s.states step Settled) i Settled) Unjudged Settled u (ap (λ k. get_or (set s.states step Settled) k Settled) same ∙ get_or-set_same s.states step Settled Settled step_is.within) (λ f. cc)) h))
  where
    inside : step < length s.looks
    inside = omega (arith, is.looks_size, step_is.within)

    could : (i : ℕ) → Has s.looks i × (i ≡ step → ⊥) → CanLook s i × (get_or (set s.states step Settled) i Settled ≡ Unjudged)
    could i (h, ne) = (h, get_or-set_other s.states step i Settled Settled ne ∙ (is.looks i h).1)

-- a step ended well
pub settles_ended : (s : Schedule) (starts : List Bool) (count step : ℕ) (woken : List Bool) → IsKept s starts count → IsRunning s step
    → IsWoken (set s.states step Settled) (dependents_of s step) s.looks woken → Settles s step (shown s.jobs (set s.states step Settled) s.dependents s.lacking woken)
settles_ended s starts count step woken is runs woke =
    settles_by s step s.looks woken woke refl
    (λ i h. (h, get_or-set_other s.states step i Settled Settled (λ same. not_two (state_of s i) Unjudged Running (is.looks i h).1 (ap (state_of s) same ∙ runs) (λ f. cc)) ∙ (is.looks i h).1)) (λ i h u. h)

-- something runs where a step does
pub some_runs : (s : Schedule) (step : ℕ) → step < length s.states → IsRunning s step → 1 ≤ running s
some_runs s step w runs =
    let e : running s + cond {A = ℕ} (is_running (state_of s step)) 1 0 ≡ running s + 1 = ap (λ x. running s + cond {A = ℕ} (is_running x) 1 0) runs in
    let least = get_or-le-sum_by (λ x. cond {A = ℕ} (is_running x) 1 0) s.states step Settled w in omega (arith, e, least)

-- the step that starts next
pub starts_next : (s : Schedule) (starts : List Bool) (count step : ℕ) → IsKept s starts count → IsLeast starts step → count < s.jobs → StartsNext s step
starts_next s starts count step is least room = record {
  lowest = record { has = (is.starts_are step).0 least.has; lowest = λ k below stale. least.least k below ((is.starts_are k).1 stale) };
  room = omega (arith, is.count_is);
}

pub starts_none : (s : Schedule) (starts : List Bool) (count : ℕ) → IsKept s starts count → HasNone starts → StartsNone s
starts_none s starts count is none = inl (λ i stale. none i ((is.starts_are i).1 stale))

-- a new scheduler
pub kept_new : (steps : List Step) (wanted : List (List ℕ)) (jobs size : ℕ) (dependents : List (List ℕ)) (lacking looks starts : List Bool) → size ≡ length steps + 1 → size ≤ 65537
    → lacking ≡ replicate size false → length starts ≡ size → HasNone starts → AreWanted steps wanted dependents looks
    → IsKept (shown jobs (set (replicate size Unjudged) 0 Settled) dependents lacking looks) starts 0
kept_new steps wanted jobs size dependents lacking looks starts size_is few lacking_is starts_size none are = record {
  dependents_size = omega (arith, are.dependents_size, states_size);
  lacking_size = ap length lacking_is ∙ length-replicate size false ∙ sym states_size;
  looks_size = omega (arith, are.looks_size, states_size);
  starts_size = starts_size ∙ sym states_size;
  some = omega (arith, states_size);
  few = omega (arith, states_size);
  request = get_or-set_same (replicate size Unjudged) 0 Settled Settled (omega (arith, length-replicate size Unjudged));
  no_need = no_need (get_or dependents 0 []) (λ i c. not_zero ((are.needs i 0).0 c).1);
  within = λ i k n. omega (arith, ((are.needs i k).0 n).0, states_size);
  known = λ i k n. inl ((are.needs i k).0 n).0;
  needed = λ k asked. (let by = needs_of_asked s k asked in first k (subst (λ (i : ℕ). Needs s i k) ((are.needs by.0 k).0 by.1).0 by.1));
  idle = λ i step_is no_one. unjudged i step_is;
  looks = λ i h. (some_in (get_or dependents i []) 0 ((are.needs 0 i).1 (refl, (are.looks_are i).0 h)), unjudged i (step_of i ((are.looks_are i).0 h)));
  starts_are = λ i. ((λ h. absurd (none i h)), (λ stale. absurd (not_stale i stale (cases_eq i 0) (cases_lt i size))));
  count_is = counted;
}
  where
    s : Schedule
    s = shown jobs (set (replicate size Unjudged) 0 Settled) dependents lacking looks

    states_size : length (set (replicate size Unjudged) 0 Settled) ≡ size
    states_size = length-set (replicate size Unjudged) 0 Settled ∙ length-replicate size Unjudged

    not_zero : MakesOneOf steps wanted 0 → ⊥
    not_zero (path, among, makes) = let within = maker_within steps path 0 makes in omega (arith, within.0)

    no_need : (xs : List ℕ) → ((i : ℕ) → Contains xs i → ⊥) → xs ≡ []
    no_need [] nothing = refl
    no_need (x ∷ xs) nothing = absurd (nothing x (0, omega arith, refl))

    unjudged : (i : ℕ) → IsStep s i → IsUnjudged s i
    unjudged i step_is = get_or-set_other (replicate size Unjudged) 0 i Settled Settled (λ e. zero_not step_is.some e) ∙ get_or-replicate size i Unjudged Settled (subst (λ (n : ℕ). i < n) states_size step_is.within)
      where
        zero_not : {j : ℕ} → 0 < j → j ≡ 0 → ⊥
        zero_not below e = omega arith

    step_of : (i : ℕ) → MakesOneOf steps wanted i → IsStep s i
    step_of i (path, among, makes) = let within = maker_within steps path i makes in record { some = within.0; within = omega (arith, within.1, states_size) }

    not_stale : (i : ℕ) → IsStale s i → (i ≡ 0) ⊎ (i ≡ 0 → ⊥) → (i < size) ⊎ (size ≤ i) → ⊥
    not_stale i stale (inl zero) w = not_two (state_of s i) Stale Settled stale (ap (state_of s) zero ∙ get_or-set_same (replicate size Unjudged) 0 Settled Settled (omega (arith, length-replicate size Unjudged))) (λ f. cc)
    not_stale i stale (inr more) (inl w) = not_two (state_of s i) Stale Unjudged stale (unjudged i (record { some = omega arith; within = omega (arith, states_size) })) (λ f. cc)
    not_stale i stale (inr more) (inr past) = not_two (state_of s i) Stale Settled stale (get_or_past (set (replicate size Unjudged) 0 Settled) i Settled (omega (arith, states_size))) (λ f. cc)

    none_runs : (n : ℕ) → count_by is_running (replicate n Unjudged) ≡ 0
    none_runs n = omega (arith, sum_by-replicate (λ x. cond {A = ℕ} (is_running x) 1 0) n Unjudged)

    counted : 0 ≡ running s
    counted = let e = sum_by-set (λ x. cond {A = ℕ} (is_running x) 1 0) (replicate size Unjudged) 0 Settled Settled (omega (arith, length-replicate size Unjudged)) in omega (arith, e, none_runs size)

-- and what is told of it
pub is_new : (steps : List Step) (wanted : List (List ℕ)) (jobs size : ℕ) (dependents : List (List ℕ)) (lacking looks : List Bool) → size ≡ length steps + 1
    → lacking ≡ replicate size false → AreWanted steps wanted dependents looks
    → IsNew steps wanted jobs (shown jobs (set (replicate size Unjudged) 0 Settled) dependents lacking looks)
is_new steps wanted jobs size dependents lacking looks size_is lacking_is are = record {
  jobs_are = refl;
  size = states_size ∙ size_is;
  unjudged = unjudged;
  needs = are.needs;
  looks = are.looks_are;
  lacks = λ i h. none_has size i (subst (λ (fs : List Bool). Has fs i) lacking_is h);
}
  where
    s : Schedule
    s = shown jobs (set (replicate size Unjudged) 0 Settled) dependents lacking looks

    states_size : length (set (replicate size Unjudged) 0 Settled) ≡ size
    states_size = length-set (replicate size Unjudged) 0 Settled ∙ length-replicate size Unjudged

    zero_not : (j : ℕ) → 0 < j → j ≡ 0 → ⊥
    zero_not j below e = omega arith

    unjudged : (i : ℕ) → IsStep s i → IsUnjudged s i
    unjudged i step_is = get_or-set_other (replicate size Unjudged) 0 i Settled Settled (zero_not i step_is.some) ∙ get_or-replicate size i Unjudged Settled (subst (λ (n : ℕ). i < n) states_size step_is.within)
