use Rattle.std.proofs.Common.{◌≡◌, ◌≢◌, ℕ, zero, suc, ◌+◌, ◌<◌, ◌≤◌, ◌⊎◌, List, [], ◌∷◌, ◌++◌, length, inl, inr, refl, subst, arith, Some, length-append}
use Rattle.std.specs.List.{Contains, AllPairs}
use Rattle.std.proofs.lemmas.Bool.Decides.{eqb_tells, Decides-eqb}
use Rattle.std.proofs.lemmas.List.Elements.{Contains-push_cases, Contains-get_or}
use Rattle.std.proofs.lemmas.List.Quantifiers.{all_pairs_push}
use Rattle.std.proofs.lemmas.Option.{slice_get_within}
use Rattle.std.proofs.lemmas.Map.Made.{IsDistinct-from_AllPairs}
use Rattle.std.proofs.lemmas.Map.Steps.{length-le_from_distinct_below}
use Rattle.std.proofs.lemmas.Map.Views.{Contains-from_any}
use Rattle.b2_host.specs.declared.children.ChildEvent.{ChildEvent}
use Rattle.b2_plan.specs.declared.step.Step.{Step}
use Rattle.b2_plan.specs.Plans.{step_at}
use Rattle.b2_runs.specs.Staleness.{Update}
use Rattle.b2_runs.specs.Runs.{Needed, Needed.wanted, Needed.member}
use Rattle.b2_runs.specs.Outcomes.{IsStuck}
use Rattle.b2_runs.specs.Cycles.{IsLowest, NeedsStuck, NextStuck, LeadsOn, IsStepCycle}
use Rattle.b2_runs.specs.StuckLaws.{StepCycleIsThere, StuckIsCycle}
use Rattle.b2_runs.proofs.FirstElementOrLater.{Contains_here, Contains_there, Contains_cases, Contains_nil}
use Rattle.b2_runs.proofs.NumberHasOneStep.{place_of}
use Rattle.b2_runs.proofs.StuckNeedsStuck.{stuck_needs_stuck}

abbrev pub Apart : List ℕ → Type 0
Apart = AllPairs (λ i k. i ≢ k)

-- numbers below a bound, none of them twice, are no more than the bound
pub few : (xs : List ℕ) (n : ℕ) → Apart xs → ((i : ℕ) → Contains xs i → i < n) → length xs ≤ n
few xs n once low = length-le_from_distinct_below xs n (IsDistinct-from_AllPairs Decides-eqb xs once) (λ q e. low q (Contains-from_any (λ x y s. (Decides-eqb x y).0 s) q xs e))

-- a number is among these or is not
is_there : (k : ℕ) (xs : List ℕ) → Contains xs k ⊎ (Contains xs k → ⊥)
is_there k [] = inr (λ c. Contains_nil k c)
is_there k (x ∷ xs) = elim (eqb_tells x k) [
  | inl here ↦ inl (subst (λ z. Contains (x ∷ xs) z) here.1 (Contains_here x xs))
  | inr other ↦ elim (is_there k xs) [
    | inl c ↦ inl (Contains_there x k xs c)
    | inr none ↦ inr (λ c. elim (Contains_cases x k xs c) [ inl e ↦ other.1 e | inr d ↦ none d ])
  ]
]

-- one number more
leads_push : (R : ℕ → ℕ → Type 0) (xs : List ℕ) (k m : ℕ) → LeadsOn R xs k → R k m → LeadsOn R (xs ++ k ∷ []) m
leads_push R [] k m l r = r
leads_push R (x ∷ []) k m l r = (l, r)
leads_push R (x ∷ y ∷ xs) k m l r = (l.0, leads_push R (y ∷ xs) k m l.1 r)

apart_push : (xs : List ℕ) (k : ℕ) → Apart xs → (Contains xs k → ⊥) → Apart (xs ++ k ∷ [])
apart_push xs k once new = all_pairs_push (λ i j. i ≢ j) xs k once (λ i d less e. new (subst (λ z. Contains xs z) e (Contains-get_or xs i d less)))

-- What goes on from each number within a bound comes back to one of its numbers.
module _ (P : ℕ → Type 0) (R : ℕ → ℕ → Type 0) (n : ℕ) (C : Type 0) (below : (i : ℕ) → P i → i < n) (keeps : (i k : ℕ) → R i k → P k) (goes : (i : ℕ) → P i → ((k : ℕ) → R i k → C) → C)
    (first : ℕ) (found : (more : List ℕ) (back : ℕ) → LeadsOn R (first ∷ more) back → Apart (first ∷ more) → Contains (first ∷ more) back → C) where
  walk : (fuel : ℕ) (more : List ℕ) (k : ℕ) → LeadsOn R (first ∷ more) k → P k → Apart (first ∷ more) → ((i : ℕ) → Contains (first ∷ more) i → i < n) → n < length (first ∷ more) + fuel → C
  walk zero more k leads p once low long = absurd (omega (arith, few (first ∷ more) n once low, long))
  walk (suc fuel) more k leads p once low long = elim (is_there k (first ∷ more)) [
    | inl c ↦ found more k leads once c
    | inr new ↦ goes k p (λ m r. walk fuel (more ++ k ∷ []) m (leads_push R (first ∷ more) k m leads r) (keeps k m r) (apart_push (first ∷ more) k once new)
        (λ i c. elim (Contains-push_cases (first ∷ more) k i c) [ inl d ↦ low i d | inr e ↦ subst (λ z. z < n) e (below k p) ])
        (omega (arith, long, length-append (first ∷ more) (k ∷ []))))
  ]

-- where a number stands in a list
record IsSplit (xs : List ℕ) (k : ℕ) : Type 0 where
  front : List ℕ
  rest : List ℕ
  split : xs ≡ front ++ k ∷ rest

split_at : (xs : List ℕ) (k : ℕ) → Contains xs k → IsSplit xs k
split_at [] k c = absurd (Contains_nil k c)
split_at (x ∷ xs) k c = elim (Contains_cases x k xs c) [
  | inl e ↦ record { front = []; rest = xs; split = (λ i. e i ∷ xs) }
  | inr d ↦ (let s = split_at xs k d in record { front = x ∷ s.front; rest = s.rest; split = (λ i. x ∷ s.split i) })
]

-- a stuck step is one of the plan
stuck_step : (u : Update) (events : List ChildEvent) (i : ℕ) → Needed u events i → (step : Step) × (step_at u.build.steps i ≡ Some step)
stuck_step u events i (wanted k step path c makes) = (step, makes.at)
stuck_step u events i (member k step j other path needed at known makes) = (step, makes.at)

stuck_below : (u : Update) (events : List ChildEvent) (i : ℕ) → IsStuck u events i → i < length u.build.steps + 1
stuck_below u events i stuck =
    let (step, at) = stuck_step u events i stuck.left.needed in
    let (place, same, here) = place_of u.build.steps i step at in
    omega (arith, same, slice_get_within u.build.steps place step here)

-- a walk that came back is a step cycle
cycle_from : (u : Update) (events : List ChildEvent) (first : ℕ) → IsLowest (IsStuck u events) first → (more : List ℕ) (back : ℕ) → LeadsOn (NextStuck u events) (first ∷ more) back → Apart (first ∷ more) → Contains (first ∷ more) back → (list : List ℕ) × IsStepCycle u events list
cycle_from u events first starts more back leads once c =
    let s = split_at (first ∷ more) back c in
    (back ∷ s.rest, record { first = first; more = more; starts = starts; back = back; leads = leads; once = once; front = s.front; rest = s.rest; walk = s.split; list_is = refl })

-- from the lowest stuck step the walk comes back
walk_back : (u : Update) (events : List ChildEvent) (first : ℕ) (C : Type 0) → IsLowest (IsStuck u events) first → ((i : ℕ) → IsStuck u events i → ((k : ℕ) → NextStuck u events i k → C) → C) → ((list : List ℕ) → IsStepCycle u events list → C) → C
walk_back u events first C starts goes found =
    let n : ℕ = length u.build.steps + 1 in
    goes first starts.has (λ k r.
    walk (IsStuck u events) (NextStuck u events) n C (stuck_below u events) (λ i m next. next.has.stuck) goes first
    (λ more back leads once c. (let cycle = cycle_from u events first starts more back leads once c in found cycle.0 cycle.1))
    n [] k r r.has.stuck (λ i j d less short. absurd (omega arith)) (λ i c. only i c) (omega arith))
  where
    only : (i : ℕ) → Contains (first ∷ []) i → i < length u.build.steps + 1
    only i c = elim (Contains_cases first i [] c) [ inl e ↦ subst (λ z. z < length u.build.steps + 1) e (stuck_below u events first starts.has) | inr d ↦ absurd (Contains_nil i d) ]

pub step_cycle_is_there : StepCycleIsThere
step_cycle_is_there u events first starts next =
    walk_back u events first ((list : List ℕ) × IsStepCycle u events list) starts (λ i stuck go_on. (let s = next i stuck in go_on s.0 s.1)) (λ list cycle. (list, cycle))

-- where there is a number there cannot but be a lowest one
pub lowest_below : (P : ℕ → Type 0) (n i : ℕ) → i < n → P i → ((k : ℕ) → IsLowest P k → ⊥) → ⊥
lowest_below P zero i less p none = omega arith
lowest_below P (suc n) i less p none = none i (record { has = p; lowest = λ k lower q. lowest_below P n k (omega (arith, less, lower)) q none })

pub stuck_is_cycle : StuckIsCycle
stuck_is_cycle u events i reads apart jobs run stuck whole none =
    lowest_below (IsStuck u events) (i + 1) i (omega arith) stuck (λ first starts.
    walk_back u events first ⊥ starts goes (λ list cycle. none list cycle))
  where
    goes : (k : ℕ) → IsStuck u events k → ((m : ℕ) → NextStuck u events k m → ⊥) → ⊥
    goes k stuck_k go_on =
        let (step, at) = stuck_step u events k stuck_k.left.needed in
        stuck_needs_stuck u events k step (reads k) apart jobs run stuck_k at (λ path known. whole k step path stuck_k at known)
        (λ path m other known makes stuck_m.
        lowest_below (NeedsStuck u events k) (m + 1) m (omega arith) (record { stuck = stuck_m; step = step; at = at; other = other; path = path; makes = makes; known = known }) go_on)
