use Rattle.std.proofs.Common.{◌≡◌, ◌≢◌, ℕ, zero, suc, ◌+◌, ◌*◌, ◌<◌, ◌≤◌, true, List, [], ◌∷◌, ◌++◌, length, inl, inr, refl, sym, subst, arith, filter_map, count_by, append_assoc, append-nil}
use Rattle.std.specs.List.{Contains, AllPairs}
use Rattle.b2_host.specs.declared.children.ChildEvent.{ChildEvent}
use Rattle.b2_host.specs.declared.children.ChildEvent.TheVariants.{Start, Done}
use Rattle.b2_plan.specs.Plans.{Apart}
use Rattle.std.proofs.lemmas.Option.{slice_get_within}
use Rattle.b2_runs.specs.Staleness.{Update}
use Rattle.b2_runs.specs.Events.{is_start, is_done, started, AreOnce}
use Rattle.b2_runs.specs.Runs.{CanStart, MayCome, IsRunSoFar, IsRun}
use Rattle.b2_runs.specs.RunLaws.{RunIsPrefix}
use Rattle.b2_runs.proofs.FirstElementOrLater.{Contains_here, Contains_there, Contains_cases, Contains_nil}
use Rattle.b2_runs.proofs.NumberHasOneStep.{place_of}
use Rattle.b2_runs.proofs.OneEventMore.{count_one, count_first}
use Rattle.b2_runs.proofs.RunIsInOrder.{run_is_in_order}
use Rattle.b2_runs.proofs.RunGoesOn.{run_goes_on, run_start, each_event_once}
use Rattle.b2_runs.proofs.StartsAreDone.{opens_of}
use Rattle.b2_runs.proofs.StepCycleIsThere.{few, lowest_below}
use Rattle.b2_runs.proofs.OthersAreLeft.{pairs_first}

-- the numbers of the steps that were started
abbrev numbers : List ChildEvent → List ℕ
numbers events = filter_map started events

number_in : (events : List ChildEvent) (i : ℕ) → Contains (numbers events) i → Contains events (Start i)
number_in [] i c = absurd (Contains_nil i c)
number_in (Start k ∷ events) i c = elim (Contains_cases k i (numbers events) c) [
  | inl e ↦ subst (λ j. Contains (Start k ∷ events) (Start j)) e (Contains_here (Start k) events)
  | inr d ↦ Contains_there (Start k) (Start i) events (number_in events i d)
]
number_in (Done k well ∷ events) i c = Contains_there (Done k well) (Start i) events (number_in events i c)

numbers_apart : (events : List ChildEvent) → AreOnce events → AllPairs (λ i k. i ≢ k) (numbers events)
numbers_apart [] once = λ i j d lt h. absurd (omega arith)
numbers_apart (Start k ∷ events) (new, once) = pairs_first (λ i j. i ≢ j) k (numbers events) (λ j c e. new (subst (λ z. Contains events (Start z)) (sym e) (number_in events j c))) (numbers_apart events once)
numbers_apart (Done k well ∷ events) (new, once) = numbers_apart events once

numbers_count : (events : List ChildEvent) → length (numbers events) ≡ count_by is_start events
numbers_count [] = refl
numbers_count (Start i ∷ events) = let f = numbers_count events in let g = count_first is_start events (Start i) in omega (arith, f, g)
numbers_count (Done i well ∷ events) = let f = numbers_count events in let g = count_first is_start events (Done i well) in omega (arith, f, g)

-- a run has no more events than twice as many as there are steps, and two
bounded : (u : Update) (events : List ChildEvent) → Apart u.build.steps u.build.roots → IsRunSoFar u events → count_by is_start events + count_by is_done events ≤ 2 * (length u.build.steps + 1)
bounded u events apart run =
    let (opens, o) = opens_of u.build.steps u.jobs events (run_is_in_order u events run) in
    let most : length (numbers events) ≤ length u.build.steps + 1 = few (numbers events) (length u.build.steps + 1) (numbers_apart events (each_event_once u events run)) below in
    let h = numbers_count events in
    let c = o.count in
    omega arith
  where
    below : (i : ℕ) → Contains (numbers events) i → i < length u.build.steps + 1
    below i c =
        let w = run_start u apart [] events i run (number_in events i c) in
        let (place, same, here) = place_of u.build.steps i w.step w.at in
        omega (arith, same, slice_get_within u.build.steps place w.step here)

-- one event more
one_more : (events : List ChildEvent) (event : ChildEvent) → count_by is_start (events ++ event ∷ []) + count_by is_done (events ++ event ∷ []) ≡ count_by is_start events + count_by is_done events + 1
one_more events (Start i) = let f = count_one is_start events (Start i) in let g = count_one is_done events (Start i) in omega arith
one_more events (Done i well) = let f = count_one is_start events (Done i well) in let g = count_one is_done events (Done i well) in omega arith

-- a run so far after which no event may come is whole
whole_run : (u : Update) (events : List ChildEvent) → IsRunSoFar u events → ((event : ChildEvent) → MayCome u events event → ⊥) → IsRun u events
whole_run u events run on = record { each = run; none_open = λ i opened. on (Done i true) (opened, none_left); none_left = none_left }
  where
    none_left : (i : ℕ) → CanStart u events i → ⊥
    none_left i can = lowest_below (CanStart u events) (i + 1) i (omega arith) can (λ k lowest. on (Start k) (lowest.has, lowest.lowest))

-- a run so far goes on until it is whole
goes : (u : Update) → Apart u.build.steps u.build.roots → (fuel : ℕ) (events : List ChildEvent) → IsRunSoFar u events → 2 * (length u.build.steps + 1) < count_by is_start events + count_by is_done events + fuel → ((rest : List ChildEvent) → IsRun u (events ++ rest) → ⊥) → ⊥
goes u apart zero events run long none = omega (arith, long, bounded u events apart run)
goes u apart (suc fuel) events run long none =
    none [] (subst (IsRun u) (sym (append-nil events)) (whole_run u events run (λ event may.
    goes u apart fuel (events ++ event ∷ []) (run_goes_on u events event run may) (omega (arith, long, one_more events event))
    (λ rest whole. none (event ∷ rest) (subst (IsRun u) (append_assoc events (event ∷ []) rest) whole)))))

pub run_is_prefix : RunIsPrefix
run_is_prefix u events apart run none = goes u apart (2 * (length u.build.steps + 1) + 1) events run (omega arith) none
