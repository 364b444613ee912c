-- At rest, settled steps and those that can start are the run's; for four laws.
use Rattle.std.proofs.Common.{◌≡◌, inl, inr, ◌↔◌, ℕ, ◌+◌, ◌≤◌, true, false, List, refl, sym, subst, Some, arith}
use Rattle.std.specs.List.{Contains}
use Rattle.b2_host.specs.declared.children.ChildEvent.{ChildEvent}
use Rattle.b2_host.specs.declared.children.ChildEvent.TheVariants.{Start, Done}
use Rattle.b2_plan.specs.declared.step.Step.{Step}
use Rattle.b2_plan.specs.Plans.{Apart, Makes, step_at}
use Rattle.b2_plan.specs.Closures.{Value, Known, IsClosure}
use Rattle.b2_runs.specs.Staleness.{Update, IsFresh}
use Rattle.b2_runs.specs.Runs.{Settled, Settled.source, Settled.done_well, Settled.fresh, on_settled, CanStart, IsRunSoFar}
use Rattle.b2_runs.specs.Numbers.{NeededOf.of_needed, IsStaleStep}
use Rattle.b2_runs.specs.Numbers as by_number
use Rattle.b2_runs.proofs.FirstElementOrLater.{some_element}
use Rattle.b2_runs.proofs.NumberHasOneStep.{one_step}
use Rattle.b2_runs.proofs.MakerIsOne.{source_not_made}
use Rattle.b2_runs.proofs.RunGoesOn.{done_was_started}
use Rattle.b2_runs.proofs.SettledStays.{same_members, closure_on_settled}
use Rattle.b2_runs.proofs.NeededByNumbers.{closed_by_numbers}
use Rattle.b2_sched.specs.declared.state.State.{State}
use Rattle.b2_sched.specs.declared.state.State.TheVariants as states
use Rattle.b2_sched.specs.Schedules.{Schedule, state_of, IsStale, IsSettled, IsNeeded, Needs, running}
use Rattle.b2_sched.specs.Joins.{IsToldTrue, IsTold, HasSettled, IsToldStarts, IsAtRest, SettledJoins, CanStartJoins, NextJoins, NoneJoins}
use Rattle.b2_sched.proofs.ChangesKeepTheInvariant.{not_two}
use Rattle.b2_sched.proofs.SetsAgreeWithTheRun.{is_step, plan_step, needed_joins}

-- a step that was found stale is not fresh with its closure
stale_not_fresh : (u : Update) (events : List ChildEvent) (i : ℕ) (step : Step) (members : List (List ℕ × Value)) → Apart u.build.steps u.build.roots → step_at u.build.steps i ≡ Some step → IsClosure u.build (on_settled u events) step members
    → IsFresh u events step members → IsStaleStep u events i → ⊥
stale_not_fresh u events i step members apart at closure f stale =
    let same : step ≡ stale.step = one_step u.build.steps i step stale.step at stale.at in
    let one : members ≡ stale.members = same_members u apart i step stale.step at stale.at members stale.members ((closure_on_settled u events step members apart).0 closure).0 ((closure_on_settled u events stale.step stale.members apart).0 stale.closure).0 in
    stale.stale (subst (λ ms. IsFresh u events stale.step ms) one (subst (λ t. IsFresh u events t members) same f))

-- no output is settled of a step that was found stale and not started
stale_not_settled : (u : Update) (events : List ChildEvent) (i : ℕ) (step : Step) (path : List ℕ) → Apart u.build.steps u.build.roots → IsRunSoFar u events → IsStaleStep u events i → (Contains events (Start i) → ⊥) → Makes u.build.steps i step path
    → Settled u events path → ⊥
stale_not_settled u events i step path apart so_far stale not_started makes (source p bytes from) = source_not_made u.build apart p bytes from i step makes
stale_not_settled u events i step path apart so_far stale not_started makes (done_well k t p makes_k done) =
    not_started (subst (λ j. Contains events (Start j)) (apart.one_maker k i t step p makes_k makes) (done_was_started u events k true so_far done))
stale_not_settled u events i step path apart so_far stale not_started makes (fresh k t p members makes_k never closure inside f) =
    stale_not_fresh u events k t members apart makes_k.at ((closure_on_settled u events t members apart).1 closure inside) f (subst (IsStaleStep u events) (apart.one_maker i k step t p makes makes_k) stale)

module _ (u : Update) (events : List ChildEvent) (s : Schedule) (apart : Apart u.build.steps u.build.roots) (so_far : IsRunSoFar u events) (told : IsToldTrue u events s) (starts : IsToldStarts u events s) (rest : IsAtRest s) where
  -- a needed step whose closure is settled, and so each step that it needs, was judged
  was_judged : (i : ℕ) (step : Step) (members : List (List ℕ × Value)) → IsNeeded s i → step_at u.build.steps i ≡ Some step → IsClosure u.build (on_settled u events) step members → ((k : ℕ) → Needs s i k → IsSettled s k)
      → state_of s i ≡ states.Unjudged → ⊥
  was_judged i step members n at closure settled e = rest.judged i n (rest.no_look i) (λ l. (closed_by_numbers u events i step members apart at closure).0 (told.lacks i n l)) settled e

  -- ---- settled

  -- a step that is fresh and was not started was judged fresh
  fresh_is_settled : (i : ℕ) (step : Step) (members : List (List ℕ × Value)) → IsNeeded s i → step_at u.build.steps i ≡ Some step → (Contains events (Start i) → ⊥) → IsClosure u.build (on_settled u events) step members → IsFresh u events step members
      → ((k : ℕ) → Needs s i k → IsSettled s k) → (x : State) → state_of s i ≡ x → IsSettled s i
  fresh_is_settled i step members n at never closure f settled states.Unjudged e = absurd (was_judged i step members n at closure settled e)
  fresh_is_settled i step members n at never closure f settled states.Stale e = absurd (stale_not_fresh u events i step members apart at closure f (starts.stale i e))
  fresh_is_settled i step members n at never closure f settled states.Running e = absurd (never (starts.started i e))
  fresh_is_settled i step members n at never closure f settled states.Settled e = e
  fresh_is_settled i step members n at never closure f settled states.Failed e = absurd (never (done_was_started u events i false so_far ((told.failed i).0 e)))

  module _ (well : (i : ℕ) → Contains events (Done i true) → IsSettled s i) where
    maker_is_settled : (i : ℕ) (step : Step) (path : List ℕ) → Makes u.build.steps i step path → IsNeeded s i → Settled u events path → IsSettled s i
    maker_is_settled i step path makes n (source p bytes from) = absurd (source_not_made u.build apart p bytes from i step makes)
    maker_is_settled i step path makes n (done_well k t p makes_k done) = well i (subst (λ j. Contains events (Done j true)) (apart.one_maker k i t step p makes_k makes) done)
    maker_is_settled i step path makes n (fresh k t p members makes_k never closure inside f) =
        let number : k ≡ i = apart.one_maker k i t step p makes_k makes in
        let at : step_at u.build.steps i ≡ Some t = subst (λ j. step_at u.build.steps j ≡ Some t) number makes_k.at in
        let here : IsClosure u.build (on_settled u events) t members = (closure_on_settled u events t members apart).1 closure inside in
        fresh_is_settled i t members n at (λ c. never (subst (λ j. Contains events (Start j)) (sym number) c)) here f
        (λ j need.
        (let r = told.needs i j n need in
        let same : r.step ≡ t = one_step u.build.steps i r.step t r.at at in
        let (value, among) = here.whole r.path (subst (λ z. Known u.build (on_settled u events) z r.path) same r.known) in
        maker_is_settled j r.other r.path r.makes (of_needed j i n need) (inside r.path value among)))
        (state_of s i) refl

    has_settled : HasSettled u events s
    has_settled i n settled =
        let (step, at) = plan_step u events s told i (told.sound.steps i n) in
        let (path, c) = some_element step.outs (apart.some_out i step at) in
        let makes : Makes u.build.steps i step path = record { at = at; among = c } in
        maker_is_settled i step path makes n (settled step path makes)

  -- ---- what can start

  module _ (t : IsTold u events s) where
    stale_if_can : (i : ℕ) → CanStart u events i → (x : State) → state_of s i ≡ x → IsStale s i
    stale_if_can i can states.Unjudged e =
        let n = (needed_joins u events s t i).1 can.needed in
        absurd (was_judged i can.step can.members n can.at can.closure
        (λ k need. t.settled k (of_needed k i n need) ((closed_by_numbers u events i can.step can.members apart can.at can.closure).1 k (told.needs i k n need))) e)
    stale_if_can i can states.Stale e = e
    stale_if_can i can states.Running e = absurd (can.not_started (starts.started i e))
    stale_if_can i can states.Settled e =
        let n = (needed_joins u events s t i).1 can.needed in
        let found : IsStaleStep u events i = record { step = can.step; at = can.at; members = can.members; closure = can.closure; stale = can.stale } in
        let (path, c) = some_element can.step.outs (apart.some_out i can.step can.at) in
        let makes : Makes u.build.steps i can.step path = record { at = can.at; among = c } in
        absurd (stale_not_settled u events i can.step path apart so_far found can.not_started makes (told.settled i n e can.step path makes))
    stale_if_can i can states.Failed e = absurd (can.not_started (done_was_started u events i false so_far ((told.failed i).0 e)))

    can_if_stale : (i : ℕ) → IsStale s i → running s + 1 ≤ s.jobs → (by_number.QuitsNow u events → ⊥) → CanStart u events i
    can_if_stale i stale room goes_on =
        let found = starts.stale i stale in
        let n : IsNeeded s i = told.sound.judged i (is_step u events s told i found.step found.at) (λ e. not_two (state_of s i) states.Stale states.Unjudged stale e (λ f. cc)) in
        record {
          step = found.step;
          at = found.at;
          needed = (needed_joins u events s t i).0 n;
          not_started = starts.not_started i stale;
          members = found.members;
          closure = found.closure;
          stale = found.stale;
          room = omega (arith, starts.count, starts.jobs, room);
          goes_on = λ quit k bad. goes_on (record { quit = quit; failed = k; bad = bad });
        }

    can_is : (i : ℕ) → CanStart u events i ↔ (IsStale s i × (running s + 1 ≤ s.jobs) × (by_number.QuitsNow u events → ⊥))
    can_is i = (
      λ can. (stale_if_can i can (state_of s i) refl, (let room = can.room in omega (arith, starts.count, starts.jobs, room)), λ q. can.goes_on q.quit q.failed q.bad),
      λ told_it. can_if_stale i told_it.0 told_it.1 told_it.2,
    )

pub settled_joins : SettledJoins
settled_joins u events s apart so_far told starts rest well = has_settled u events s apart so_far told starts rest well

pub can_start_joins : CanStartJoins
can_start_joins u events s apart so_far t starts rest = can_is u events s apart so_far t.so starts rest t

pub next_joins : NextJoins
next_joins u events s apart so_far t starts rest goes_on i next = (
  (can_is u events s apart so_far t.so starts rest t i).1 (next.lowest.has, next.room, goes_on),
  λ k below can. next.lowest.lowest k below ((can_is u events s apart so_far t.so starts rest t k).0 can).0,
)

pub none_joins : NoneJoins
none_joins u events s apart so_far t starts rest none i can =
    let says = (can_is u events s apart so_far t.so starts rest t i).0 can in
    elim none [ inl n ↦ elim n [ inl no_stale ↦ no_stale i says.0 | inr full ↦ (let room = says.1 in omega (arith, room, full)) ] | inr quits ↦ says.2 quits ]
