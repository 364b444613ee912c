-- Where no child is to be waited for, no step runs by the schedule.
use Rattle.std.proofs.Common.{◌≡◌, ◌⊎◌, inl, inr, ℕ, suc, ◌≤◌, Bool, true, false, not, ◌&&◌, List, [], ◌∷◌, cond, count_by, slice_index_or, refl, sym, ap, subst, ◌∙◌, length, arith}
use Rattle.std.specs.List.{Contains}
use Rattle.std.proofs.lemmas.Bool.{true≢false}
use Rattle.std.proofs.lemmas.List.Sums.{sum_by-append}
use Rattle.b2_base.specs.Numbers.{is_among}
use Rattle.b2_host.specs.declared.children.ChildEvent.{ChildEvent}
use Rattle.b2_host.specs.declared.children.ChildEvent.TheVariants.{Start, Done}
use Rattle.b2_host.specs.ChildProcesses.{Child}
use Rattle.b2_plan.specs.declared.plan.Plan.{Plan}
use Rattle.b2_runs.specs.Events.{IsOpen, counted, as_counted}
use Rattle.b2_runs.specs.Moments.{Moment}
use Rattle.b2_runs.proofs.FirstElementOrLater.{Contains_here, Contains_there, Contains_cases, Contains_nil}
use Rattle.b2_sched.specs.declared.state.State.{State}
use Rattle.b2_sched.specs.declared.state.State.TheVariants as states
use Rattle.b2_sched.specs.Schedules.{state_of, is_running, IsRunning, IsStale, QuitsNow}
use Rattle.b2_update.specs.declared.run.Run.{Run}
use Rattle.b2_update.specs.Going.{IsGoing, NoneStarts}

-- ---- events as they count

counted_start : (short : List ℕ) (e : ChildEvent) (i : ℕ) → counted short e ≡ Start i → e ≡ Start i
counted_start short (Start k) i is = is
counted_start short (Done k well) i is = absurd (let f : false ≡ true = ap is_start is in cc)
  where
    is_start : ChildEvent → Bool
    is_start (Start k) = true
    is_start (Done k well) = false

start_was : (short : List ℕ) (events : List ChildEvent) (i : ℕ) → Contains (as_counted short events) (Start i) → Contains events (Start i)
start_was short [] i c = absurd (Contains_nil (Start i) c)
start_was short (e ∷ events) i c = elim (Contains_cases (counted short e) (Start i) (as_counted short events) c) [
  | inl same ↦ subst (λ z. Contains (e ∷ events) z) (counted_start short e i same) (Contains_here e events)
  | inr later ↦ Contains_there e (Start i) events (start_was short events i later)
]

end_counts : (short : List ℕ) (events : List ChildEvent) (i : ℕ) (well : Bool) → Contains events (Done i well) → Contains (as_counted short events) (Done i (well && not (is_among short i)))
end_counts short [] i well c = absurd (Contains_nil (Done i well) c)
end_counts short (e ∷ events) i well c = elim (Contains_cases e (Done i well) events c) [
  | inl same ↦ subst (λ z. Contains (as_counted short (e ∷ events)) (counted short z)) same (Contains_here (counted short e) (as_counted short events))
  | inr later ↦ Contains_there (counted short e) (Done i (well && not (is_among short i))) (as_counted short events) (end_counts short events i well later)
]

-- ---- counts

count_none : (p : State → Bool) (xs : List State) → ((i : ℕ) → p (slice_index_or xs i states.Settled) ≡ true → ⊥) → count_by p xs ≡ 0
count_none p [] none = refl
count_none p (x ∷ xs) none =
    let rest = count_none p xs (λ i. none (suc i)) in
    let first = nothing (p x) (none 0) in
    let both = sum_by-append (λ y. cond (p y) 1 0) (x ∷ []) xs in
    omega (arith, rest, first, both)
  where
    nothing : (b : Bool) → (b ≡ true → ⊥) → ◌≡◌ {A = ℕ} (cond b 1 0) 0
    nothing true none = absurd (none refl)
    nothing false none = refl

runs_is : (s : State) → is_running s ≡ true → s ≡ states.Running
runs_is states.Unjudged e = absurd (let f : false ≡ true = e in cc)
runs_is states.Stale e = absurd (let f : false ≡ true = e in cc)
runs_is states.Running e = refl
runs_is states.Settled e = absurd (let f : false ≡ true = e in cc)
runs_is states.Failed e = absurd (let f : false ≡ true = e in cc)

-- ---- nothing runs

pub no_child : {X : Type 0} (xs : List X) → length xs ≡ 0 → xs ≡ []
no_child [] e = refl
no_child (x ∷ xs) e = absurd (omega (arith, e))

module _ (plan : Plan) (entry here : Moment) (run : Run) (going : IsGoing plan entry here run) (none : run.waits ≡ 0) where
  pub idle : here.host.children.running ≡ []
  idle = no_child here.host.children.running (going.planned.waits ∙ none)

  not_ended : (i : ℕ) → IsRunning run.looks.board.sched i → (well : Bool) → Contains (as_counted going.short going.events) (Done i well) → ⊥
  not_ended i runs true ended = true≢false (sym (ap is_running runs) ∙ ap is_running (going.follows.done_well i ended))
  not_ended i runs false ended = true≢false (sym (ap is_running runs) ∙ ap is_running ((going.follows.failed i).1 ended))

  pub none_runs : (i : ℕ) → IsRunning run.looks.board.sched i → ⊥
  none_runs i runs =
      let opened : IsOpen going.events i = (start_was going.short going.events i (going.follows.started i runs), λ well ended. not_ended i runs _ (end_counts going.short going.events i well ended)) in
      let (child, among, is) = going.happened.of_open.whole i opened in
      Contains_nil child (subst (λ (l : List Child). Contains l child) idle among)

  pub none_stale : 1 ≤ run.looks.board.sched.jobs → NoneStarts run → QuitsNow run.looks.board.sched run.quit ⊎ ((i : ℕ) → IsStale run.looks.board.sched i → ⊥)
  none_stale some (inl (inl nothing)) = inr nothing
  none_stale some (inl (inr full)) =
      let zero_runs = count_none is_running run.looks.board.sched.states (λ i is. none_runs i (runs_is (state_of run.looks.board.sched i) is)) in
      absurd (omega (arith, some, full, zero_runs))
  none_stale some (inr quits) = inl quits
