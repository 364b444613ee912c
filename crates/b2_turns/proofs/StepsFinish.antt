-- What is known of the steps as one of them ends.
use Rattle.std.proofs.Common.{◌≡◌, ◌⊎◌, inl, inr, ℕ, ◌+◌, ◌<◌, ◌≤◌, Bool, true, false, List, [], ◌∷◌, ◌++◌, length, get_or, set, Option, None, cond, refl, sym, ap, subst, ◌∙◌, arith}
use Rattle.std.specs.List.{Contains, count_by}
use Rattle.std.proofs.lemmas.Bool.{cases_eq, cases_lt}
use Rattle.std.proofs.lemmas.List.{get_or-set_same, get_or-set_other, get_or_past, length-set}
use Rattle.std.proofs.lemmas.List.Elements.{Contains-append_left, Contains-push, Contains-push_cases}
use Rattle.std.proofs.lemmas.List.Sums.{sum_by-append}
use Rattle.b2_host.specs.declared.children.ChildEvent.{ChildEvent}
use Rattle.b2_host.specs.declared.children.ChildEvent.TheVariants.{Start, Done}
use Rattle.b2_plan.specs.declared.plan.Plan.{Plan}
use Rattle.b2_runs.specs.Events.{is_start, is_done}
use Rattle.b2_runs.specs.Runs.{Settled.done_well as settled_done}
use Rattle.b2_runs.proofs.RunGoesOn.{done_was_started}
use Rattle.b2_sched.specs.declared.state.State.{State}
use Rattle.b2_sched.specs.declared.state.State.TheVariants as states
use Rattle.b2_sched.specs.NumberSets.{Has}
use Rattle.b2_sched.specs.Schedules.{Schedule, state_of, IsStale, IsRunning, IsSettled, IsFailed, is_running, running}
use Rattle.b2_sched.proofs.ChangesKeepTheInvariant.{running_change}
use Rattle.b2_facts.specs.Facts.{Knowledge}
use Rattle.b2_facts.proofs.FactsGrow.{grows_same}
use Rattle.b2_verdicts.specs.declared.step_numbers.StepNumbers.{StepNumbers}
use Rattle.b2_board.specs.Boards.{IsBoard}
use Rattle.b2_looks.specs.declared.looks.Looks.{Looks}
use Rattle.b2_looks.specs.Looks.{ready_at, AreLooks, Follows}
use Rattle.b2_looks.proofs.LooksAreKept.{ready_grows, state_now, state_else, settled_not}
use Rattle.b2_turns.specs.Ends.{Finishes}
use Rattle.b2_turns.specs.Laws.{FinishIsTrue}
use Rattle.b2_turns.proofs.SettledStepsStay.{is_low}

-- what a step is that has ended
abbrev ended : Bool → State
ended true = states.Settled
ended false = states.Failed

-- what ended neither runs nor is stale
ended_not : (well : Bool) (x : State) → x ≡ ended well → (x ≡ states.Stale → ⊥) × (x ≡ states.Running → ⊥)
ended_not true x e = (λ f. (let h : states.Settled ≡ states.Stale = sym e ∙ f in cc), λ f. (let h : states.Settled ≡ states.Running = sym e ∙ f in cc))
ended_not false x e = (λ f. (let h : states.Failed ≡ states.Stale = sym e ∙ f in cc), λ f. (let h : states.Failed ≡ states.Running = sym e ∙ f in cc))

settled_well : (well : Bool) → ended well ≡ states.Settled → well ≡ true
settled_well true e = refl
settled_well false e = absurd (let h : states.Failed ≡ states.Settled = e in cc)

failed_badly : (well : Bool) → ended well ≡ states.Failed → well ≡ false
failed_badly true e = absurd (let h : states.Settled ≡ states.Failed = e in cc)
failed_badly false e = refl

states_by : (number : ℕ) (well : Bool) (l k : Looks) → Finishes number well l k → k.board.sched.states ≡ set l.board.sched.states number (ended well)
states_by number true l k is = (is.good refl).states
states_by number false l k is = ap (λ (s : Schedule). s.states) (is.bad refl)

module _ (number : ℕ) (well : Bool) (l k : Looks) (is : Finishes number well l k) where
  states_are : k.board.sched.states ≡ set l.board.sched.states number (ended well)
  states_are = states_by number well l k is

  else_same : (i : ℕ) → (i ≡ number → ⊥) → state_of k.board.sched i ≡ state_of l.board.sched i
  else_same i other = state_else l.board.sched k.board.sched number (ended well) states_are i other

  -- the step has ended, or it is none of the schedule
  ended_or_none : (state_of k.board.sched number ≡ ended well) ⊎ ((state_of k.board.sched number ≡ states.Settled) × (state_of l.board.sched number ≡ states.Settled))
  ended_or_none = elim (cases_lt number (length l.board.sched.states)) [
    | inl low ↦ inl (state_now l.board.sched k.board.sched number (ended well) states_are low)
    | inr past ↦ inr (
      ap (λ (xs : List State). get_or xs number states.Settled) states_are ∙ get_or_past (set l.board.sched.states number (ended well)) number states.Settled (subst (λ n. n ≤ number) (sym (length-set l.board.sched.states number (ended well))) past),
      get_or_past l.board.sched.states number states.Settled past,
    )
  ]

  -- what is stale or runs then is another step, and was so
  is_other : (i : ℕ) → IsStale k.board.sched i ⊎ IsRunning k.board.sched i → i ≡ number → ⊥
  is_other i which same = (
      let now : IsStale k.board.sched number ⊎ IsRunning k.board.sched number = subst (λ j. IsStale k.board.sched j ⊎ IsRunning k.board.sched j) same which in
      elim ended_or_none [
        | inl e ↦ (let not = ended_not well (state_of k.board.sched number) e in elim now [ inl stale ↦ not.0 stale | inr runs ↦ not.1 runs ])
        | inr (e, was) ↦ (let not = ended_not true (state_of k.board.sched number) e in elim now [ inl stale ↦ not.0 stale | inr runs ↦ not.1 runs ])
      ])

  was_so : (i : ℕ) → IsStale k.board.sched i ⊎ IsRunning k.board.sched i → IsStale l.board.sched i ⊎ IsRunning l.board.sched i
  was_so i which =
      let same = else_same i (is_other i which) in
      elim which [ inl stale ↦ inl (sym same ∙ stale) | inr runs ↦ inr (sym same ∙ runs) ]

  ready_same : (i : ℕ) → (i ≡ number → ⊥) → ready_at k i ≡ ready_at l i
  ready_same i other = ap (λ (xs : List (Option StepNumbers)). get_or xs i None) is.ready ∙ get_or-set_other l.ready.items number i None None other

  -- ---- while the step runs

  module _ (runs : IsRunning l.board.sched number) where
    low : number < length l.board.sched.states
    low = is_low l.board.sched.states number (λ settled. (let h : states.Settled ≡ states.Running = sym settled ∙ runs in cc))

    here : state_of k.board.sched number ≡ ended well
    here = state_now l.board.sched k.board.sched number (ended well) states_are low

    settled_stays : (i : ℕ) → IsSettled l.board.sched i → IsSettled k.board.sched i
    settled_stays i settled = else_same i (λ same. (settled_not (state_of l.board.sched i) settled).0 (subst (IsRunning l.board.sched) (sym same) runs)) ∙ settled

    pub looks_finish : (plan : Plan) (f : Knowledge) → IsBoard plan 0 f k.board → AreLooks plan 0 f l → AreLooks plan 0 f k
    looks_finish plan f board looks = record {
      board = board;
      ready_size = ap length is.ready ∙ length-set l.ready.items number None ∙ looks.ready_size;
      ran_size = ap length is.ran ∙ length-set l.ran.items number true ∙ looks.ran_size;
      ready = λ i which. ready_grows plan f f l k i (grows_same f) settled_stays (ready_same i (is_other i which)) (looks.ready i (was_so i which));
      unread = λ n j file at made loose. looks.unread n j file at made (λ settled. loose (settled_stays j settled));
    }

    -- ---- the events

    fewer : running k.board.sched + 1 ≡ running l.board.sched
    fewer =
        let e = running_change l.board.sched k.board.sched number (ended well) low states_are in
        let one : cond {A = ℕ} (is_running (state_of l.board.sched number)) 1 0 ≡ 1 = ap (λ x. cond {A = ℕ} (is_running x) 1 0) runs in
        let none : cond {A = ℕ} (is_running (ended well)) 1 0 ≡ 0 = not_running well in
        omega (arith, e, one, none)
      where
        not_running : (b : Bool) → cond {A = ℕ} (is_running (ended b)) 1 0 ≡ 0
        not_running true = refl
        not_running false = refl

    count_one : (p : ChildEvent → Bool) (events : List ChildEvent) → count_by p (events ++ Done number well ∷ []) ≡ count_by p events + count_by p (Done number well ∷ [])
    count_one p events = sum_by-append (λ x. cond (p x) 1 0) events (Done number well ∷ [])

    -- before its end the step had none
    not_done : (events : List ChildEvent) → Follows events l → (b : Bool) → Contains events (Done number b) → ⊥
    not_done events follows true c = (settled_not (state_of l.board.sched number) (follows.done_well number c)).0 runs
    not_done events follows false c = (let bad = (follows.failed number).1 c in let h : states.Failed ≡ states.Running = sym bad ∙ runs in cc)

    -- the end of another step came before
    end_before : (events : List ChildEvent) (i : ℕ) (b : Bool) → Contains (events ++ Done number well ∷ []) (Done i b) → Contains events (Done i b) ⊎ ((number ≡ i) × (well ≡ b))
    end_before events i b c = elim (Contains-push_cases events (Done number well) (Done i b) c) [
      | inl before ↦ inl before
      | inr e ↦ inr (let h : Done number well ≡ Done i b = e in (cc, cc))
    ]

    start_before : (events : List ChildEvent) (i : ℕ) → Contains (events ++ Done number well ∷ []) (Start i) → Contains events (Start i)
    start_before events i c = elim (Contains-push_cases events (Done number well) (Start i) c) [
      | inl before ↦ before
      | inr e ↦ absurd (let h : Done number well ≡ Start i = e in cc)
    ]

    later : (events : List ChildEvent) (event : ChildEvent) → Contains events event → Contains (events ++ Done number well ∷ []) event
    later events event c = Contains-append_left events (Done number well ∷ []) event c

    last : (events : List ChildEvent) (i : ℕ) (b : Bool) → i ≡ number → well ≡ b → Contains (events ++ Done number well ∷ []) (Done i b)
    last events i b same e = subst (λ x. Contains (events ++ Done number well ∷ []) (Done i x)) e (subst (λ j. Contains (events ++ Done number well ∷ []) (Done j well)) (sym same) (Contains-push events (Done number well)))

    settled_then : (events : List ChildEvent) → Follows events l → (i : ℕ) → IsSettled k.board.sched i → Contains (events ++ Done number well ∷ []) (Start i) → Contains (events ++ Done number well ∷ []) (Done i true)
    settled_then events follows i settled started = elim (cases_eq i number) [
      | inl same ↦ last events i true same (settled_well well (sym here ∙ subst (IsSettled k.board.sched) same settled))
      | inr other ↦ later events (Done i true) (follows.settled i (sym (else_same i other) ∙ settled) (start_before events i started))
    ]

    failed_then : (events : List ChildEvent) → Follows events l → (i : ℕ) → IsFailed k.board.sched i → Contains (events ++ Done number well ∷ []) (Done i false)
    failed_then events follows i bad = elim (cases_eq i number) [
      | inl same ↦ last events i false same (failed_badly well (sym here ∙ subst (IsFailed k.board.sched) same bad))
      | inr other ↦ later events (Done i false) ((follows.failed i).0 (sym (else_same i other) ∙ bad))
    ]

    failed_back : (events : List ChildEvent) → Follows events l → (i : ℕ) → Contains (events ++ Done number well ∷ []) (Done i false) → IsFailed k.board.sched i
    failed_back events follows i c = elim (end_before events i false c) [
      | inl before ↦ else_same i (λ same. not_done events follows false (subst (λ j. Contains events (Done j false)) same before)) ∙ (follows.failed i).1 before
      | inr (same, badly) ↦ subst (IsFailed k.board.sched) same (here ∙ ap ended badly)
    ]

    done_then : (events : List ChildEvent) → Follows events l → (i : ℕ) → Contains (events ++ Done number well ∷ []) (Done i true) → IsSettled k.board.sched i
    done_then events follows i c = elim (end_before events i true c) [
      | inl before ↦ settled_stays i (follows.done_well i before)
      | inr (same, good) ↦ subst (IsSettled k.board.sched) same (here ∙ ap ended good)
    ]

    ran_then : (events : List ChildEvent) → Follows events l → (i : ℕ) → Has k.ran.items i → (b : Bool) × Contains (events ++ Done number well ∷ []) (Done i b)
    ran_then events follows i has = elim (cases_eq i number) [
      | inl same ↦ (well, last events i well same refl)
      | inr other ↦ (
          let (b, c) = (follows.ran i).0 (sym (get_or-set_other l.ran.items number i true false other) ∙ subst (λ (xs : List Bool). Has xs i) is.ran has) in
          (b, later events (Done i b) c))
    ]

    ran_back : number < length l.ran.items → (events : List ChildEvent) → Follows events l → (i : ℕ) → (b : Bool) × Contains (events ++ Done number well ∷ []) (Done i b) → Has k.ran.items i
    ran_back room events follows i (b, c) = subst (λ (xs : List Bool). Has xs i) (sym is.ran) (elim (cases_eq i number) [
      | inl same ↦ subst (Has (set l.ran.items number true)) (sym same) (get_or-set_same l.ran.items number true false room)
      | inr other ↦ get_or-set_other l.ran.items number i true false other ∙ (elim (end_before events i b c) [
        | inl before ↦ (follows.ran i).1 (b, before)
        | inr (same, e) ↦ absurd (other (sym same))
      ])
    ])

    pub follows_finish : number < length l.ran.items → (events : List ChildEvent) → Follows events l → Follows (events ++ Done number well ∷ []) k
    follows_finish room events follows = record {
      started = λ i now. later events (Start i) (follows.started i (sym (else_same i (is_other i (inr now))) ∙ now));
      not_started = λ i which started. elim which [
        | inl unjudged ↦ (
            let other : i ≡ number → ⊥ = λ same. unjudged_not_ended well (state_of k.board.sched number) here (subst (λ j. state_of k.board.sched j ≡ states.Unjudged) same unjudged) in
            follows.not_started i (inl (sym (else_same i other) ∙ unjudged)) (start_before events i started))
        | inr stale ↦ follows.not_started i (inr (sym (else_same i (is_other i (inl stale))) ∙ stale)) (start_before events i started)
      ];
      settled = settled_then events follows;
      failed = λ i. (failed_then events follows i, failed_back events follows i);
      done_well = done_then events follows;
      ran = λ i. (ran_then events follows i, ran_back room events follows i);
      count = (
          let starts = count_one is_start events in
          let ends = count_one is_done events in
          let n = follows.count in
          omega (arith, starts, ends, n, fewer));
    }
      where
        unjudged_not_ended : (b : Bool) (x : State) → x ≡ ended b → x ≡ states.Unjudged → ⊥
        unjudged_not_ended true x e f = let h : states.Settled ≡ states.Unjudged = sym e ∙ f in cc
        unjudged_not_ended false x e f = let h : states.Failed ≡ states.Unjudged = sym e ∙ f in cc

-- ---- what is true of the steps

pub finish_is_true : FinishIsTrue
finish_is_true u events first reads disk s l k i well w done is looks = record {
  settled = λ j settled. elim (cases_eq j i) [
    | inl same ↦ elim (ended_or_none i well l k is) [
      | inl e ↦ (λ step path makes. settled_done j step path makes (subst (λ x. Contains events (Done x true)) (sym same) (subst (λ b. Contains events (Done i b)) (settled_well well (sym e ∙ subst (IsSettled k.board.sched) same settled)) done)))
      | inr (now, was) ↦ looks.settled j (subst (IsSettled l.board.sched) (sym same) was)
    ]
    | inr other ↦ looks.settled j (sym (else_same i well l k is j other) ∙ settled)
  ];
  stale = λ j stale. looks.stale j (sym (else_same i well l k is j (is_other i well l k is j (inl stale))) ∙ stale);
  ready = λ j numbers which kept. looks.ready j numbers (was_so i well l k is j which) (sym (ready_same i well l k is j (is_other i well l k is j which)) ∙ kept);
  migrated = λ on j step members settled at not closure. elim (cases_eq j i) [
    | inl same ↦ absurd (not (subst (λ x. Contains events (Start x)) (sym same) (done_was_started u events i well w.run done)))
    | inr other ↦ looks.migrated on j step members (sym (else_same i well l k is j other) ∙ settled) at not closure
  ];
}
