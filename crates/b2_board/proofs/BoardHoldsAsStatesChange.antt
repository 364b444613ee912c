-- What is known of the steps is kept, as a step is judged, starts or ends; and where it waits no step is being looked at.
use Rattle.std.proofs.Common.{◌≡◌, ◌⊎◌, inl, inr, ℕ, ◌+◌, ◌<◌, Bool, true, false, List, [], length, get_or, set, Option, None, refl, sym, ◌∙◌, ap, subst, arith}
use Rattle.std.specs.List.{Contains}
use Rattle.std.proofs.Math.ListN.{length-set}
use Rattle.std.proofs.lemmas.Bool.{cases_eq, cases_lt}
use Rattle.std.proofs.lemmas.List.{get_or-set_same, get_or-set_other, get_or_past}
use Rattle.b2_plan.specs.declared.step.Step.{Step}
use Rattle.b2_runs.specs.Numbers.{NeededOf.first, NeededOf.of_needed}
use Rattle.b2_sched.specs.declared.state.State.{State}
use Rattle.b2_sched.specs.declared.state.State.TheVariants.{Unjudged, Stale, Running, Settled, Failed}
use Rattle.b2_sched.specs.NumberSets.{Has}
use Rattle.b2_sched.specs.Schedules.{Schedule, state_of, IsUnjudged, IsStale, IsRunning, IsSettled, IsStep, Needs, IsFirst, IsNeeded, Lacks, CanLook}
use Rattle.b2_sched.specs.SchedulerCalls.{IsNew, with_stale, with_start, with_failure, Settles}
use Rattle.b2_sched.specs.Sound.{IsSound}
use Rattle.b2_sched.proofs.IndexFindsTheLowest.{has_other}
use Rattle.b2_sched.proofs.ChangesKeepTheInvariant.{needed_more}
use Rattle.b2_facts.specs.Facts.{Knowledge}
use Rattle.b2_facts.proofs.ListsAtPlaces.{none_some}
use Rattle.b2_board.specs.declared.work.Work.{Work}
use Rattle.b2_board.specs.Works.{IsWaiting}
use Rattle.b2_board.specs.Boards.{work_at, IsSeen, IsOver, IsBoardOf}
use Rattle.b2_board.specs.Laws.{BoardWaits}
use Rattle.b2_board.proofs.WorkStaysInOrder.{makers_same, reach_settles, work_grows, looked_grows, closed_grows, none_pending, maker_told}
use Rattle.b2_board.proofs.NeededAreSteps.{not_both, settled_not_unjudged}

unjudged_or_not : (x : State) → (x ≡ Unjudged) ⊎ (x ≡ Unjudged → ⊥)
unjudged_or_not Unjudged = inl refl
unjudged_or_not Stale = inr (λ e. let f : Stale ≡ Unjudged = e in cc)
unjudged_or_not Running = inr (λ e. let f : Running ≡ Unjudged = e in cc)
unjudged_or_not Settled = inr (λ e. let f : Settled ≡ Unjudged = e in cc)
unjudged_or_not Failed = inr (λ e. let f : Failed ≡ Unjudged = e in cc)

-- ---- a new board

pub board_new : (steps : List Step) (wanted : List (List ℕ)) (jobs : ℕ) (f : Knowledge) (s : Schedule) (works : List (Option Work)) → IsNew steps wanted jobs s → IsSound s → length works ≡ length steps + 1 → ((k : ℕ) → work_at works k ≡ None) → IsBoardOf steps wanted 0 f s works
board_new steps wanted jobs f s works is sound size none = record {
  size = is.size;
  dependents_size = sound.dependents_size ∙ is.size;
  lacking_size = sound.lacking_size ∙ is.size;
  looks_size = sound.looks_size ∙ is.size;
  works_size = size;
  request = sound.request;
  first = λ i. (λ asked. ((is.needs 0 i).0 asked).1, λ m. (is.needs 0 i).1 (refl, m));
  needs = λ i k need. inl ((is.needs i k).0 need).0;
  lacks = λ i l. absurd (is.lacks i l);
  work = λ i w begun. absurd (none_some w (sym (none i) ∙ begun));
  seen = λ i other needed cannot. absurd (cannot (can i needed));
  waits = λ i other needed unjudged cannot. absurd (cannot (can i needed));
  judged = λ i step judged. absurd (judged (is.unjudged i step));
}
  where
    can : (i : ℕ) → IsNeeded s i → CanLook s i
    can i (first k asked) = (is.looks k).1 ((is.needs 0 k).0 asked).1
    can i (of_needed k j needed need) = (is.looks k).1 ((is.needs j k).0 need).1

-- ---- a step that was looked at lacks a file, or waits

pub board_waits : (steps : List Step) (wanted : List (List ℕ)) (number : ℕ) (f : Knowledge) (s : Schedule) (works : List (Option Work)) → IsSeen s f works number → Lacks s number ⊎ IsWaiting s number → IsBoardOf steps wanted number f s works → IsBoardOf steps wanted 0 f s works
board_waits steps wanted number f s works seen stays is = record {
  size = is.size;
  dependents_size = is.dependents_size;
  lacking_size = is.lacking_size;
  looks_size = is.looks_size;
  works_size = is.works_size;
  request = is.request;
  first = is.first;
  needs = is.needs;
  lacks = is.lacks;
  work = is.work;
  seen = λ i other needed cannot. elim (cases_eq i number) [ inl e ↦ subst (IsSeen s f works) (sym e) seen | inr ne ↦ is.seen i ne needed cannot ];
  waits = λ i other needed unjudged cannot. elim (cases_eq i number) [ inl e ↦ subst (λ m. Lacks s m ⊎ IsWaiting s m) (sym e) stays | inr ne ↦ is.waits i ne needed unjudged cannot ];
  judged = is.judged;
}

pub board_rests : BoardWaits
board_rests plan number f b looked is = board_waits plan.steps plan.wanted number f b.sched b.works.items looked.0 looked.1 is

-- ---- the state of a step changes

-- A step of which all that it reads is settled is judged, or changes its state again.
module _ (steps : List Step) (wanted : List (List ℕ)) (but number : ℕ) (v : State) (f : Knowledge) (s t : Schedule) (works : List (Option Work)) (is : IsBoardOf steps wanted but f s works) (but_here : (i : ℕ) → (i ≡ 0 → ⊥) → (i ≡ number) ⊎ (i ≡ but → ⊥))
    (needed_are_steps : (i : ℕ) → IsNeeded s i → IsStep s i) (step : IsStep s number) (needed : IsNeeded s number) (over : IsOver s f works number) (not_yet : IsSettled s number → ⊥) (still_judged : v ≡ Unjudged → ⊥)
    (states : t.states ≡ set s.states number v) (dependents : t.dependents ≡ s.dependents) (lacking : t.lacking ≡ s.lacking) (size : length t.looks ≡ length s.looks)
    (looks : (i : ℕ) → IsUnjudged t i → CanLook s i → CanLook t i) (woken : (i : ℕ) → IsUnjudged t i → v ≡ Settled → Needs s i number → CanLook t i) where
  states_size : length t.states ≡ length s.states
  states_size = ap length states ∙ length-set s.states number v

  v_now : state_of t number ≡ v
  v_now = ap (λ xs. get_or xs number Settled) states ∙ get_or-set_same s.states number v Settled step.within

  other_state : (i : ℕ) → (i ≡ number → ⊥) → state_of t i ≡ state_of s i
  other_state i ne = ap (λ xs. get_or xs i Settled) states ∙ get_or-set_other s.states number i v Settled ne

  settled_grows : (k : ℕ) → IsSettled s k → IsSettled t k
  settled_grows k settled = elim (cases_eq k number) [ inl e ↦ absurd (not_yet (ap (state_of s) (sym e) ∙ settled)) | inr ne ↦ other_state k ne ∙ settled ]

  dependents_same : (k : ℕ) → get_or t.dependents k [] ≡ get_or s.dependents k []
  dependents_same k = ap (λ xs. get_or xs k []) dependents

  needs_up : (i k : ℕ) → Needs s i k → Needs t i k
  needs_up i k n = subst (λ (xs : List ℕ). Contains xs i) (sym (dependents_same k)) n

  needs_down : (i k : ℕ) → Needs t i k → Needs s i k
  needs_down i k n = subst (λ (xs : List ℕ). Contains xs i) (dependents_same k) n

  needed_up : (i : ℕ) → IsNeeded s i → IsNeeded t i
  needed_up i n = needed_more (IsFirst s) (IsFirst t) (Needs s) (Needs t) (λ k asked. needs_up 0 k asked) needs_up i n

  needed_down : (i : ℕ) → IsNeeded t i → IsNeeded s i
  needed_down i n = needed_more (IsFirst t) (IsFirst s) (Needs t) (Needs s) (λ k asked. needs_down 0 k asked) needs_down i n

  lacks_up : (i : ℕ) → Lacks s i → Lacks t i
  lacks_up i l = subst (λ xs. Has xs i) (sym lacking) l

  step_down : (i : ℕ) → IsStep t i → IsStep s i
  step_down i a = record { some = a.some; within = subst (λ n. i < n) states_size a.within }

  -- a step that is not judged is another one, and was not
  other_one : (i : ℕ) → IsUnjudged t i → i ≡ number → ⊥
  other_one i un e = still_judged (sym v_now ∙ ap (state_of t) (sym e) ∙ un)

  other_but : (i : ℕ) → (i ≡ 0 → ⊥) → IsUnjudged t i → i ≡ but → ⊥
  other_but i nz un = elim (but_here i nz) [ inl e ↦ absurd (other_one i un e) | inr ne ↦ ne ]

  unjudged_down : (i : ℕ) → IsUnjudged t i → IsUnjudged s i
  unjudged_down i un = sym (other_state i (other_one i un)) ∙ un

  -- what a step needs that settles now, wakes it
  settled_down : (i k : ℕ) → IsUnjudged t i → (CanLook t i → ⊥) → IsSettled s k ⊎ Needs s i k → IsSettled t k → IsSettled s k
  settled_down i k un cannot (inl before) settled = before
  settled_down i k un cannot (inr need) settled = elim (cases_eq k number) [
    | inl e ↦ absurd (cannot (woken i un (sym v_now ∙ ap (state_of t) (sym e) ∙ settled) (subst (λ m. Needs s i m) e need)))
    | inr ne ↦ sym (other_state k ne) ∙ settled
  ]

  seen_waits : (i : ℕ) → IsUnjudged t i → (CanLook t i → ⊥) → IsSeen s f works i → IsSeen t f works i
  seen_waits i un cannot h =
      let on = is.work i h.work h.begun in
      record {
        work = h.work;
        begun = h.begun;
        looked = looked_grows steps s t f f i h.work (makers_same f) settled_grows (needs_up i) on
            (λ n k file among at made settled. settled_down i k un cannot
            (elim (maker_told steps s f i h.work on h.looked.told k (record { number = n; among = on.reach.in_order.pending n among; file = file; file_is = at; made = made })) [ inl before ↦ inl before | inr told ↦ inr told.0 ]) settled)
            (lacks_up i) h.looked;
      }

  over_up : (i : ℕ) → IsOver s f works i → IsOver t f works i
  over_up i h =
      let on = is.work i h.work h.begun in
      record {
        work = h.work;
        begun = h.begun;
        looked = looked_grows steps s t f f i h.work (makers_same f) settled_grows (needs_up i) on (λ n k file among at made settled. absurd (none_pending steps s f i h.work on h.looked h.closed n among)) (lacks_up i) h.looked;
        closed = closed_grows steps s t f f i h.work (makers_same f) settled_grows (needs_up i) on h.closed;
      }

  judged_over : (i : ℕ) → IsStep s i → (IsUnjudged t i → ⊥) → IsNeeded t i × IsOver t f works i
  judged_over i a judged = elim (cases_eq i number) [
    | inl e ↦ (needed_up i (subst (IsNeeded s) (sym e) needed), over_up i (subst (IsOver s f works) (sym e) over))
    | inr ne ↦ (let (before, done) = is.judged i a (λ un. judged (other_state i ne ∙ un)) in (needed_up i before, over_up i done))
  ]

  waits_yet : (i : ℕ) → IsUnjudged t i → (CanLook t i → ⊥) → Lacks s i ⊎ IsWaiting s i → Lacks t i ⊎ IsWaiting t i
  waits_yet i un cannot (inl l) = inl (lacks_up i l)
  waits_yet i un cannot (inr w) = inr (record { need = w.need; needs = needs_up i w.need w.needs; not_settled = λ settled. w.not_settled (settled_down i w.need un cannot (inr w.needs) settled) })

  seen_yet : (i : ℕ) → (i ≡ 0 → ⊥) → IsNeeded s i → (CanLook t i → ⊥) → (IsUnjudged t i) ⊎ (IsUnjudged t i → ⊥) → IsSeen t f works i
  seen_yet i nz n cannot (inl un) = seen_waits i un cannot (is.seen i (other_but i nz un) n (λ h. cannot (looks i un h)))
  seen_yet i nz n cannot (inr nu) = let (more, done) = judged_over i (needed_are_steps i n) nu in record { work = done.work; begun = done.begun; looked = done.looked }

  pub board_changes : IsBoardOf steps wanted 0 f t works
  board_changes = record {
    size = states_size ∙ is.size;
    dependents_size = ap length dependents ∙ is.dependents_size;
    lacking_size = ap length lacking ∙ is.lacking_size;
    looks_size = size ∙ is.looks_size;
    works_size = is.works_size;
    request = settled_grows 0 is.request;
    first = λ i. (λ asked. (is.first i).0 (needs_down 0 i asked), λ m. needs_up 0 i ((is.first i).1 m));
    needs = λ i k need. elim (is.needs i k (needs_down i k need)) [ inl e ↦ inl e | inr (found, n) ↦ inr (record { work = found.work; begun = found.begun; reads = found.reads }, needed_up i n) ];
    lacks = λ i l. is.lacks i (subst (λ xs. Has xs i) lacking l);
    work = λ i w begun. let on = is.work i w begun in work_grows steps s t f f i w (makers_same f) settled_grows (needs_up i) on (reach_settles steps (IsSettled s) (IsSettled t) f settled_grows on.step w.reach on.reach);
    seen = λ i nz n cannot. seen_yet i nz (needed_down i n) cannot (unjudged_or_not (state_of t i));
    waits = λ i nz n un cannot. waits_yet i un cannot (is.waits i (other_but i nz un) (needed_down i n) (unjudged_down i un) (λ h. cannot (looks i un h)));
    judged = λ i a judged. judged_over i (step_down i a) judged;
  }

-- ---- the calls

-- where no step is being looked at
but_none : (number i : ℕ) → (i ≡ 0 → ⊥) → (i ≡ number) ⊎ (i ≡ 0 → ⊥)
but_none number i nz = inr nz

but_one : (number i : ℕ) → (i ≡ 0 → ⊥) → (i ≡ number) ⊎ (i ≡ number → ⊥)
but_one number i nz = cases_eq i number

module _ (steps : List Step) (wanted : List (List ℕ)) (number : ℕ) (f : Knowledge) (s : Schedule) (works : List (Option Work)) (sound : IsSound s) where
  -- a step settles, which is not judged or runs
  module _ (but : ℕ) (is : IsBoardOf steps wanted but f s works) (but_here : (i : ℕ) → (i ≡ 0 → ⊥) → (i ≡ number) ⊎ (i ≡ but → ⊥)) (needed : IsNeeded s number) (over : IsOver s f works number) (not_yet : IsSettled s number → ⊥) where
    pub board_settles : (t : Schedule) → Settles s number t → IsBoardOf steps wanted 0 f t works
    board_settles t settles = board_changes steps wanted but number Settled f s t works is but_here sound.steps (sound.steps number needed) needed over not_yet (λ g. let h : Settled ≡ Unjudged = g in cc)
        settles.states settles.dependents settles.lacking settles.size (λ i un can. (settles.looks i).1 (un, inl can)) (λ i un e need. (settles.looks i).1 (un, inr need))

    -- or becomes another one that is judged
    pub board_becomes : (v : State) (looks : List Bool) → (v ≡ Unjudged → ⊥) → (v ≡ Settled → ⊥) → length looks ≡ length s.looks → ((i : ℕ) → (i ≡ number → ⊥) → CanLook s i → Has looks i) → IsBoardOf steps wanted 0 f (record s { states = set s.states number v; looks = looks }) works
    board_becomes v looks judged unsettled size same = board_changes steps wanted but number v f s now works is but_here sound.steps (sound.steps number needed) needed over not_yet judged
        refl refl refl size (λ i un can. same i (other i un) can) (λ i un e need. absurd (unsettled e))
      where
        now : Schedule
        now = record s { states = set s.states number v; looks = looks }

        other : (i : ℕ) → IsUnjudged now i → i ≡ number → ⊥
        other i un e = judged (sym (get_or-set_same s.states number v Settled (sound.steps number needed).within) ∙ ap (state_of now) (sym e) ∙ un)

  -- a step is judged
  module _ (is : IsBoardOf steps wanted number f s works) (needed : IsNeeded s number) (unjudged : IsUnjudged s number) (over : IsOver s f works number) where
    not_settled : IsSettled s number → ⊥
    not_settled settled = settled_not_unjudged s number settled unjudged

    pub board_judged : (stale : Bool) (t : Schedule) → (stale ≡ true → t ≡ with_stale s number) → (stale ≡ false → Settles s number t) → IsBoardOf steps wanted 0 f t works
    board_judged true t is_stale is_fresh = subst (λ x. IsBoardOf steps wanted 0 f x works) (sym (is_stale refl))
        (board_becomes number is (but_one number) needed over not_settled Stale (set s.looks number false) (λ g. let h : Stale ≡ Unjudged = g in cc) (λ g. let h : Stale ≡ Settled = g in cc) (length-set s.looks number false) (λ i ne can. has_other s.looks number i ne can))
    board_judged false t is_stale is_fresh = board_settles number is (but_one number) needed over not_settled t (is_fresh refl)

  -- a judged step starts, or ends
  module _ (is : IsBoardOf steps wanted 0 f s works) (step : IsStep s number) (judged : IsUnjudged s number → ⊥) (not_settled : IsSettled s number → ⊥) where
    pub board_judged_becomes : (v : State) → (v ≡ Unjudged → ⊥) → (v ≡ Settled → ⊥) → IsBoardOf steps wanted 0 f (record s { states = set s.states number v; looks = s.looks }) works
    board_judged_becomes v a b = let (needed, over) = is.judged number step judged in board_becomes 0 is (but_none number) needed over not_settled v s.looks a b refl (λ i ne can. can)

    pub board_judged_settles : (t : Schedule) → Settles s number t → IsBoardOf steps wanted 0 f t works
    board_judged_settles t settles = let (needed, over) = is.judged number step judged in board_settles 0 is (but_none number) needed over not_settled t settles

-- a step whose state is another one than where it is settled is a step
pub state_step : (s : Schedule) (i : ℕ) (v : State) → IsSettled s 0 → state_of s i ≡ v → (v ≡ Settled → ⊥) → IsStep s i
state_step s i v request e other = record { some = some (cases_eq i 0); within = state_within s i v e other }
  where
    some : (i ≡ 0) ⊎ (i ≡ 0 → ⊥) → 0 < i
    some (inl zero) = absurd (other (sym e ∙ ap (state_of s) zero ∙ request))
    some (inr more) = omega (arith, more)

    state_within : (s : Schedule) (i : ℕ) (v : State) → state_of s i ≡ v → (v ≡ Settled → ⊥) → i < length s.states
    state_within s i v e other = elim (cases_lt i (length s.states)) [ inl low ↦ low | inr past ↦ absurd (other (sym e ∙ get_or_past s.states i Settled past)) ]

-- a stale step starts
pub board_starts : (steps : List Step) (wanted : List (List ℕ)) (number : ℕ) (f : Knowledge) (s : Schedule) (works : List (Option Work)) → IsSound s → IsStale s number → IsBoardOf steps wanted 0 f s works → IsBoardOf steps wanted 0 f (with_start s number) works
board_starts steps wanted number f s works sound stale is = board_judged_becomes steps wanted number f s works sound is (state_step s number Stale is.request stale (λ g. let h : Stale ≡ Settled = g in cc))
    (λ un. not_both (state_of s number) Stale Unjudged stale un (λ g. let h : Stale ≡ Unjudged = g in cc)) (λ settled. not_both (state_of s number) Stale Settled stale settled (λ g. let h : Stale ≡ Settled = g in cc))
    Running (λ g. let h : Running ≡ Unjudged = g in cc) (λ g. let h : Running ≡ Settled = g in cc)

-- a step that runs ends
pub board_ends : (steps : List Step) (wanted : List (List ℕ)) (number : ℕ) (f : Knowledge) (s : Schedule) (works : List (Option Work)) → IsSound s → IsRunning s number → (ok : Bool) (t : Schedule) → (ok ≡ true → Settles s number t) → (ok ≡ false → t ≡ with_failure s number)
    → IsBoardOf steps wanted 0 f s works → IsBoardOf steps wanted 0 f t works
board_ends steps wanted number f s works sound runs ok t well bad is = go ok refl
  where
    step : IsStep s number
    step = state_step s number Running is.request runs (λ g. let h : Running ≡ Settled = g in cc)

    judged : IsUnjudged s number → ⊥
    judged un = not_both (state_of s number) Running Unjudged runs un (λ g. let h : Running ≡ Unjudged = g in cc)

    not_settled : IsSettled s number → ⊥
    not_settled settled = not_both (state_of s number) Running Settled runs settled (λ g. let h : Running ≡ Settled = g in cc)

    go : (b : Bool) → ok ≡ b → IsBoardOf steps wanted 0 f t works
    go true e = board_judged_settles steps wanted number f s works sound is step judged not_settled t (well e)
    go false e = subst (λ x. IsBoardOf steps wanted 0 f x works) (sym (bad e))
        (board_judged_becomes steps wanted number f s works sound is step judged not_settled Failed (λ g. let h : Failed ≡ Unjudged = g in cc) (λ g. let h : Failed ≡ Settled = g in cc))
