-- What is known of the steps is kept, as one is taken to be looked at, and as the schedule is told more of it.
use Rattle.std.proofs.Common.{◌≡◌, ◌⊎◌, inl, inr, ℕ, ◌<◌, Bool, true, false, cond, List, length, get_or, set, Option, Some, None, refl, sym, ◌∙◌, ap, subst, arith}
use Rattle.std.specs.List.{Contains}
use Rattle.std.proofs.Math.ListN.{length-set}
use Rattle.std.proofs.lemmas.Bool.{cases_eq}
use Rattle.std.proofs.lemmas.List.{get_or-set_same, get_or-set_other}
use Rattle.b2_plan.specs.declared.step.Step.{Step}
use Rattle.b2_runs.specs.Numbers.{NeededOf.first, NeededOf.of_needed}
use Rattle.b2_sched.specs.declared.state.State.TheVariants.{Settled}
use Rattle.b2_sched.specs.NumberSets.{Has}
use Rattle.b2_sched.specs.Schedules.{Schedule, state_of, IsUnjudged, IsSettled, IsStep, Needs, IsFirst, IsNeeded, Lacks, CanLook}
use Rattle.b2_sched.specs.SchedulerCalls.{looked_at, with_lack}
use Rattle.b2_sched.proofs.IndexFindsTheLowest.{has_still, had_or_is, has_other}
use Rattle.b2_sched.proofs.ChangesKeepTheInvariant.{needed_more}
use Rattle.b2_facts.specs.Facts.{Knowledge}
use Rattle.b2_facts.proofs.ListsAtPlaces.{some_is}
use Rattle.b2_board.specs.declared.work.Work.{Work}
use Rattle.b2_board.specs.Needs.{TellsNeeds}
use Rattle.b2_board.specs.Works.{IsWaiting, HasOutputOf, IsWorkOn, LooksOnce}
use Rattle.b2_board.specs.Boards.{work_at, IsSeen, IsOver, HasFound, HasLack, IsBoardOf}
use Rattle.b2_board.proofs.WorkStaysInOrder.{makers_same, reach_settles, work_grows, looked_grows, closed_grows}
use Rattle.b2_board.proofs.NeededAreSteps.{not_zero}

-- ---- a step is taken to be looked at

module _ (steps : List Step) (wanted : List (List ℕ)) (f : Knowledge) (s : Schedule) (works : List (Option Work)) (number : ℕ) (not_zero_needed : (k : ℕ) → IsNeeded s k → k ≡ 0 → ⊥) (is : IsBoardOf steps wanted 0 f s works) where
  abbrev taken : Schedule
  taken = looked_at s number

  seen_taken : (i : ℕ) → IsSeen s f works i → IsSeen taken f works i
  seen_taken i h = record {
    work = h.work;
    begun = h.begun;
    looked = looked_grows steps s taken f f i h.work (makers_same f) (λ k settled. settled) (λ k need. need) (is.work i h.work h.begun) (λ n other file among at made settled. settled) (λ lacks. lacks) h.looked;
  }

  over_taken : (i : ℕ) → IsOver s f works i → IsOver taken f works i
  over_taken i h = record {
    work = h.work;
    begun = h.begun;
    looked = looked_grows steps s taken f f i h.work (makers_same f) (λ k settled. settled) (λ k need. need) (is.work i h.work h.begun) (λ n other file among at made settled. settled) (λ lacks. lacks) h.looked;
    closed = closed_grows steps s taken f f i h.work (makers_same f) (λ k settled. settled) (λ k need. need) (is.work i h.work h.begun) h.closed;
  }

  waits_taken : (i : ℕ) → Lacks s i ⊎ IsWaiting s i → Lacks taken i ⊎ IsWaiting taken i
  waits_taken i (inl l) = inl l
  waits_taken i (inr w) = inr (record { need = w.need; needs = w.needs; not_settled = w.not_settled })

  pub board_looked : IsBoardOf steps wanted number f taken works
  board_looked = record {
    size = is.size;
    dependents_size = is.dependents_size;
    lacking_size = is.lacking_size;
    looks_size = length-set s.looks number false ∙ is.looks_size;
    works_size = is.works_size;
    request = is.request;
    first = is.first;
    needs = is.needs;
    lacks = is.lacks;
    work = λ i w begun. let on = is.work i w begun in work_grows steps s taken f f i w (makers_same f) (λ k settled. settled) (λ k need. need) on (reach_settles steps (IsSettled s) (IsSettled taken) f (λ k settled. settled) on.step w.reach on.reach);
    seen = λ i other needed cannot. seen_taken i (is.seen i (not_zero_needed i needed) needed (λ h. cannot (has_other s.looks number i other h)));
    waits = λ i other needed unjudged cannot. waits_taken i (is.waits i (not_zero_needed i needed) needed unjudged (λ h. cannot (has_other s.looks number i other h)));
    judged = λ i step judged. let (needed, over) = is.judged i (record { some = step.some; within = step.within }) judged in (needed, over_taken i over);
  }

-- ---- more is told of the step that is looked at

-- The schedule was told that the step needs makers of its members, or that it lacks a file, or nothing.
pub record TellsOf (number : ℕ) (f : Knowledge) (v : Work) (s t : Schedule) : Type 0 where
  pub states : t.states ≡ s.states
  pub dependents_size : length t.dependents ≡ length s.dependents
  pub lacking_size : length t.lacking ≡ length s.lacking
  pub looks_size : length t.looks ≡ length s.looks
  pub kept : (i k : ℕ) → Needs s i k → Needs t i k
  pub fresh : (i k : ℕ) → Needs t i k → Needs s i k ⊎ ((i ≡ number) × HasOutputOf f v.reach.members k × IsNeeded s number)
  pub lacks : (i : ℕ) → Lacks s i → Lacks t i
  pub lacked : (i : ℕ) → Lacks t i → Lacks s i ⊎ ((i ≡ number) × (v.reach.lacks ≡ true))
  pub looks : (i : ℕ) → CanLook s i → CanLook t i
  pub found : (i k : ℕ) → Needs t i k → ((j : ℕ) × Needs s j k) ⊎ CanLook t k

pub tells_nothing : (number : ℕ) (f : Knowledge) (v : Work) (s : Schedule) → TellsOf number f v s s
tells_nothing number f v s = record {
  states = refl;
  dependents_size = refl;
  lacking_size = refl;
  looks_size = refl;
  kept = λ i k need. need;
  fresh = λ i k need. inl need;
  lacks = λ i l. l;
  lacked = λ i l. inl l;
  looks = λ i h. h;
  found = λ i k need. inl (i, need);
}

-- its needs were told
needs_told : (number : ℕ) (f : Knowledge) (v : Work) (on : List ℕ) (s t : Schedule) → IsNeeded s number → ((k : ℕ) → Contains on k → HasOutputOf f v.reach.members k) → TellsNeeds number on s t → TellsOf number f v s t
needs_told number f v on s t needed makers tells = record {
  states = tells.states;
  dependents_size = tells.dependents_size;
  lacking_size = ap length tells.lacking;
  looks_size = tells.looks_size;
  kept = tells.kept;
  fresh = λ i k need. elim (tells.fresh i k need) [ inl old ↦ inl old | inr (e, among) ↦ inr (e, makers k among, needed) ];
  lacks = λ i l. subst (λ xs. Has xs i) (sym tells.lacking) l;
  lacked = λ i l. inl (subst (λ xs. Has xs i) tells.lacking l);
  looks = tells.looks;
  found = tells.found;
}

-- and that it lacks a file
lack_told : (number : ℕ) (f : Knowledge) (v : Work) (s t : Schedule) → number < length t.lacking → v.reach.lacks ≡ true → TellsOf number f v s t → TellsOf number f v s (with_lack t number)
lack_told number f v s t within lacks a = record {
  states = a.states;
  dependents_size = a.dependents_size;
  lacking_size = length-set t.lacking number true ∙ a.lacking_size;
  looks_size = a.looks_size;
  kept = a.kept;
  fresh = a.fresh;
  lacks = λ i l. has_still t.lacking number i within (a.lacks i l);
  lacked = λ i l. elim (had_or_is t.lacking number i l) [ inl e ↦ inr (e, lacks) | inr old ↦ a.lacked i old ];
  looks = a.looks;
  found = a.found;
}

pub look_tells : (steps : List Step) (number : ℕ) (f : Knowledge) (v : Work) (s t : Schedule) → IsNeeded s number → number < length s.lacking → LooksOnce steps f number s t v → TellsOf number f v s t
look_tells steps number f v s t needed within looks = go v.reach.lacks refl looks.lacks
  where
    told : TellsOf number f v s looks.between
    told = needs_told number f v looks.on s looks.between needed looks.makers looks.tells

    go : (b : Bool) → v.reach.lacks ≡ b → t ≡ cond b (with_lack looks.between number) looks.between → TellsOf number f v s t
    go true lacks same = subst (TellsOf number f v s) (sym same) (lack_told number f v s looks.between (let e = told.lacking_size in omega (arith, within, e)) lacks told)
    go false lacks same = subst (TellsOf number f v s) (sym same) told

-- The work on the step goes on, of which nothing is lost.
module _ (steps : List Step) (wanted : List (List ℕ)) (number : ℕ) (f : Knowledge) (s t : Schedule) (works : List (Option Work)) (v : Work) (is : IsBoardOf steps wanted number f s works) (step : IsStep s number)
    (unjudged : (IsUnjudged s number → ⊥) → ⊥) (tells : TellsOf number f v s t) (work : IsWorkOn steps t f number v) (more : (k : ℕ) → HasFound f works number k → HasOutputOf f v.reach.members k) (still : HasLack works number → v.reach.lacks ≡ true) where
  abbrev now : List (Option Work)
  now = set works number (Some v)

  told_state : (i : ℕ) → state_of t i ≡ state_of s i
  told_state i = ap (λ xs. get_or xs i Settled) tells.states

  settled_up : (k : ℕ) → IsSettled s k → IsSettled t k
  settled_up k settled = told_state k ∙ settled

  settled_down : (k : ℕ) → IsSettled t k → IsSettled s k
  settled_down k settled = sym (told_state k) ∙ settled

  now_here : work_at now number ≡ Some v
  now_here = get_or-set_same works number (Some v) None (let a = step.within in let b = is.size in let e = is.works_size in omega (arith, a, b, e))

  now_there : (i : ℕ) → (i ≡ number → ⊥) → work_at now i ≡ work_at works i
  now_there i ne = get_or-set_other works number i (Some v) None ne

  firsts : (i : ℕ) → IsFirst s i → IsFirst t i
  firsts i asked = tells.kept 0 i asked

  pub told_needed : (i : ℕ) → IsNeeded s i → IsNeeded t i
  told_needed i needed = needed_more (IsFirst s) (IsFirst t) (Needs s) (Needs t) firsts tells.kept i needed

  needed_by : (j k : ℕ) → Needs s j k → IsNeeded s k
  needed_by j k need = elim (is.needs j k need) [
    | inl e ↦ first k (subst (λ m. Needs s m k) e need)
    | inr (found, needed) ↦ of_needed k j needed need
  ]

  -- what is needed now was needed, or can be looked at
  was_needed : (i j : ℕ) → Needs t j i → IsNeeded s i ⊎ CanLook t i
  was_needed i j need = elim (tells.found j i need) [
    | inl (m, old) ↦ inl (needed_by m i old)
    | inr can ↦ inr can
  ]

  needed_before : (i : ℕ) → IsNeeded t i → IsNeeded s i ⊎ CanLook t i
  needed_before i (first k asked) = was_needed k 0 asked
  needed_before i (of_needed k j needed need) = was_needed k j need

  found_up : (i k : ℕ) → HasFound f works i k → HasFound f now i k
  found_up i k h = elim (cases_eq i number) [
    | inl e ↦ subst (λ m. HasFound f now m k) (sym e) (record { work = v; begun = now_here; reads = more k (subst (λ m. HasFound f works m k) e h) })
    | inr ne ↦ record { work = h.work; begun = now_there i ne ∙ h.begun; reads = h.reads }
  ]

  lack_up : (i : ℕ) → HasLack works i → HasLack now i
  lack_up i h = elim (cases_eq i number) [
    | inl e ↦ subst (HasLack now) (sym e) (record { work = v; begun = now_here; lacks = still (subst (HasLack works) e h) })
    | inr ne ↦ record { work = h.work; begun = now_there i ne ∙ h.begun; lacks = h.lacks }
  ]

  seen_up : (i : ℕ) → (i ≡ number → ⊥) → IsSeen s f works i → IsSeen t f now i
  seen_up i ne h = record {
    work = h.work;
    begun = now_there i ne ∙ h.begun;
    looked = looked_grows steps s t f f i h.work (makers_same f) settled_up (tells.kept i) (is.work i h.work h.begun) (λ n other file among at made settled. settled_down other settled) (tells.lacks i) h.looked;
  }

  over_up : (i : ℕ) → (i ≡ number → ⊥) → IsOver s f works i → IsOver t f now i
  over_up i ne h = record {
    work = h.work;
    begun = now_there i ne ∙ h.begun;
    looked = looked_grows steps s t f f i h.work (makers_same f) settled_up (tells.kept i) (is.work i h.work h.begun) (λ n other file among at made settled. settled_down other settled) (tells.lacks i) h.looked;
    closed = closed_grows steps s t f f i h.work (makers_same f) settled_up (tells.kept i) (is.work i h.work h.begun) h.closed;
  }

  waits_up : (i : ℕ) → Lacks s i ⊎ IsWaiting s i → Lacks t i ⊎ IsWaiting t i
  waits_up i (inl l) = inl (tells.lacks i l)
  waits_up i (inr w) = inr (record { need = w.need; needs = tells.kept i w.need w.needs; not_settled = λ settled. w.not_settled (settled_down w.need settled) })

  work_up : (i : ℕ) (w : Work) → work_at now i ≡ Some w → IsWorkOn steps t f i w
  work_up i w begun = elim (cases_eq i number) [
    | inl e ↦ subst (λ x. IsWorkOn steps t f i x) (some_is v w (sym now_here ∙ subst (λ m. work_at now m ≡ Some w) e begun)) (subst (λ m. IsWorkOn steps t f m v) (sym e) work)
    | inr ne ↦ (let on = is.work i w (sym (now_there i ne) ∙ begun) in
        work_grows steps s t f f i w (makers_same f) settled_up (tells.kept i) on (reach_settles steps (IsSettled s) (IsSettled t) f settled_up on.step w.reach on.reach))
  ]

  step_down : (i : ℕ) → IsStep t i → IsStep s i
  step_down i a = record { some = a.some; within = subst (λ n. i < n) (ap length tells.states) a.within }

  judged_up : (i : ℕ) → IsStep t i → (IsUnjudged t i → ⊥) → IsNeeded t i × IsOver t f now i
  judged_up i a judged = elim (cases_eq i number) [
    | inl e ↦ absurd (unjudged (λ u. judged (told_state i ∙ subst (IsUnjudged s) (sym e) u)))
    | inr ne ↦ (let (needed, over) = is.judged i (step_down i a) (λ u. judged (told_state i ∙ u)) in (told_needed i needed, over_up i ne over))
  ]

  pub board_told : IsBoardOf steps wanted number f t now
  board_told = record {
    size = ap length tells.states ∙ is.size;
    dependents_size = tells.dependents_size ∙ is.dependents_size;
    lacking_size = tells.lacking_size ∙ is.lacking_size;
    looks_size = tells.looks_size ∙ is.looks_size;
    works_size = length-set works number (Some v) ∙ is.works_size;
    request = settled_up 0 is.request;
    first = λ i. (λ asked. elim (tells.fresh 0 i asked) [ inl old ↦ (is.first i).0 old | inr (e, output, needed) ↦ absurd (not_zero s number step (sym e)) ], λ m. firsts i ((is.first i).1 m));
    needs = λ i k need. elim (tells.fresh i k need) [
      | inl old ↦ elim (is.needs i k old) [ inl e ↦ inl e | inr (found, needed) ↦ inr (found_up i k found, told_needed i needed) ]
      | inr (e, output, needed) ↦ inr (subst (λ m. HasFound f now m k) (sym e) (record { work = v; begun = now_here; reads = output }), subst (IsNeeded t) (sym e) (told_needed number needed))
    ];
    lacks = λ i l. elim (tells.lacked i l) [
      | inl old ↦ lack_up i (is.lacks i old)
      | inr (e, lacks) ↦ subst (HasLack now) (sym e) (record { work = v; begun = now_here; lacks = lacks })
    ];
    work = work_up;
    seen = λ i ne needed cannot. elim (needed_before i needed) [ inl old ↦ seen_up i ne (is.seen i ne old (λ h. cannot (tells.looks i h))) | inr can ↦ absurd (cannot can) ];
    waits = λ i ne needed u cannot. elim (needed_before i needed) [
      | inl old ↦ waits_up i (is.waits i ne old (sym (told_state i) ∙ u) (λ h. cannot (tells.looks i h)))
      | inr can ↦ absurd (cannot can)
    ];
    judged = judged_up;
  }
