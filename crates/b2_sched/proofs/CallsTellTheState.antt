-- By recursion over past calls: which steps can be looked at, what they need and which have ended; for three laws.
use Rattle.std.proofs.Common.{◌≡◌, ◌⊎◌, inl, inr, ℕ, zero, suc, ◌+◌, ◌-◌, ◌<◌, Bool, true, false, cond, List, [], ◌∷◌, length, get_or, set, refl, sym, ◌∙◌, ap, subst, arith}
use Rattle.std.specs.List.{Contains}
use Rattle.std.proofs.Math.ListN.{length-set}
use Rattle.std.proofs.lemmas.Bool.{cases_eq}
use Rattle.b2_plan.specs.declared.step.Step.{Step}
use Rattle.b2_runs.specs.Numbers.{NeededOf.first, NeededOf.of_needed}
use Rattle.b2_sched.specs.declared.state.State.{State}
use Rattle.b2_sched.specs.declared.state.State.TheVariants.{Unjudged, Stale, Running, Settled, Failed}
use Rattle.b2_sched.specs.NumberSets.{Has}
use Rattle.b2_sched.specs.Schedules.{Schedule, state_of, IsUnjudged, IsStep, Needs, IsFirst, IsNeeded, CanLook, dependents_of, is_running, IsSettled, IsFailed}
use Rattle.b2_sched.specs.SchedulerCalls.{IsNew, looked_at, with_need, with_lack, with_stale, with_start, with_failure, Settles, is_empty}
use Rattle.b2_sched.specs.Keeping.{IsKept, LooksNext}
use Rattle.b2_sched.specs.Histories.{Call, Call.looks, Call.needs, Call.lacks, Call.stale, Call.settles, Call.starts, Call.fails, Makes, After, After.new, After.call, IsDue, LooksByCalls, NeedsByCalls, EndsByCalls}
use Rattle.b2_sched.proofs.IndexFindsTheLowest.{had_other, has_other, had_or_is, has_still, has_set}
use Rattle.b2_sched.proofs.ChangesKeepTheInvariant.{needed_more, asked_if_needed, step_if_asked, asked_if_judged, step_if_not_settled, empty_or_not, not_two, state_stays, state_changed, needs_were, needs_stay, needs_added, dependents_other, kept_looked, kept_lack, kept_stale, kept_start, kept_failure, kept_settled, kept_need}
use Rattle.b2_sched.proofs.CallsDoWhatIsDefined.{some_runs}

-- what the calls told of a schedule
record Tells (past : List Call) (s : Schedule) : Type 0 where
  told : (i k : ℕ) → IsStep s i → Needs s i k → Contains past (needs i k)
  meant : (i k : ℕ) → Contains past (needs i k) → Needs s i k
  due : (i : ℕ) → CanLook s i → IsDue past i
  can : (i : ℕ) → IsNeeded s i → IsUnjudged s i → IsDue past i → CanLook s i
  fresh : (i : ℕ) → (IsNeeded s i → ⊥) → IsDue past i

-- a call in front
in_front_of : (c d : Call) (past : List Call) → Contains past d → Contains (c ∷ past) d
in_front_of c d past (k, below, e) = (suc k, omega arith, e)

was_before : (c d : Call) (past : List Call) → Contains (c ∷ past) d → (c ≡ d) ⊎ Contains past d
was_before c d past (zero, below, e) = inl e
was_before c d past (suc k, below, e) = inr (k, omega arith, e)

-- a call that tells no need
tells_no_need : (c : Call) (past : List Call) (i k : ℕ) → (c ≡ needs i k → ⊥) → Contains (c ∷ past) (needs i k) → Contains past (needs i k)
tells_no_need c past i k not_it h = elim (was_before c (needs i k) past h) [ inl e ↦ absurd (not_it e) | inr rest ↦ rest ]

-- at first
tells_new : (steps : List Step) (wanted : List (List ℕ)) (jobs : ℕ) (s : Schedule) → IsNew steps wanted jobs s → Tells [] s
tells_new steps wanted jobs s is = record {
  told = λ i k step_is n. absurd (zero_step i step_is ((is.needs i k).0 n).0);
  meant = λ i k c. absurd (none c);
  due = λ i h. tt;
  can = λ i needed u d. can i needed;
  fresh = λ i not. tt;
}
  where
    zero_step : (i : ℕ) → IsStep s i → i ≡ 0 → ⊥
    zero_step i step_is z = let some : 0 < i = step_is.some in omega arith

    none : {d : Call} → Contains [] d → ⊥
    none (k, below, e) = omega arith

    can : (i : ℕ) → IsNeeded s i → CanLook s i
    can i (first k f) = (is.looks k).1 ((is.needs 0 k).0 f).1
    can i (of_needed k j n need) = (is.looks k).1 ((is.needs j k).0 need).1

-- what is needed is so where the dependents are the same
needed_same : (s t : Schedule) → t.dependents ≡ s.dependents → (i : ℕ) → IsNeeded s i → IsNeeded t i
needed_same s t e = needed_more (IsFirst s) (IsFirst t) (Needs s) (Needs t) (λ i f. subst (λ (ds : List (List ℕ)). Contains (get_or ds i []) 0) (sym e) f) (λ i k n. subst (λ (ds : List (List ℕ)). Contains (get_or ds k []) i) (sym e) n)

-- a step was looked at
tells_looked : (past : List Call) (s : Schedule) (k : ℕ) → Tells past s → LooksNext s k → k < length s.looks → Tells (looks k ∷ past) (looked_at s k)
tells_looked past s k was next within = record {
  told = λ i j step_is n. in_front_of (looks k) (needs i j) past (was.told i j (record { some = step_is.some; within = step_is.within }) n);
  meant = λ i j c. was.meant i j (tells_no_need (looks k) past i j (λ e. cc) c);
  due = λ i h. (let had = had_other s.looks k i within h in (had.1, was.due i had.0));
  can = λ i needed u d. has_other s.looks k i d.0 (was.can i needed u d.1);
  fresh = λ i not. ((λ e. not (subst (IsNeeded s) (sym e) next.needed)), was.fresh i not);
}

-- a source lacks
tells_lack : (past : List Call) (s : Schedule) (k : ℕ) → Tells past s → Tells (lacks k ∷ past) (with_lack s k)
tells_lack past s k was = record {
  told = λ i j step_is n. in_front_of (lacks k) (needs i j) past (was.told i j (record { some = step_is.some; within = step_is.within }) n);
  meant = λ i j c. was.meant i j (tells_no_need (lacks k) past i j (λ e. cc) c);
  due = was.due;
  can = was.can;
  fresh = was.fresh;
}

-- the state of a step changed, and nothing else but that it is not looked at
tells_state : (past : List Call) (s t : Schedule) (k : ℕ) (v : State) (c : Call) → Tells past s → ((i j : ℕ) → c ≡ needs i j → ⊥) → ((i : ℕ) → IsDue (c ∷ past) i → IsDue past i) → ((i : ℕ) → IsDue past i → IsDue (c ∷ past) i)
    → k < length s.states → t.states ≡ set s.states k v → (v ≡ Unjudged → ⊥) → t.dependents ≡ s.dependents → ((i : ℕ) → CanLook t i → CanLook s i) → ((i : ℕ) → (i ≡ k → ⊥) → CanLook s i → CanLook t i) → Tells (c ∷ past) t
tells_state past s t k v c was not_need before now within states judged dependents less more = record {
  told = λ i j step_is n. in_front_of c (needs i j) past (was.told i j (step i step_is) (subst (λ (ds : List (List ℕ)). Contains (get_or ds j []) i) dependents n));
  meant = λ i j h. subst (λ (ds : List (List ℕ)). Contains (get_or ds j []) i) (sym dependents) (was.meant i j (tells_no_need c past i j (not_need i j) h));
  due = λ i h. now i (was.due i (less i h));
  can = λ i needed u d. (let ne : i ≡ k → ⊥ = λ e. not_two (state_of t i) Unjudged v u (ap (state_of t) e ∙ state_changed s t k v states within) (λ f. judged (sym f)) in
      more i ne (was.can i (needed_same t s (sym dependents) i needed) (sym (state_stays s t k i v states ne) ∙ u) (before i d)));
  fresh = λ i not. now i (was.fresh i (λ needed. not (needed_same s t dependents i needed)));
}
  where
    step : (i : ℕ) → IsStep t i → IsStep s i
    step i is = record { some = is.some; within = subst (λ (n : ℕ). i < n) (ap length states ∙ length-set s.states k v) is.within }

-- a step settled
tells_settled : (past : List Call) (s t : Schedule) (flags : List Bool) (count k : ℕ) → Tells past s → IsKept t flags count → k < length s.states → Settles s k t → Tells (settles k ∷ past) t
tells_settled past s t flags count k was kept within is = record {
  told = λ i j step_is n. in_front_of (settles k) (needs i j) past (was.told i j (step i step_is) (subst (λ (ds : List (List ℕ)). Contains (get_or ds j []) i) is.dependents n));
  meant = λ i j h. subst (λ (ds : List (List ℕ)). Contains (get_or ds j []) i) (sym is.dependents) (was.meant i j (tells_no_need (settles k) past i j (λ e. cc) h));
  due = λ i h. due i h ((is.looks i).0 h);
  can = λ i needed u d. (is.looks i).1 (u, can i needed u d);
  fresh = λ i not. inl (was.fresh i (λ needed. not (needed_same s t is.dependents i needed)));
}
  where
    step : (i : ℕ) → IsStep t i → IsStep s i
    step i step_is = record { some = step_is.some; within = subst (λ (n : ℕ). i < n) (ap length is.states ∙ length-set s.states k Settled) step_is.within }

    due : (i : ℕ) → CanLook t i → IsUnjudged t i × (CanLook s i ⊎ Needs s i k) → IsDue past i ⊎ Contains past (needs i k)
    due i h (u, inl c) = inl (was.due i c)
    due i h (u, inr n) = inr (was.told i k (step i (step_if_asked t flags count kept i (kept.looks i h).0)) n)

    can : (i : ℕ) → IsNeeded t i → IsUnjudged t i → IsDue past i ⊎ Contains past (needs i k) → CanLook s i ⊎ Needs s i k
    can i needed u (inr c) = inr (was.meant i k c)
    can i needed u (inl d) =
        let ne : i ≡ k → ⊥ = λ e. not_two (state_of t i) Unjudged Settled u (ap (state_of t) e ∙ state_changed s t k Settled is.states within) (λ f. cc) in
        inl (was.can i (needed_same t s (sym is.dependents) i needed) (sym (state_stays s t k i Settled is.states ne) ∙ u) d)

-- a need was added
tells_need : (past : List Call) (s : Schedule) (flags : List Bool) (count a b : ℕ) → Tells past s → IsKept s flags count → IsNeeded s a → IsStep s b → Tells (needs a b ∷ past) (with_need s a b)
tells_need past s flags count a b was kept a_needed b_is = record {
  told = λ i j step_is n. elim (needs_were s a b i j inside n) [
    | inl h ↦ in_front_of (needs a b) (needs i j) past (was.told i j (record { some = step_is.some; within = step_is.within }) h)
    | inr same ↦ (zero, omega arith, both i j same.0 same.1)
  ];
  meant = λ i j h. elim (was_before (needs a b) (needs i j) past h)
      [ inl e ↦ added i j e | inr rest ↦ needs_stay s a b i j inside (was.meant i j rest) ];
  due = λ i h. due i h (empty_or_not (dependents_of s b));
  can = λ i needed u d. can i needed u d (empty_or_not (dependents_of s i)) (empty_or_not (dependents_of s b)) (cases_eq i b);
  fresh = λ i not. was.fresh i (λ needed. not (more i needed));
}
  where
    t : Schedule
    t = with_need s a b

    inside : b < length s.dependents
    inside = omega (arith, kept.dependents_size, b_is.within)

    seen : b < length s.looks
    seen = omega (arith, kept.looks_size, b_is.within)

    both : (i j : ℕ) → i ≡ a → j ≡ b → needs a b ≡ needs i j
    both i j e f = cc

    added : (i j : ℕ) → needs a b ≡ needs i j → Needs t i j
    added i j e = let f : a ≡ i = cc in let g : b ≡ j = cc in subst (λ (x : ℕ). Needs t x j) f (subst (λ (x : ℕ). Needs t a x) g (needs_added s a b inside))

    more : (i : ℕ) → IsNeeded s i → IsNeeded t i
    more = needed_more (IsFirst s) (IsFirst t) (Needs s) (Needs t) (λ i f. needs_stay s a b 0 i inside f) (λ i k n. needs_stay s a b i k inside n)

    unneeded : (i : ℕ) → dependents_of s i ≡ [] → IsNeeded s i → ⊥
    unneeded i none needed = asked_if_needed s i needed none

    empty_says : (xs : List ℕ) → (xs ≡ [] → ⊥) → is_empty xs ≡ false
    empty_says [] ne = absurd (ne refl)
    empty_says (x ∷ xs) ne = refl

    due : (i : ℕ) → CanLook t i → (dependents_of s b ≡ []) ⊎ (dependents_of s b ≡ [] → ⊥) → IsDue past i
    due i h (inl none) = elim (had_or_is s.looks b i (subst (λ (xs : List ℕ). Has (cond (is_empty xs) (set s.looks b true) s.looks) i) none h))
        [ inl same ↦ subst (IsDue past) (sym same) (was.fresh b (unneeded b none)) | inr c ↦ was.due i c ]
    due i h (inr some) = was.due i (subst (λ (x : Bool). Has (cond x (set s.looks b true) s.looks) i) (empty_says (dependents_of s b) some) h)

    stays : (i : ℕ) → CanLook s i → (dependents_of s b ≡ []) ⊎ (dependents_of s b ≡ [] → ⊥) → CanLook t i
    stays i c (inl none) = subst (λ (xs : List ℕ). Has (cond (is_empty xs) (set s.looks b true) s.looks) i) (sym none) (has_still s.looks b i seen c)
    stays i c (inr some) = subst (λ (x : Bool). Has (cond x (set s.looks b true) s.looks) i) (sym (empty_says (dependents_of s b) some)) c

    can : (i : ℕ) → IsNeeded t i → IsUnjudged t i → IsDue past i → (dependents_of s i ≡ []) ⊎ (dependents_of s i ≡ [] → ⊥) → (dependents_of s b ≡ []) ⊎ (dependents_of s b ≡ [] → ⊥) → (i ≡ b) ⊎ (i ≡ b → ⊥) → CanLook t i
    can i needed u d (inr asked) e same = stays i (was.can i (kept.needed i asked) u d) e
    can i needed u d (inl none) e (inr ne) = absurd (asked_if_needed t i needed (dependents_other s a b i ne ∙ none))
    can i needed u d (inl none) (inr some) (inl same) = absurd (some (ap (dependents_of s) (sym same) ∙ none))
    can i needed u d (inl none) (inl free) (inl same) = subst (λ (xs : List ℕ). Has (cond (is_empty xs) (set s.looks b true) s.looks) i) (sym free) (subst (Has (set s.looks b true)) (sym same) (has_set s.looks b seen))

-- a schedule that is kept, and of which the calls tell
record Stands (past : List Call) (s : Schedule) : Type 0 where
  flags : List Bool
  count : ℕ
  kept : IsKept s flags count
  tells : Tells past s

stands_along : (past : List Call) (s t : Schedule) → t ≡ s → Stands past s → Stands past t
stands_along past s t e is = subst (Stands past) (sym e) is

-- after one more call
goes : (past : List Call) (s t : Schedule) (one : Call) → Stands past s → Makes s one t → Stands (one ∷ past) t
goes past s t (looks k) is (next, e) =
    let within : k < length s.looks = omega (arith, is.kept.looks_size, next.is_step.within) in
    stands_along (looks k ∷ past) (looked_at s k) t e (record { flags = is.flags; count = is.count; kept = kept_looked s is.flags is.count k is.kept within; tells = tells_looked past s k is.tells next within })
goes past s t (needs a b) is (a_needed, b_is, unsettled, e) =
    stands_along (needs a b ∷ past) (with_need s a b) t e (record { flags = is.flags; count = is.count; kept = kept_need s is.flags is.count a b is.kept a_needed b_is unsettled; tells = tells_need past s is.flags is.count a b is.tells is.kept a_needed b_is })
goes past s t (lacks k) is e =
    stands_along (lacks k ∷ past) (with_lack s k) t e (record { flags = is.flags; count = is.count; kept = kept_lack s is.flags is.count k is.kept; tells = tells_lack past s k is.tells })
goes past s t (stale k) is (needed, unjudged, e) =
    let asked = asked_if_needed s k needed in
    let step_is = step_if_asked s is.flags is.count is.kept k asked in
    let within : k < length s.looks = omega (arith, is.kept.looks_size, step_is.within) in
    stands_along (stale k ∷ past) (with_stale s k) t e (record {
      flags = set is.flags k true;
      count = is.count;
      kept = kept_stale s is.flags is.count k is.kept step_is asked unjudged;
      tells = tells_state past s (with_stale s k) k Stale (stale k) is.tells (λ i j e. cc) (λ i d. d) (λ i d. d) step_is.within refl (λ e. cc) refl (λ i h. (had_other s.looks k i within h).0) (λ i ne h. has_other s.looks k i ne h);
    })
goes past s t (settles k) is (inl (needed, unjudged), settled) =
    let asked = asked_if_needed s k needed in
    let step_is = step_if_asked s is.flags is.count is.kept k asked in
    let off : cond {A = ℕ} (is_running (state_of s k)) 1 0 ≡ 0 = ap (λ x. cond {A = ℕ} (is_running x) 1 0) unjudged in
    let kept = kept_settled s t is.flags is.count is.count k is.kept step_is asked (λ e. not_two (state_of s k) Unjudged Stale unjudged e (λ f. cc)) settled (omega (arith, off)) in
    record { flags = is.flags; count = is.count; kept = kept; tells = tells_settled past s t is.flags is.count k is.tells kept step_is.within settled }
goes past s t (settles k) is (inr runs, settled) =
    let step_is = step_if_not_settled s is.flags is.count k is.kept (λ e. not_two (state_of s k) Running Settled runs e (λ f. cc)) in
    let asked = asked_if_judged s is.flags is.count k is.kept step_is (λ e. not_two (state_of s k) Running Unjudged runs e (λ f. cc)) in
    let one : cond {A = ℕ} (is_running (state_of s k)) 1 0 ≡ 1 = ap (λ x. cond {A = ℕ} (is_running x) 1 0) runs in
    let some = some_runs s k step_is.within runs in
    let kept = kept_settled s t is.flags is.count (is.count - 1) k is.kept step_is asked (λ e. not_two (state_of s k) Running Stale runs e (λ f. cc)) settled (omega (arith, one, some, is.kept.count_is)) in
    record { flags = is.flags; count = is.count - 1; kept = kept; tells = tells_settled past s t is.flags (is.count - 1) k is.tells kept step_is.within settled }
goes past s t (starts k) is (ready, e) =
    let step_is = step_if_not_settled s is.flags is.count k is.kept (λ e. not_two (state_of s k) Stale Settled ready e (λ f. cc)) in
    stands_along (starts k ∷ past) (with_start s k) t e (record {
      flags = set is.flags k false;
      count = is.count + 1;
      kept = kept_start s is.flags is.count k is.kept ready;
      tells = tells_state past s (with_start s k) k Running (starts k) is.tells (λ i j e. cc) (λ i d. d) (λ i d. d) step_is.within refl (λ e. cc) refl (λ i h. h) (λ i ne h. h);
    })
goes past s t (fails k) is (runs, e) =
    let step_is = step_if_not_settled s is.flags is.count k is.kept (λ e. not_two (state_of s k) Running Settled runs e (λ f. cc)) in
    let some = some_runs s k step_is.within runs in
    stands_along (fails k ∷ past) (with_failure s k) t e (record {
      flags = is.flags;
      count = is.count - 1;
      kept = kept_failure s is.flags is.count (is.count - 1) k is.kept runs (omega (arith, some, is.kept.count_is));
      tells = tells_state past s (with_failure s k) k Failed (fails k) is.tells (λ i j e. cc) (λ i d. d) (λ i d. d) step_is.within refl (λ e. cc) refl (λ i h. h) (λ i ne h. h);
    })

-- after all calls
stands : (steps : List Step) (wanted : List (List ℕ)) (jobs : ℕ) (past : List Call) (s : Schedule) → After steps wanted jobs past s → Stands past s
stands steps wanted jobs past s (new s' flags is kept) = record { flags = flags; count = 0; kept = kept; tells = tells_new steps wanted jobs s is }
stands steps wanted jobs past s (call before r t one after makes) = goes before r t one (stands steps wanted jobs before r after) makes

-- the laws
pub looks_by_calls : LooksByCalls
looks_by_calls steps wanted jobs past s after i =
    let is = stands steps wanted jobs past s after in
    ((λ h. (is.kept.needed i (is.kept.looks i h).0, (is.kept.looks i h).1, is.tells.due i h)), (λ h. is.tells.can i h.0 h.1 h.2))

pub needs_by_calls : NeedsByCalls
needs_by_calls steps wanted jobs past s after i k step_is =
    let is = stands steps wanted jobs past s after in (is.tells.told i k step_is, is.tells.meant i k)

-- what the calls told of the ends of steps
record TellsEnds (past : List Call) (s : Schedule) : Type 0 where
  settled : (i : ℕ) → IsStep s i → IsSettled s i → Contains past (settles i)
  settled_is : (i : ℕ) → Contains past (settles i) → IsSettled s i
  failed : (i : ℕ) → IsFailed s i → Contains past (fails i)
  failed_is : (i : ℕ) → Contains past (fails i) → IsFailed s i

-- the state of a step that had not ended changed
ends_change : (past : List Call) (s t : Schedule) (k : ℕ) (v : State) (c : Call) → TellsEnds past s → k < length s.states → t.states ≡ set s.states k v → (IsSettled s k → ⊥) → (IsFailed s k → ⊥)
    → (v ≡ Settled → c ≡ settles k) → ((i : ℕ) → c ≡ settles i → (i ≡ k) × (v ≡ Settled)) → (v ≡ Failed → c ≡ fails k) → ((i : ℕ) → c ≡ fails i → (i ≡ k) × (v ≡ Failed)) → TellsEnds (c ∷ past) t
ends_change past s t k v c was within e not_settled not_failed settle_told settle_is fail_told fail_is = record {
  settled = λ i step_is h. settled i step_is h (cases_eq i k);
  settled_is = λ i h. elim (was_before c (settles i) past h)
      [ inl is ↦ (let p = settle_is i is in ap (state_of t) p.0 ∙ changed ∙ p.1) | inr rest ↦ kept_settled_of i (was.settled_is i rest) ];
  failed = λ i h. failed i h (cases_eq i k);
  failed_is = λ i h. elim (was_before c (fails i) past h)
      [ inl is ↦ (let p = fail_is i is in ap (state_of t) p.0 ∙ changed ∙ p.1) | inr rest ↦ kept_failed_of i (was.failed_is i rest) ];
}
  where
    changed : state_of t k ≡ v
    changed = state_changed s t k v e within

    stays : (i : ℕ) → (i ≡ k → ⊥) → state_of t i ≡ state_of s i
    stays i ne = state_stays s t k i v e ne

    step : (i : ℕ) → IsStep t i → IsStep s i
    step i is = record { some = is.some; within = subst (λ (n : ℕ). i < n) (ap length e ∙ length-set s.states k v) is.within }

    settled : (i : ℕ) → IsStep t i → IsSettled t i → (i ≡ k) ⊎ (i ≡ k → ⊥) → Contains (c ∷ past) (settles i)
    settled i step_is h (inl same) = (zero, omega arith, settle_told (sym changed ∙ ap (state_of t) (sym same) ∙ h) ∙ ap settles (sym same))
    settled i step_is h (inr ne) = in_front_of c (settles i) past (was.settled i (step i step_is) (sym (stays i ne) ∙ h))

    failed : (i : ℕ) → IsFailed t i → (i ≡ k) ⊎ (i ≡ k → ⊥) → Contains (c ∷ past) (fails i)
    failed i h (inl same) = (zero, omega arith, fail_told (sym changed ∙ ap (state_of t) (sym same) ∙ h) ∙ ap fails (sym same))
    failed i h (inr ne) = in_front_of c (fails i) past (was.failed i (sym (stays i ne) ∙ h))

    kept_settled_of : (i : ℕ) → IsSettled s i → IsSettled t i
    kept_settled_of i h = stays i (λ same. not_settled (ap (state_of s) (sym same) ∙ h)) ∙ h

    kept_failed_of : (i : ℕ) → IsFailed s i → IsFailed t i
    kept_failed_of i h = stays i (λ same. not_failed (ap (state_of s) (sym same) ∙ h)) ∙ h

-- no state changed
ends_stay : (past : List Call) (s t : Schedule) (c : Call) → TellsEnds past s → t.states ≡ s.states → ((i : ℕ) → c ≡ settles i → ⊥) → ((i : ℕ) → c ≡ fails i → ⊥) → TellsEnds (c ∷ past) t
ends_stay past s t c was e not_settle not_fail = record {
  settled = λ i step_is h. in_front_of c (settles i) past (was.settled i (record { some = step_is.some; within = subst (λ (n : ℕ). i < n) (ap length e) step_is.within }) (sym (same i) ∙ h));
  settled_is = λ i h. elim (was_before c (settles i) past h) [ inl is ↦ absurd (not_settle i is) | inr rest ↦ same i ∙ was.settled_is i rest ];
  failed = λ i h. in_front_of c (fails i) past (was.failed i (sym (same i) ∙ h));
  failed_is = λ i h. elim (was_before c (fails i) past h) [ inl is ↦ absurd (not_fail i is) | inr rest ↦ same i ∙ was.failed_is i rest ];
}
  where
    same : (i : ℕ) → state_of t i ≡ state_of s i
    same i = ap (λ xs. get_or xs i Settled) e

ends_new : (steps : List Step) (wanted : List (List ℕ)) (jobs : ℕ) (s : Schedule) (flags : List Bool) → IsNew steps wanted jobs s → IsKept s flags 0 → TellsEnds [] s
ends_new steps wanted jobs s flags is kept = record {
  settled = λ i step_is h. absurd (not_two (state_of s i) Unjudged Settled (is.unjudged i step_is) h (λ f. cc));
  settled_is = λ i c. absurd (none c);
  failed = λ i h. absurd (not_two (state_of s i) Failed Unjudged h (is.unjudged i (step_if_not_settled s flags 0 i kept (λ e. not_two (state_of s i) Failed Settled h e (λ f. cc)))) (λ f. cc));
  failed_is = λ i c. absurd (none c);
}
  where
    none : {d : Call} → Contains [] d → ⊥
    none (k, below, e) = omega arith

-- after one more call
ends_go : (past : List Call) (s t : Schedule) (one : Call) → Stands past s → TellsEnds past s → Makes s one t → TellsEnds (one ∷ past) t
ends_go past s t (looks k) is was (next, e) = ends_stay past s t (looks k) was (ap (λ (r : Schedule). r.states) e) (λ i f. cc) (λ i f. cc)
ends_go past s t (needs a b) is was (a_needed, b_is, unsettled, e) = ends_stay past s t (needs a b) was (ap (λ (r : Schedule). r.states) e) (λ i f. cc) (λ i f. cc)
ends_go past s t (lacks k) is was e = ends_stay past s t (lacks k) was (ap (λ (r : Schedule). r.states) e) (λ i f. cc) (λ i f. cc)
ends_go past s t (stale k) is was (needed, unjudged, e) =
    let step_is = step_if_asked s is.flags is.count is.kept k (asked_if_needed s k needed) in
    ends_change past s t k Stale (stale k) was step_is.within (ap (λ (r : Schedule). r.states) e) (λ h. not_two (state_of s k) Unjudged Settled unjudged h (λ f. cc)) (λ h. not_two (state_of s k) Unjudged Failed unjudged h (λ f. cc))
    (λ f. cc) (λ i f. cc) (λ f. cc) (λ i f. cc)
ends_go past s t (settles k) is was (inl (needed, unjudged), settled) =
    let step_is = step_if_asked s is.flags is.count is.kept k (asked_if_needed s k needed) in
    ends_change past s t k Settled (settles k) was step_is.within settled.states (λ h. not_two (state_of s k) Unjudged Settled unjudged h (λ f. cc)) (λ h. not_two (state_of s k) Unjudged Failed unjudged h (λ f. cc))
    (λ f. refl) (λ i f. (let g : i ≡ k = cc in (g, refl))) (λ f. cc) (λ i f. cc)
ends_go past s t (settles k) is was (inr runs, settled) =
    let step_is = step_if_not_settled s is.flags is.count k is.kept (λ e. not_two (state_of s k) Running Settled runs e (λ f. cc)) in
    ends_change past s t k Settled (settles k) was step_is.within settled.states (λ h. not_two (state_of s k) Running Settled runs h (λ f. cc)) (λ h. not_two (state_of s k) Running Failed runs h (λ f. cc))
    (λ f. refl) (λ i f. (let g : i ≡ k = cc in (g, refl))) (λ f. cc) (λ i f. cc)
ends_go past s t (starts k) is was (ready, e) =
    let step_is = step_if_not_settled s is.flags is.count k is.kept (λ e. not_two (state_of s k) Stale Settled ready e (λ f. cc)) in
    ends_change past s t k Running (starts k) was step_is.within (ap (λ (r : Schedule). r.states) e) (λ h. not_two (state_of s k) Stale Settled ready h (λ f. cc)) (λ h. not_two (state_of s k) Stale Failed ready h (λ f. cc))
    (λ f. cc) (λ i f. cc) (λ f. cc) (λ i f. cc)
ends_go past s t (fails k) is was (runs, e) =
    let step_is = step_if_not_settled s is.flags is.count k is.kept (λ e. not_two (state_of s k) Running Settled runs e (λ f. cc)) in
    ends_change past s t k Failed (fails k) was step_is.within (ap (λ (r : Schedule). r.states) e) (λ h. not_two (state_of s k) Running Settled runs h (λ f. cc)) (λ h. not_two (state_of s k) Running Failed runs h (λ f. cc))
    (λ f. cc) (λ i f. cc) (λ f. refl) (λ i f. (let g : i ≡ k = cc in (g, refl)))

-- after all calls
ends_stand : (steps : List Step) (wanted : List (List ℕ)) (jobs : ℕ) (past : List Call) (s : Schedule) → After steps wanted jobs past s → TellsEnds past s
ends_stand steps wanted jobs past s (new s' flags is kept) = ends_new steps wanted jobs s flags is kept
ends_stand steps wanted jobs past s (call before r t one after makes) = ends_go before r t one (stands steps wanted jobs before r after) (ends_stand steps wanted jobs before r after) makes

pub ends_by_calls : EndsByCalls
ends_by_calls steps wanted jobs past s after i step_is =
    let is = ends_stand steps wanted jobs past s after in ((is.settled i step_is, is.settled_is i), (is.failed i, is.failed_is i))
