-- What is told at the end of an update: the list of skipped steps, and a cycle among those that are stuck.
use Rattle.std.proofs.Common.{◌≡◌, ◌≢◌, ◌⊎◌, inl, inr, ℕ, zero, suc, ◌+◌, ◌<◌, ◌≤◌, ◌&&◌, Bool, true, false, not, cond, List, [], ◌∷◌, ◌++◌, length, get_or, Option, Some, None, refl, sym, ◌∙◌, ap, arith}
use Rattle.std.specs.List.{Contains, count_by}
use Rattle.std.specs.Option.{is_some, MatchOption}
use Rattle.std.proofs.lemmas.Bool.{true≢false, false≢true}
use Rattle.std.proofs.lemmas.List.Sums.{sum_by-cons}
use Rattle.std.proofs.lemmas.List.{length-append}
use Rattle.b2_runs.specs.Numbers.{SkippedOf.lacks, SkippedOf.of_failed, SkippedOf.of_skipped, SkippedOf.ends}
use Rattle.b2_runs.specs.Outcomes.{IsListOf}
use Rattle.b2_sched.specs.declared.state.State.{State}
use Rattle.b2_sched.specs.declared.state.State.TheVariants.{Unjudged, Stale, Running, Settled, Failed}
use Rattle.b2_sched.specs.NumberSets.{Has, HasNone, IsLeast}
use Rattle.b2_sched.specs.Schedules.{Schedule, state_of, IsStale, IsRunning, IsSettled, IsFailed, Needs, IsLeft, CanLook, IsSkipped, QuitsNow, IsStuck, NoneStuck, GoesOn, AreJudged, is_running, running}
use Rattle.b2_sched.specs.Ends.{IsCycleOf, IsStepCycle}
use Rattle.b2_sched.specs.Keeping.{IsKept}
use Rattle.b2_sched.specs.Searches.{IsSearch, AreFound, AreLeftFlags, AreStuckFlags}
use Rattle.b2_sched.proofs.IndexFindsTheLowest.{has_within, found_none, found_some}
use Rattle.b2_sched.proofs.CallsDoWhatIsDefined.{some_runs}
use Rattle.b2_sched.proofs.ChangesKeepTheInvariant.{asked_if_needs, step_if_not_settled, not_two}
use Rattle.b2_sched.proofs.ListsGrowByOneNumber.{listed_same, failed_within}
use Rattle.b2_sched.proofs.SearchFindsAllSkipped.{left_there, left_back, search_ends, skipped_left, skipped_same}
use Rattle.b2_sched.proofs.WalkComesToTheCycle.{cycle_same}

-- the list of the skipped steps, where the update does not quit
pub skipped_list : (s : Schedule) (quit : Bool) (left found : List Bool) (list : List ℕ) → IsSearch s left found [] → (QuitsNow s quit → ⊥) → IsListOf (Has found) list → IsListOf (IsSkipped s quit) list
skipped_list s quit left found list is never listed =
    listed_same (Has found) (IsSkipped s quit) list (λ i h. skipped_same s false quit (λ q. false≢true q.quits) i (is.sound i h)) (λ i k. search_ends s left found is i (skipped_same s quit false never i k)) listed

-- and where it quits
pub quits_list : (s : Schedule) (starts : List Bool) (count : ℕ) (quit : Bool) (left : List Bool) (list : List ℕ) → IsKept s starts count → AreLeftFlags s.states s.dependents left → QuitsNow s quit → IsListOf (Has left) list → IsListOf (IsSkipped s quit) list
quits_list s starts count quit left list is are quits listed =
    listed_same (Has left) (IsSkipped s quit) list (λ i h. ends i (left_there s starts count left is are i h) quits) (λ i k. left_back s left are i (skipped_left s quit i k)) listed

running_yes : (x : State) → is_running x ≡ true → x ≡ Running
running_yes Unjudged e = absurd (false≢true e)
running_yes Stale e = absurd (false≢true e)
running_yes Running e = refl
running_yes Settled e = absurd (false≢true e)
running_yes Failed e = absurd (false≢true e)

-- none runs, or some step does
none_or_one : (xs : List State) → (count_by is_running xs ≡ 0) ⊎ ((i : ℕ) × (get_or xs i Settled ≡ Running))
none_or_one [] = inl refl
none_or_one (x ∷ xs) = go (is_running x) refl (none_or_one xs)
  where
    go : (b : Bool) → is_running x ≡ b → (count_by is_running xs ≡ 0) ⊎ ((i : ℕ) × (get_or xs i Settled ≡ Running)) → (count_by is_running (x ∷ xs) ≡ 0) ⊎ ((i : ℕ) × (get_or (x ∷ xs) i Settled ≡ Running))
    go true e rest = inr (zero, running_yes x e)
    go false e (inl none) =
        let off : cond {A = ℕ} (is_running x) 1 0 ≡ 0 = ap (λ b. cond {A = ℕ} b 1 0) e in
        inl (omega (arith, sum_by-cons (λ y. cond {A = ℕ} (is_running y) 1 0) x xs, off, none))
    go false e (inr (i, runs)) = inr (suc i, runs)

-- some step runs where their number is not 0
pub who_runs : (states : List State) → 0 < count_by is_running states → (i : ℕ) × (get_or states i Settled ≡ Running)
who_runs states some = go (none_or_one states)
  where
    go : (count_by is_running states ≡ 0) ⊎ ((i : ℕ) × (get_or states i Settled ≡ Running)) → (i : ℕ) × (get_or states i Settled ≡ Running)
    go (inl none) = absurd (let h : 0 < count_by is_running states = some in omega arith)
    go (inr one) = one

-- what a state is, if it is none of the others
pub unjudged_if : (x : State) → x ≢ Stale → x ≢ Running → x ≢ Settled → x ≢ Failed → x ≡ Unjudged
unjudged_if Unjudged a b c d = refl
unjudged_if Stale a b c d = absurd (a refl)
unjudged_if Running a b c d = absurd (b refl)
unjudged_if Settled a b c d = absurd (c refl)
unjudged_if Failed a b c d = absurd (d refl)

pub ended_or_not : (x : State) → (x ≡ Settled) ⊎ ((x ≡ Failed) ⊎ ((x ≢ Settled) × (x ≢ Failed)))
ended_or_not Unjudged = inr (inr ((λ e. cc), (λ e. cc)))
ended_or_not Stale = inr (inr ((λ e. cc), (λ e. cc)))
ended_or_not Running = inr (inr ((λ e. cc), (λ e. cc)))
ended_or_not Settled = inl refl
ended_or_not Failed = inr (inl refl)

-- a flag of a stuck step
both : (a b : Bool) → (a && not b) ≡ true → (a ≡ true) × (b ≡ false)
both true false e = (refl, refl)
both true true e = absurd (false≢true e)
both false b e = absurd (false≢true e)

pub stuck_there : (s : Schedule) (left found flags : List Bool) → IsSearch s left found [] → AreStuckFlags left found flags → (i : ℕ) → Has flags i → IsStuck s i
stuck_there s left found flags is are i h =
    let says = both (get_or left i false) (get_or found i false) (sym (are.each i) ∙ h) in
    record { left = (is.left_are i).0 says.0; not_skipped = λ k. true≢false (sym (search_ends s left found is i k) ∙ says.1) }

-- a step that is left is found or stuck
pub found_or_stuck : (s : Schedule) (left found flags : List Bool) → IsSearch s left found [] → AreStuckFlags left found flags → (i : ℕ) → IsLeft s i → Has found i ⊎ Has flags i
found_or_stuck s left found flags is are i l = go (get_or found i false) refl
  where
    go : (b : Bool) → get_or found i false ≡ b → Has found i ⊎ Has flags i
    go true e = inl e
    go false e = inr (are.each i ∙ ap (λ a. a && not (get_or found i false)) ((is.left_are i).1 l) ∙ ap (λ b. true && not b) e)

pub stuck_back : (s : Schedule) (left found flags : List Bool) → IsSearch s left found [] → AreStuckFlags left found flags → (i : ℕ) → IsStuck s i → Has flags i
stuck_back s left found flags is are i stuck = elim (found_or_stuck s left found flags is are i stuck.left) [ inl h ↦ absurd (stuck.not_skipped (is.sound i h)) | inr h ↦ h ]

-- a stuck step needs a stuck step
pub stuck_needs : (s : Schedule) (starts : List Bool) (count : ℕ) (left found flags : List Bool) → IsKept s starts count → IsSearch s left found [] → AreStuckFlags left found flags → AreJudged s → (GoesOn s → ⊥)
    → (i : ℕ) → Has flags i → ((k : ℕ) → Has flags k → Needs s i k → ⊥) → ⊥
stuck_needs s starts count left found flags kept is are judged rests i h free =
    let stuck = stuck_there s left found flags is are i h in
    judged i stuck.left.needed (λ can. rests (looks i can)) (λ lack. stuck.not_skipped (lacks i stuck.left lack)) (λ k need. settled k need stuck (ended_or_not (state_of s k)))
    (unjudged_if (state_of s i) (λ e. rests (stale i e)) (λ e. rests (runs i e)) stuck.left.not_settled stuck.left.not_failed)
  where
    looks : (k : ℕ) → CanLook s k → GoesOn s
    looks k can = inr (inr (k, can))

    stale : (k : ℕ) → IsStale s k → GoesOn s
    stale k e = inr (inl (k, e))

    runs : (k : ℕ) → IsRunning s k → GoesOn s
    runs k e = inl (k, e)

    found_free : (k : ℕ) → Needs s i k → IsStuck s i → Has found k ⊎ Has flags k → ⊥
    found_free k need stuck (inl f) = stuck.not_skipped (of_skipped i k stuck.left need (is.sound k f))
    found_free k need stuck (inr f) = free k f need

    settled : (k : ℕ) → Needs s i k → IsStuck s i → (state_of s k ≡ Settled) ⊎ ((state_of s k ≡ Failed) ⊎ ((state_of s k ≢ Settled) × (state_of s k ≢ Failed))) → IsSettled s k
    settled k need stuck (inl e) = e
    settled k need stuck (inr (inl bad)) = absurd (stuck.not_skipped (of_failed i k stuck.left need bad))
    settled k need stuck (inr (inr neither)) = absurd (found_free k need stuck (found_or_stuck s left found flags is are k
        (record { needed = kept.needed k (asked_if_needs s i k need); not_settled = neither.0; not_failed = neither.1 })))

-- no flag: no step is stuck
pub none_stuck : (s : Schedule) (left found flags : List Bool) → IsSearch s left found [] → AreStuckFlags left found flags → HasNone flags → NoneStuck s
none_stuck s left found flags is are none i needed = go (ended_or_not (state_of s i))
  where
    skipped : Has found i ⊎ Has flags i → IsSkipped s false i
    skipped (inl h) = is.sound i h
    skipped (inr h) = absurd (none i h)

    go : (state_of s i ≡ Settled) ⊎ ((state_of s i ≡ Failed) ⊎ ((state_of s i ≢ Settled) × (state_of s i ≢ Failed))) → IsSettled s i ⊎ IsFailed s i ⊎ IsSkipped s false i
    go (inl e) = inl e
    go (inr (inl e)) = inr (inl e)
    go (inr (inr neither)) = inr (inr (skipped (found_or_stuck s left found flags is are i (record { needed = needed; not_settled = neither.0; not_failed = neither.1 }))))

-- the cycle of the stuck steps
pub step_cycle : (s : Schedule) (left found flags : List Bool) (list : List ℕ) → IsSearch s left found [] → AreStuckFlags left found flags → (GoesOn s → ⊥) → IsCycleOf (Has flags) (Needs s) list → IsStepCycle s list
step_cycle s left found flags list is are rests cycle = record {
  rests = rests;
  cycle = cycle_same (Has flags) (IsStuck s) (Needs s) list (stuck_there s left found flags is are) (stuck_back s left found flags is are) cycle;
}

-- what `stuck` found
pub stuck_found : {X : Type 0} (items : X → List ℕ) (s : Schedule) (left found flags : List Bool) (r : Option X) → IsSearch s left found [] → AreStuckFlags left found flags → (GoesOn s → ⊥)
    → MatchOption r (HasNone flags) (λ list. IsCycleOf (Has flags) (Needs s) (items list)) → MatchOption r (GoesOn s ⊎ NoneStuck s) (λ list. IsStepCycle s (items list))
stuck_found items s left found flags None is are rests none = inr (none_stuck s left found flags is are none)
stuck_found items s left found flags (Some list) is are rests cycle = step_cycle s left found flags (items list) is are rests cycle

-- whether the scheduler goes on, by what was found last
pub goes_last : (s : Schedule) (starts : List Bool) (count : ℕ) (r t : Option ℕ) (b : Bool) → IsKept s starts count → count ≤ 0 → is_some r ≡ false → MatchOption r (HasNone starts) (IsLeast starts)
    → MatchOption t (HasNone s.looks) (IsLeast s.looks) → b ≡ is_some t → (b ≡ true → GoesOn s) × (GoesOn s → b ≡ true)
goes_last s starts count r t b is none_run none_start starts_told looks_told e = ((λ h. there (sym e ∙ h)), back)
  where
    there : is_some t ≡ true → GoesOn s
    there h = let found = found_some t (HasNone s.looks) (IsLeast s.looks) h looks_told in inr (inr (found.0, found.1.has))

    no_start : HasNone starts
    no_start = found_none r (HasNone starts) (IsLeast starts) none_start starts_told

    told : (a : Bool) → is_some t ≡ a → (i : ℕ) → CanLook s i → b ≡ true
    told true f i can = e ∙ f
    told false f i can = absurd (found_none t (HasNone s.looks) (IsLeast s.looks) f looks_told i can)

    runs : (i : ℕ) → IsRunning s i → b ≡ true
    runs i e =
        let step_is = step_if_not_settled s starts count i is (λ f. not_two (state_of s i) Running Settled e f (λ g. cc)) in
        let some = some_runs s i step_is.within e in
        absurd (none_more some)
      where
        none_more : 1 ≤ running s → ⊥
        none_more some = omega (arith, is.count_is, none_run)

    back : GoesOn s → b ≡ true
    back (inl (i, e)) = runs i e
    back (inr (inl (i, stale))) = absurd (no_start i ((is.starts_are i).1 stale))
    back (inr (inr (i, can))) = told (is_some t) refl i can

pub goes_started : (s : Schedule) (starts : List Bool) (count : ℕ) (r : Option ℕ) → IsKept s starts count → is_some r ≡ true → MatchOption r (HasNone starts) (IsLeast starts) → GoesOn s
goes_started s starts count r is h told = let found = found_some r (HasNone starts) (IsLeast starts) h told in inr (inl (found.0, (is.starts_are found.0).0 found.1.has))

pub goes_running : (s : Schedule) (starts : List Bool) (count : ℕ) → IsKept s starts count → 0 < count → GoesOn s
goes_running s starts count is more = inl (who_runs s.states (omega (arith, is.count_is)))

-- what is pending is a step
pub pending_within : (s : Schedule) (left found : List Bool) (pending : List ℕ) (k : ℕ) → IsSearch s left found pending → Contains pending k → k < length s.states
pending_within s left found pending k is c = go (is.pending_are k c)
  where
    go : IsFailed s k ⊎ Has found k → k < length s.states
    go (inl bad) = failed_within s.states k bad
    go (inr h) = omega (arith, has_within found k h, is.found_size)

-- one step of the search leaves less to do
pub search_shrinks : (left found : List Bool) (numbers all pending : List ℕ) (k : ℕ) (now : List Bool) (after : List ℕ) → all ≡ pending ++ k ∷ [] → AreFound left numbers found pending now after
    → count_by not now + length after < count_by not found + length all
search_shrinks left found numbers all pending k now after e are = omega (arith, are.count, ap length e, length-append pending (k ∷ []))
