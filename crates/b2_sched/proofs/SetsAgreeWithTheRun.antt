-- Where a scheduler was told what a run has, needed, left, skipped and stuck steps and the cycle are the run's; for seven laws.
use Rattle.std.proofs.Common.{◌≡◌, inl, inr, ◌↔◌, ℕ, zero, suc, ◌<◌, ◌≤◌, false, List, [], ◌∷◌, length, refl, Some, None, slice_get, arith}
use Rattle.std.proofs.lemmas.Bool.{false≢true}
use Rattle.std.proofs.lemmas.Option.{slice_get_within}
use Rattle.b2_host.specs.declared.children.ChildEvent.{ChildEvent}
use Rattle.b2_plan.specs.declared.step.Step.{Step}
use Rattle.b2_plan.specs.Plans.{step_at}
use Rattle.b2_runs.specs.Staleness.{Update}
use Rattle.b2_runs.specs.Outcomes as run
use Rattle.b2_runs.specs.Cycles.{LeadsOn, NextStuck}
use Rattle.b2_runs.specs.Numbers.{MakesWanted, NeedsStep, LacksSource, NeededOf, NeededOf.first, NeededOf.of_needed, SkippedOf, SkippedOf.lacks, SkippedOf.of_failed, SkippedOf.of_skipped, SkippedOf.ends}
use Rattle.b2_runs.specs.Numbers as by_number
use Rattle.b2_runs.proofs.NeededByNumbers.{needed_by_numbers, skipped_by_numbers, stuck_by_numbers}
use Rattle.b2_sched.specs.declared.state.State.TheVariants.{Unjudged, Settled, Failed}
use Rattle.b2_sched.specs.Schedules.{Schedule, state_of, IsStep, IsSettled, IsFailed, IsNeeded, Needs, IsSkipped, IsStuck}
use Rattle.b2_sched.specs.Ends.{NextOf}
use Rattle.b2_sched.specs.Joins.{IsToldTrue, IsTold, NeededJoins, LeftJoins, SkippedJoins, StuckJoins, NoneStuckJoins, QuitsStuckNone, CycleJoins}
use Rattle.b2_sched.proofs.ChangesKeepTheInvariant.{not_two}
use Rattle.b2_sched.proofs.SearchFindsAllSkipped.{skipped_same, skipped_left}
use Rattle.b2_sched.proofs.RestIsSkippedOrStuck.{ended_or_not}

-- the number of a step of the plan lies within
number_within : (steps : List Step) (k : ℕ) (step : Step) → step_at steps k ≡ Some step → (0 < k) × (k ≤ length steps)
number_within steps zero step e = absurd (let f : None ≡ Some step = e in cc)
number_within steps (suc place) step e = let h : place < length steps = slice_get_within steps place step e in (omega arith, omega arith)

pub is_step : (u : Update) (events : List ChildEvent) (s : Schedule) → IsToldTrue u events s → (k : ℕ) (step : Step) → step_at u.build.steps k ≡ Some step → IsStep s k
is_step u events s told k step at = let within = number_within u.build.steps k step at in record { some = within.0; within = omega (arith, within.1, told.size) }

step_of : (steps : List Step) (k : ℕ) → 0 < k → k ≤ length steps → (step : Step) × (step_at steps k ≡ Some step)
step_of steps zero low high = absurd (omega arith)
step_of steps (suc place) low high = there steps place (omega arith)
  where
    there : (xs : List Step) (n : ℕ) → n < length xs → (x : Step) × (slice_get xs n ≡ Some x)
    there [] n h = absurd (omega arith)
    there (x ∷ xs) zero h = (x, refl)
    there (x ∷ xs) (suc n) h = there xs n (omega arith)

-- and each number of a step is that of one of the plan
pub plan_step : (u : Update) (events : List ChildEvent) (s : Schedule) → IsToldTrue u events s → (k : ℕ) → IsStep s k → (step : Step) × (step_at u.build.steps k ≡ Some step)
plan_step u events s told k is = step_of u.build.steps k is.some (let within = is.within in omega (arith, within, told.size))

-- a step that is settled is not failed
pub not_failed : (s : Schedule) (k : ℕ) → IsSettled s k → IsFailed s k → ⊥
not_failed s k settled bad = not_two (state_of s k) Settled Failed settled bad (λ f. cc)

-- the needed step has this need, told or settled, which is therefore needed
pub need_is_needed : (u : Update) (events : List ChildEvent) (s : Schedule) → IsTold u events s → (i k : ℕ) → IsNeeded s i → NeedsStep u events i k → IsNeeded s k
need_is_needed u events s t i k n r = elim (t.all.needs i k n r) [
  | inl need ↦ of_needed k i n need
  | inr settled ↦ t.so.sound.judged k (is_step u events s t.so k r.other r.makes.at) (λ e. not_two (state_of s k) Settled Unjudged settled e (λ f. cc))
]

-- a need that is not settled was told
pub need_told : (u : Update) (events : List ChildEvent) (s : Schedule) → IsTold u events s → (i k : ℕ) → IsNeeded s i → NeedsStep u events i k → (IsSettled s k → ⊥) → Needs s i k
need_told u events s t i k n r open_yet = elim (t.all.needs i k n r) [ inl need ↦ need | inr settled ↦ absurd (open_yet settled) ]

-- ---- needed

needed_there : (u : Update) (events : List ChildEvent) (s : Schedule) → IsToldTrue u events s → (i : ℕ) → IsNeeded s i → NeededOf (MakesWanted u) (NeedsStep u events) i
needed_there u events s told i (first k f) = first k ((told.firsts k).0 f)
needed_there u events s told i (of_needed k j n r) = of_needed k j (needed_there u events s told j n) (told.needs j k n r)

needed_back : (u : Update) (events : List ChildEvent) (s : Schedule) → IsTold u events s → (i : ℕ) → NeededOf (MakesWanted u) (NeedsStep u events) i → IsNeeded s i
needed_back u events s t i (first k f) = first k ((t.so.firsts k).1 f)
needed_back u events s t i (of_needed k j n r) = need_is_needed u events s t j k (needed_back u events s t j n) r

pub needed_joins : NeededJoins
needed_joins u events s t i = ((λ n. (needed_by_numbers u events i).1 (needed_there u events s t.so i n)), (λ n. needed_back u events s t i ((needed_by_numbers u events i).0 n)))

-- ---- left

pub left_joins : LeftJoins
left_joins u events s t i = (
  λ l. record { needed = (needed_joins u events s t i).0 l.needed; not_settled = λ h. l.not_settled (t.settled i l.needed h); not_failed = λ bad. l.not_failed ((t.so.failed i).1 bad) },
  λ l. (let n : IsNeeded s i = (needed_joins u events s t i).1 l.needed in record { needed = n; not_settled = λ h. l.not_settled (t.so.settled i n h); not_failed = λ bad. l.not_failed ((t.so.failed i).0 bad) }),
)

-- ---- skipped

skipped_there : (u : Update) (events : List ChildEvent) (s : Schedule) → IsTold u events s
    → (i : ℕ) → IsSkipped s u.quit i → SkippedOf (run.IsLeft u events) (LacksSource u events) (run.IsFailed events) (NeedsStep u events) (by_number.QuitsNow u events) i
skipped_there u events s t i (lacks k l h) = lacks k ((left_joins u events s t k).0 l) (t.so.lacks k l.needed h)
skipped_there u events s t i (of_failed k j l r bad) = of_failed k j ((left_joins u events s t k).0 l) (t.so.needs k j l.needed r) ((t.so.failed j).0 bad)
skipped_there u events s t i (of_skipped k j l r h) = of_skipped k j ((left_joins u events s t k).0 l) (t.so.needs k j l.needed r) (skipped_there u events s t j h)
skipped_there u events s t i (ends k l q) = ends k ((left_joins u events s t k).0 l) (record { quit = q.quits; failed = q.failed; bad = (t.so.failed q.failed).0 q.bad })

skipped_back : (u : Update) (events : List ChildEvent) (s : Schedule) → IsTold u events s
    → (i : ℕ) → SkippedOf (run.IsLeft u events) (LacksSource u events) (run.IsFailed events) (NeedsStep u events) (by_number.QuitsNow u events) i → IsSkipped s u.quit i
skipped_back u events s t i (lacks k l h) = let mine = (left_joins u events s t k).1 l in lacks k mine (t.all.lacks k mine h)
skipped_back u events s t i (of_failed k j l r bad) =
    let mine = (left_joins u events s t k).1 l in
    let failed : IsFailed s j = (t.so.failed j).1 bad in
    of_failed k j mine (need_told u events s t k j mine.needed r (λ h. not_failed s j h failed)) failed
skipped_back u events s t i (of_skipped k j l r h) =
    let mine = (left_joins u events s t k).1 l in
    let other = skipped_back u events s t j h in
    of_skipped k j mine (need_told u events s t k j mine.needed r (skipped_left s u.quit j other).not_settled) other
skipped_back u events s t i (ends k l q) = ends k ((left_joins u events s t k).1 l) (record { quits = q.quit; failed = q.failed; bad = (t.so.failed q.failed).1 q.bad })

pub skipped_joins : SkippedJoins
skipped_joins u events s t i =
    ((λ h. (skipped_by_numbers u events i).1 (skipped_there u events s t i h)), (λ h. skipped_back u events s t i ((skipped_by_numbers u events i).0 h)))

-- ---- stuck

-- what is skipped where nothing quits is skipped in the run
skipped_in_run : (u : Update) (events : List ChildEvent) (s : Schedule) → IsTold u events s → (i : ℕ) → IsSkipped s false i → run.Skipped u events i
skipped_in_run u events s t i sk = (skipped_joins u events s t i).0 (skipped_same s false u.quit (λ q. false≢true q.quits) i sk)

pub stuck_joins : StuckJoins
stuck_joins u events s t goes_on i = (
  λ stuck. record {
    left = (left_joins u events s t i).0 stuck.left;
    not_skipped = λ sk. stuck.not_skipped (skipped_same s u.quit false (λ q. goes_on (record { quit = q.quits; failed = q.failed; bad = (t.so.failed q.failed).0 q.bad })) i ((skipped_joins u events s t i).1 sk));
  },
  λ stuck. record { left = (left_joins u events s t i).1 stuck.left; not_skipped = λ sk. stuck.not_skipped (skipped_in_run u events s t i sk) },
)

pub none_stuck_joins : NoneStuckJoins
none_stuck_joins u events s t none i needed =
    let n : IsNeeded s i = (needed_joins u events s t i).1 needed in
    elim (none i n) [
      | inl settled ↦ inl (t.so.settled i n settled)
      | inr (inl bad) ↦ inr (inl ((t.so.failed i).0 bad))
      | inr (inr sk) ↦ inr (inr (skipped_in_run u events s t i sk))
    ]

pub quits_stuck_none : QuitsStuckNone
quits_stuck_none u events s t quits i needed =
    let n : IsNeeded s i = (needed_joins u events s t i).1 needed in
    elim (ended_or_not (state_of s i)) [
      | inl settled ↦ inl (t.so.settled i n settled)
      | inr (inl bad) ↦ inr (inl ((t.so.failed i).0 bad))
      | inr (inr neither) ↦ inr (inr ((skipped_by_numbers u events i).1 (ends i ((left_joins u events s t i).0 (record { needed = n; not_settled = neither.0; not_failed = neither.1 })) quits)))
    ]

-- ---- the cycle

pub cycle_joins : CycleJoins
cycle_joins u events s list t goes_on is = record {
  first = is.first;
  more = is.more;
  starts = record { has = (stuck is.first).0 is.starts.has; lowest = λ k below h. is.starts.lowest k below ((stuck k).1 h) };
  back = is.back;
  leads = leads is.first is.more is.starts.has is.leads;
  once = is.once;
  front = is.front;
  rest = is.rest;
  walk = is.walk;
  list_is = is.list_is;
}
  where
    stuck : (i : ℕ) → IsStuck s i ↔ run.IsStuck u events i
    stuck i = stuck_joins u events s t goes_on i

    one : (i k : ℕ) → IsStuck s i → NextOf (IsStuck s) (Needs s) i k → NextStuck u events i k
    one i k mine n = record {
      has = (stuck_by_numbers u events i k).1 ((stuck k).0 n.has.0, t.so.needs i k mine.left.needed n.has.1);
      lowest = λ j below h.
          (let both = (stuck_by_numbers u events i j).0 h in
          let other : IsStuck s j = (stuck j).1 both.0 in
          n.lowest j below (other, need_told u events s t i j mine.left.needed both.1 other.left.not_settled));
    }

    leads : (i : ℕ) (more : List ℕ) → IsStuck s i → LeadsOn (NextOf (IsStuck s) (Needs s)) (i ∷ more) is.back → LeadsOn (NextStuck u events) (i ∷ more) is.back
    leads i [] mine l = one i is.back mine l
    leads i (k ∷ more) mine l = (one i k mine l.0, leads k more l.0.has.0 l.1)
