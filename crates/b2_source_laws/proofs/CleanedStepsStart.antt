-- Where each step of an update is to run by the first or the second point of staleness, none is fresh, and each needed one starts.
use Rattle.std.proofs.Common.{◌≡◌, ◌⊎◌, ℕ, true, false, List, [], ◌∷◌, inl, inr, subst, Some}
use Rattle.std.specs.List.{Contains}
use Rattle.std.proofs.lemmas.Bool.{cases_eq}
use Rattle.b2_host.specs.declared.children.ChildEvent.{ChildEvent}
use Rattle.b2_host.specs.declared.children.ChildEvent.TheVariants.{Start, Done}
use Rattle.b2_plan.specs.declared.step.Step.{Step}
use Rattle.b2_plan.specs.Closures.{Value}
use Rattle.b2_plan.specs.Plans.{Apart, Makes, step_at}
use Rattle.b2_runs.specs.Outcomes.{IsSettledStep, IsFailed, IsLeft}
use Rattle.b2_runs.specs.Runs.{Settled, Settled.source, Settled.done_well, Settled.fresh, Needed, Needed.wanted, Needed.member, IsRun}
use Rattle.b2_runs.specs.Staleness.{Update, IsStale, StalePoint}
use Rattle.b2_runs.specs.Staleness.StalePoint.{runs_all, is_always, is_notfile, lacks}
use Rattle.b2_runs.proofs.FirstElementOrLater.{Contains_here, Contains_there, Contains_cases, Contains_nil}
use Rattle.b2_runs.proofs.RunGoesOn.{done_was_started}
use Rattle.b2_runs.proofs.StaleByPoint.{stale_by_point}
use Rattle.b2_explain.specs.Laws.{IsFirstPoint}
use Rattle.b2_explain.specs.Laws.IsFirstPoint.{runs_all as all_run, is_always as always, is_notfile as no_file, lacks as lacks_out}

-- ---- events

one_step : (i k : ℕ) → Start i ≡ Start k → i ≡ k
one_step i k e = cc

-- a step was started, or it was not
pub started_or_not : (events : List ChildEvent) (i : ℕ) → Contains events (Start i) ⊎ (Contains events (Start i) → ⊥)
started_or_not [] i = inr (λ c. Contains_nil (Start i) c)
started_or_not (Start k ∷ events) i = go (cases_eq k i) (started_or_not events i)
  where
    go : (k ≡ i) ⊎ (k ≡ i → ⊥) → Contains events (Start i) ⊎ (Contains events (Start i) → ⊥) → Contains (Start k ∷ events) (Start i) ⊎ (Contains (Start k ∷ events) (Start i) → ⊥)
    go (inl same) later = inl (subst (λ n. Contains (Start k ∷ events) (Start n)) same (Contains_here (Start k) events))
    go (inr differ) (inl c) = inl (Contains_there (Start k) (Start i) events c)
    go (inr differ) (inr none) = inr (λ c. elim (Contains_cases (Start k) (Start i) events c) [ inl e ↦ differ (one_step k i e) | inr later ↦ none later ])
started_or_not (Done k well ∷ events) i = go (started_or_not events i)
  where
    go : Contains events (Start i) ⊎ (Contains events (Start i) → ⊥) → Contains (Done k well ∷ events) (Start i) ⊎ (Contains (Done k well ∷ events) (Start i) → ⊥)
    go (inl c) = inl (Contains_there (Done k well) (Start i) events c)
    go (inr none) = inr (λ c. elim (Contains_cases (Done k well) (Start i) events c) [ inl e ↦ (let clash : Done k well ≡ Start i = e in cc) | inr later ↦ none later ])

-- ---- steps

stale_point : (u : Update) (events : List ChildEvent) (step : Step) (members : List (List ℕ × Value)) → IsFirstPoint u step → StalePoint u events step members
stale_point u events step members (all_run e) = runs_all e
stale_point u events step members (always e) = is_always e
stale_point u events step members (no_file e) = is_notfile e
stale_point u events step members (lacks_out out c none) = lacks out c none

-- a needed step makes something
needed_makes : (u : Update) (events : List ChildEvent) (i : ℕ) → Needed u events i → (step : Step) × (path : List ℕ) × Makes u.build.steps i step path
needed_makes u events i (wanted k step path c makes) = (step, path, makes)
needed_makes u events i (member k step j other path needed at known makes) = (step, path, makes)

module _ (u : Update) (apart : Apart u.build.steps u.build.roots) (points : (i : ℕ) (step : Step) → step_at u.build.steps i ≡ Some step → IsFirstPoint u step) where
  pub all_stale : (events : List ChildEvent) (i : ℕ) (step : Step) (members : List (List ℕ × Value)) → step_at u.build.steps i ≡ Some step → IsStale u events step members
  all_stale events i step members at = stale_by_point u events step members (stale_point u events step members (points i step at))

  -- an output of a step is settled by its own work alone
  pub settled_by_work : (events : List ChildEvent) (i : ℕ) (step : Step) (path : List ℕ) → Makes u.build.steps i step path → Settled u events path → Contains events (Done i true)
  settled_by_work events i step path makes (source p bytes s) = absurd (s.outside (apart.under_root i step p makes))
  settled_by_work events i step path makes (done_well k other p made done) = subst (λ n. Contains events (Done n true)) (apart.one_maker k i other step p made makes) done
  settled_by_work events i step path makes (fresh k other p members made not_started closure inside is_fresh) = absurd (all_stale events k other members made.at is_fresh)

  module _ (events : List ChildEvent) (run : IsRun u events) (i : ℕ) (needed : Needed u events i) where
    settled_started : IsSettledStep u events i → Contains events (Start i)
    settled_started settled =
        let (step, path, makes) = needed_makes u events i needed in
        done_was_started u events i true run.each (settled_by_work events i step path makes (settled step path makes))

    failed_started : IsFailed events i → Contains events (Start i)
    failed_started failed = done_was_started u events i false run.each failed

    -- at the end of a run a needed step that is settled or failed was started
    pub starts_or : {X : Type 0} → IsSettledStep u events i ⊎ IsFailed events i ⊎ X → Contains events (Start i) ⊎ X
    starts_or (inl settled) = inl (settled_started settled)
    starts_or (inr (inl failed)) = inl (failed_started failed)
    starts_or (inr (inr x)) = inr x

    -- and one that was not started is neither
    pub starts_or_left : Contains events (Start i) ⊎ IsLeft u events i
    starts_or_left = go (started_or_not events i)
      where
        go : Contains events (Start i) ⊎ (Contains events (Start i) → ⊥) → Contains events (Start i) ⊎ IsLeft u events i
        go (inl started) = inl started
        go (inr not_started) = inr (record { needed = needed; not_settled = λ settled. not_started (settled_started settled); not_failed = λ failed. not_started (failed_started failed) })
