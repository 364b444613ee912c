-- The numbers that are needed are those of steps; at rest each needed step was judged that can be.
use Rattle.std.proofs.Common.{◌≡◌, inl, inr, ℕ, List, Option, Some, sym, subst, ◌∙◌, arith}
use Rattle.b2_plan.specs.declared.step.Step.{Step}
use Rattle.b2_plan.specs.Plans.{step_at}
use Rattle.b2_runs.specs.Numbers.{NeededOf.first, NeededOf.of_needed}
use Rattle.b2_runs.proofs.NumberHasOneStep.{place_of}
use Rattle.b2_sched.specs.declared.state.State.{State}
use Rattle.b2_sched.specs.declared.state.State.TheVariants as states
use Rattle.b2_sched.specs.Schedules.{Schedule, state_of, IsUnjudged, IsSettled, IsStep, Needs, IsFirst, IsNeeded}
use Rattle.b2_facts.specs.Facts.{Knowledge, IsAbout}
use Rattle.b2_reach.proofs.FoundMakerMakesPath.{maker_makes}
use Rattle.b2_reach.proofs.MakersAreSteps.{maker_step}
use Rattle.b2_board.specs.declared.work.Work.{Work}
use Rattle.b2_board.specs.Works.{HasOutputOf}
use Rattle.b2_board.specs.Boards.{IsBoardOf}
use Rattle.b2_board.specs.Laws.{BoardIsJudged}

pub not_both : (x a b : State) → x ≡ a → x ≡ b → (a ≡ b → ⊥) → ⊥
not_both x a b e f other = other (sym e ∙ f)

pub settled_not_unjudged : (s : Schedule) (i : ℕ) → IsSettled s i → IsUnjudged s i → ⊥
settled_not_unjudged s i settled unjudged = not_both (state_of s i) states.Settled states.Unjudged settled unjudged (λ g. let h : states.Settled ≡ states.Unjudged = g in cc)

pub not_zero : (s : Schedule) (i : ℕ) → IsStep s i → i ≡ 0 → ⊥
not_zero s i step e = let h = step.some in omega arith

-- the number of a step is not 0
number_some : (steps : List Step) (i : ℕ) (step : Step) → step_at steps i ≡ Some step → i ≡ 0 → ⊥
number_some steps i step at e = let (place, is, at_place) = place_of steps i step at in omega (arith, is, e)

module _ (steps : List Step) (wanted roots : List (List ℕ)) (but : ℕ) (f : Knowledge) (s : Schedule) (works : List (Option Work)) (about : IsAbout steps roots f) (is : IsBoardOf steps wanted but f s works) where
  first_not_zero : (i : ℕ) → IsFirst s i → i ≡ 0 → ⊥
  first_not_zero i asked =
      let (path, among, made) = (is.first i).0 asked in
      let (step, makes) = maker_makes steps path i made in
      number_some steps i step makes.at

  output_not_zero : (members : List ℕ) (k : ℕ) → HasOutputOf f members k → k ≡ 0 → ⊥
  output_not_zero members k output =
      let (step, at) = maker_step steps roots f output.number output.file k about output.file_is output.made in
      number_some steps k step at

  -- what is needed is a step
  pub needed_not_zero : (i : ℕ) → IsNeeded s i → i ≡ 0 → ⊥
  needed_not_zero i (first k asked) = first_not_zero k asked
  needed_not_zero i (of_needed k j needed need) = elim (is.needs j k need) [
    | inl e ↦ first_not_zero k (subst (λ m. Needs s m k) e need)
    | inr (found, asker) ↦ output_not_zero found.work.reach.members k found.reads
  ]

-- at rest each needed step was judged that can be
pub board_is_judged : BoardIsJudged
board_is_judged plan f b is i needed cannot lacks settled unjudged =
    elim (is.waits i (λ e. settled_not_unjudged b.sched 0 is.request (subst (IsUnjudged b.sched) e unjudged)) needed unjudged cannot) [
      | inl l ↦ lacks l
      | inr w ↦ w.not_settled (settled w.need w.needs)
    ]
