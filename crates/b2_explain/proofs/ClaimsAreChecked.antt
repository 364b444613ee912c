-- A claim is checked against a survey that is whole.
use Rattle.std.proofs.Common.{◌≡◌, ◌↔◌, ℕ, ◌<◌, Bool, true, false, not, List, length, Option, Some, None, IsTrue, sym, ap, subst, ◌∙◌}
use Rattle.b2_plan.specs.declared.plan.Plan.{Plan}
use Rattle.b2_plan.specs.declared.step.Step.{Step}
use Rattle.b2_plan.specs.Plans.{step_at}
use Rattle.b2_log.specs.declared.line.Record.{Record}
use Rattle.b2_log.specs.Finding.{find_record}
use Rattle.b2_sched.specs.Schedules.{IsStep, IsNeeded, CanLook}
use Rattle.b2_facts.specs.Facts.{Knowledge, IsAbout}
use Rattle.b2_facts.proofs.ListsAtPlaces.{some_is, none_some}
use Rattle.b2_reach.specs.Reaches.{IsMissingMember}
use Rattle.b2_explain.specs.declared.cause.Cause.{Cause}
use Rattle.b2_explain.specs.declared.cause.Why.{Why}
use Rattle.b2_explain.specs.declared.survey.Judged.{Judged}
use Rattle.b2_explain.specs.declared.survey.Survey.{Survey}
use Rattle.b2_explain.specs.Surveys.{AreSurveyed, judged_at}
use Rattle.b2_explain.specs.Found.{IsNeededStep, IsOpenStep}
use Rattle.b2_explain.specs.Checks.{AreParts, IsClosedCause, IsCheckedOpen, IsCheckedBy, IsCheckedCause, IsCheckedWhy}
use Rattle.b2_explain.proofs.StepsAreExplained.{is_step, within_judged, are_parts}

-- ---- the cause of a needed step

module _ (plan : Plan) (all : Bool) (y : Survey) (step : Step) (number : ℕ) (of : IsNeededStep plan all y step number) where
  number_step : IsStep y.board.sched number
  number_step = is_step plan all y of.surveyed number step of.at

  pub needed_within : number < length y.judged.items
  needed_within = within_judged plan all y of.surveyed number number_step

  pub is_open : judged_at y number ≡ None → IsOpenStep plan all y number
  is_open unjudged = record { step = step; of_step = of; unjudged = unjudged }

  pub open_told : (cause : Cause) (r : Bool) → judged_at y number ≡ None → IsTrue r ↔ IsCheckedOpen y number cause → IsTrue r ↔ IsCheckedCause all y step number cause
  open_told cause r unjudged is = subst (λ (o : Option Judged). IsTrue r ↔ IsCheckedBy all y step number o cause) (sym unjudged) is

  module _ (judged : Judged) (at_judged : judged_at y number ≡ Some judged) (last : Option Record) (found : find_record step.outs y.sights.journal ≡ last) where
    pub parts : AreParts y.sights.facts step judged.numbers last
    parts = subst (AreParts y.sights.facts step judged.numbers) found (are_parts plan all y of.surveyed number judged at_judged number_step step of.at of.about.sizes)

    pub closed_told : (cause : Cause) (r : Bool) → IsTrue r ↔ IsClosedCause all y.sights.facts step judged.numbers last cause → IsTrue r ↔ IsCheckedCause all y step number cause
    closed_told cause r is = subst (λ (o : Option Judged). IsTrue r ↔ IsCheckedBy all y step number o cause) (sym at_judged)
        (subst (λ (o : Option Record). IsTrue r ↔ IsClosedCause all y.sights.facts step judged.numbers o cause) (sym found) is)

-- a step that lacks a file does not wait for one
pub lacks_one : (f : Knowledge) (members : List ℕ) (lacks : Bool) (A : Type 0) → lacks ≡ true → IsTrue lacks ↔ ((n : ℕ) × IsMissingMember f members n) → IsTrue (not lacks) ↔ (((n : ℕ) → IsMissingMember f members n → ⊥) × A)
lacks_one f members lacks A on told = (λ t. absurd (let e : false ≡ true = sym (ap not on) ∙ t in cc), λ both. (let (n, missing) = told.0 on in absurd (both.0 n missing)))

-- ---- a claim

module _ (plan : Plan) (all : Bool) (y : Survey) (why : Why) where
  -- there is no such step
  pub no_step : step_at plan.steps why.step ≡ None → IsTrue false ↔ IsCheckedWhy plan all y why
  no_step none = (λ t. absurd (let e : false ≡ true = t in cc), λ is. absurd (none_some is.step (sym none ∙ is.at)))

  -- the step is not needed
  pub not_needed : (needed : Bool) → needed ≡ false → IsTrue needed ↔ IsNeeded y.board.sched why.step → IsTrue false ↔ IsCheckedWhy plan all y why
  not_needed needed off told = (λ t. absurd (let e : false ≡ true = t in cc), λ is. absurd (let e : true ≡ false = sym (told.1 is.needed) ∙ off in cc))

  pub is_needed : (step : Step) → AreSurveyed plan all 0 y → IsAbout plan.steps plan.roots y.sights.facts → ((i : ℕ) → CanLook y.board.sched i → ⊥) → step_at plan.steps why.step ≡ Some step → IsNeeded y.board.sched why.step → IsNeededStep plan all y step why.step
  is_needed step surveyed about whole at needed = record { surveyed = surveyed; about = about; whole = whole; at = at; needed = needed }

  -- the step is needed, and its cause is the one that is claimed or is not
  pub why_told : (step : Step) (r : Bool) → step_at plan.steps why.step ≡ Some step → IsNeeded y.board.sched why.step → IsTrue r ↔ IsCheckedCause all y step why.step why.cause → IsTrue r ↔ IsCheckedWhy plan all y why
  why_told step r at needed is = (
    λ t. record { step = step; at = at; needed = needed; cause = is.0 t },
    λ told. is.1 (subst (λ (s : Step). IsCheckedCause all y s why.step why.cause) (some_is told.step step (sym told.at ∙ at)) told.cause),
  )
