use Rattle.std.proofs.Common.{◌≡◌, ℕ, zero, suc, List, refl, Some, None, slice_get}
use Rattle.b2_plan.specs.declared.step.Step.{Step}
use Rattle.b2_plan.specs.Plans.{step_at}

-- the step with a number stands one place before it
pub place_of : (steps : List Step) (number : ℕ) (step : Step) → step_at steps number ≡ Some step → (place : ℕ) × (number ≡ suc place) × (slice_get steps place ≡ Some step)
place_of steps zero step at = absurd (let e : None ≡ Some step = at in cc)
place_of steps (suc place) step at = (place, refl, at)

-- one number has one step
pub one_step : (steps : List Step) (i : ℕ) (step other : Step) → step_at steps i ≡ Some step → step_at steps i ≡ Some other → step ≡ other
one_step steps i step other at at_other = let e : step_at steps i ≡ Some step = at in let f : step_at steps i ≡ Some other = at_other in cc
