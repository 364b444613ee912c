use Rattle.std.proofs.Common.{◌≡◌, ℕ, List, subst, Some}
use Rattle.b2_plan.specs.declared.step.Step.{Step}
use Rattle.b2_plan.specs.Plans.{Apart, Makes, step_at}
use Rattle.b2_plan.specs.Sources.{Build, IsSource}
use Rattle.b2_runs.proofs.NumberHasOneStep.{one_step}

-- no source is an output
pub source_not_made : (b : Build) → Apart b.steps b.roots → (path bytes : List ℕ) → IsSource b path bytes → (i : ℕ) (step : Step) → Makes b.steps i step path → ⊥
source_not_made b apart path bytes s i step makes = s.outside (apart.under_root i step path makes)

-- a path is made by one step
pub maker_is_one : (b : Build) → Apart b.steps b.roots → (i k : ℕ) (step other : Step) (path : List ℕ) → Makes b.steps i step path → Makes b.steps k other path → step ≡ other
maker_is_one b apart i k step other path p q =
    one_step b.steps k step other (subst (λ n. step_at b.steps n ≡ Some step) (apart.one_maker i k step other path p q) p.at) q.at
