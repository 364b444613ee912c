use Rattle.std.specs.Prelude.{◌≢◌, ℕ, List, []}
use Rattle.std.specs.List.{AllByRecursion}
use Rattle.b2_plan.specs.Sources.{IsInRoots}
use Rattle.b2_plan.specs.declared.step.Step.{Step}

-- the step has an output, and each of them lies under an output root
pub record IsHoused (roots : List (List ℕ)) (step : Step) : Type 0 where
  pub some_out : step.outs ≢ []
  pub under_root : AllByRecursion (IsInRoots roots) step.outs
