-- What the request of a drill comes to.
use Rattle.std.specs.Prelude.{◌≡◌, ℕ, suc, ◌<◌, ◌≤◌, List, [], ◌∷◌, length, Ok}
use Rattle.b2_drill_clean.specs.Steps.{drill_step, steps}
use Rattle.b2_drill_plan.specs.Plan.{IsDrillPlan, IsDrill}
use Rattle.b2_generate.specs.LoadedProjects.{LoadedProject}
use Rattle.b2_generate.specs.Planning.{Planned, Plans}
use Rattle.b2_virtual.specs.Joining.{joined}
use Rattle.b2_virtual.specs.Clashes.{Fits}

pub record StepsJoin : Type 0 where
  pub again : (i m : ℕ) → i < m → m ≤ 2000 → joined (steps m) (drill_step i) ≡ steps m
  pub anew : (i : ℕ) → i < 2000 → joined (steps i) (drill_step i) ≡ steps (suc i)
  pub fits : (i : ℕ) → i < 2000 → Fits (steps i) (drill_step i)

-- the request of one empty set and no word
abbrev pub DrillPlans : Type 0 → Type 0
DrillPlans E = (l : LoadedProject E) (lines : List ℕ) → IsDrill lines l → (planned : Planned) × IsDrillPlan (length lines) planned × Plans l ([] ∷ []) [] (Ok planned)
