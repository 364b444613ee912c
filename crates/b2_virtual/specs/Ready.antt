-- What a builder keeps.
use Rattle.std.specs.Prelude.{◌≡◌, ℕ, ◌≤◌, List, ◌⊎◌, Some, length}
use Rattle.std.specs.FinMap as map
use Rattle.b2_base.specs.Normal.{IsNormal, IsUnder}
use Rattle.b2_plan.specs.declared.step.Step.{Step}
use Rattle.b2_plan.specs.Plans.{Makes}
use Rattle.b2_host.specs.FileCalls.{log_path}
use Rattle.b2_virtual.specs.Joining.{AreDistinct}
use Rattle.b2_virtual.specs.Spots.{Numbers, spot}

-- The map has the spot of each output, with the number of its step, and nothing else. No step stands twice, and the outputs are apart.
pub record IsReady (steps : List Step) (numbers : Numbers) : Type 0 where
  pub few : length steps ≤ 65536
  pub once : AreDistinct steps
  pub normal : (i : ℕ) (step : Step) (path : List ℕ) → Makes steps i step path → IsNormal path
  pub has : (i : ℕ) (step : Step) (path : List ℕ) → Makes steps i step path → map.get numbers (spot path) ≡ Some i
  pub only : (key : List ℕ) (i : ℕ) → map.get numbers key ≡ Some i → (step : Step) × (path : List ℕ) × Makes steps i step path × (key ≡ spot path)
  pub no_folder : (i k : ℕ) (step other : Step) (path folder : List ℕ) → Makes steps i step path → Makes steps k other folder → IsUnder path folder → ⊥
  pub no_log : (i : ℕ) (step : Step) (path : List ℕ) → Makes steps i step path → (path ≡ log_path) ⊎ IsUnder path log_path → ⊥
