use Rattle.std.specs.Prelude.{◌≡◌, ◌≢◌, ℕ, zero, suc, ◌+◌, ◌≤◌, List, [], ◌∷◌, Option, Some, None, slice_get, length, codes, if◌then◌else◌}
use Rattle.std.specs.List.{Contains, list_any}
use Rattle.std.specs.Str.{bytes_eq}
use Rattle.b2_base.specs.Normal.{IsUnder}
use Rattle.b2_host.specs.FileCalls.{log_path}
use Rattle.b2_plan.specs.declared.step.Step.{Step}

-- the step with a number: the first has the number 1
abbrev pub step_at : List Step → ℕ → Option Step
step_at steps zero = None
step_at steps (suc place) = slice_get steps place

-- the step with this number has the path among its outputs
pub record Makes (steps : List Step) (number : ℕ) (step : Step) (path : List ℕ) : Type 0 where
  pub at : step_at steps number ≡ Some step
  pub among : Contains step.outs path

-- the first step, from this number on, that has the path among its outputs
abbrev pub maker_from : ℕ → List Step → List ℕ → Option ℕ
maker_from number [] path = None
maker_from number (step ∷ steps) path = if list_any (bytes_eq path) step.outs then Some number else maker_from (number + 1) steps path

-- the first step that has the path among its outputs
abbrev pub maker_of : List Step → List ℕ → Option ℕ
maker_of = maker_from 1

-- The outputs of the plan are apart: each lies under an output root, no two steps share one, none is a folder of
-- another, and none is the log or below it. Each step has an output, `bin` is a root, and there are at most 65,536 steps.
pub record Apart (steps : List Step) (roots : List (List ℕ)) : Type 0 where
  pub under_root : (i : ℕ) (step : Step) (path : List ℕ) → Makes steps i step path → (root : List ℕ) × Contains roots root × IsUnder path root
  pub one_maker : (i k : ℕ) (step other : Step) (path : List ℕ) → Makes steps i step path → Makes steps k other path → i ≡ k
  pub no_folder : (i k : ℕ) (step other : Step) (path folder : List ℕ) → Makes steps i step path → Makes steps k other folder → IsUnder path folder → ⊥
  pub not_log : (i : ℕ) (step : Step) → Makes steps i step log_path → ⊥
  pub not_below_log : (i : ℕ) (step : Step) (path : List ℕ) → Makes steps i step path → IsUnder path log_path → ⊥
  pub some_out : (i : ℕ) (step : Step) → step_at steps i ≡ Some step → step.outs ≢ []
  pub bin : Contains roots (codes "bin")
  pub few : length steps ≤ 65536
