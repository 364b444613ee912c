-- The plan of a drill.
use Rattle.std.specs.Prelude.{◌≡◌, ℕ, ◌<◌, ◌≤◌, List, length, Ok}
use Rattle.b2_drill_clean.specs.Steps.{steps, outputs}
use Rattle.b2_drill_load.specs.Texts.{drill_job, drill_answer}
use Rattle.b2_drill_project.specs.Project.{drill_project}
use Rattle.b2_generate.specs.LoadedProjects.{LoadedProject}
use Rattle.b2_generate.specs.Planning.{Planned}
use Rattle.jam_scope.specs.Texts.{first_roots}

-- This is the plan of so many targets. Its table is left open.
pub record IsDrillPlan (n : ℕ) (planned : Planned) : Type 0 where
  pub steps_are : planned.steps ≡ steps n
  pub wanted_are : planned.wanted ≡ outputs n
  pub roots_are : planned.roots ≡ first_roots

-- The project is that of a drill, and its own text answers for each of its steps.
pub record IsDrill {E : Type 0} (lines : List ℕ) (l : LoadedProject E) : Type 0 where
  pub few : length lines ≤ 2000
  pub declared_is : l.declared ≡ drill_project lines
  pub roots_are : l.roots ≡ first_roots
  pub answers : (i line : ℕ) → i < length lines → l.answers.step_text (drill_job i line) ≡ Ok (drill_answer i)
