-- What one call enters.
use Rattle.std.specs.Prelude.{◌≡◌, ℕ, List}
use Rattle.b2_plan.specs.declared.step.Step.{Step}
use Rattle.b2_facts.specs.declared.file_facts.FileFacts.{FileFacts}
use Rattle.b2_facts.specs.Facts.{Knowledge, with_path, IsBlank, IsPlanned}

-- A path was entered, with what the plan tells of it.
pub record EntersPath (steps : List Step) (roots : List (List ℕ)) (path : List ℕ) (f g : Knowledge) : Type 0 where
  pub file : FileFacts
  pub blank : IsBlank file
  pub planned : IsPlanned steps roots path file
  pub same : g ≡ with_path f path file
