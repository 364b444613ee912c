-- Which files are at hand, by what is known of them and by the steps that are settled.
use Rattle.std.specs.Prelude.{◌≡◌, ℕ, true, false, List, Some, None}
use Rattle.b2_plan.specs.declared.step.Step.{Step}
use Rattle.b2_plan.specs.Plans.{step_at}
use Rattle.b2_facts.specs.declared.file_facts.FileFacts.{FileFacts}
use Rattle.b2_facts.specs.declared.file_facts.FileLook.TheVariants as seen
use Rattle.b2_facts.specs.Facts.{Knowledge, file_at}

-- the file is made by this step, which owes a file at each of its outputs
pub record IsOwedBy (steps : List Step) (file : FileFacts) (number : ℕ) : Type 0 where
  pub made : file.maker ≡ Some number
  pub step : Step
  pub at : step_at steps number ≡ Some step
  pub owes : step.notfile ≡ false

-- the file is an output of a step that owes none
pub record IsOwedByNone (steps : List Step) (file : FileFacts) : Type 0 where
  pub number : ℕ
  pub made : file.maker ≡ Some number
  pub step : Step
  pub at : step_at steps number ≡ Some step
  pub notfile : step.notfile ≡ true

-- The file is at hand: it is a source that was seen to stand, or an output of a settled step that owes it.
pub data IsAtHand (steps : List Step) (settled : ℕ → Type 0) (file : FileFacts) : Type 0 where
  source : (stamp : ℕ) → file.maker ≡ None → file.rooted ≡ false → file.seen ≡ seen.Stands stamp → IsAtHand steps settled file
  made : (number : ℕ) → IsOwedBy steps file number → settled number → IsAtHand steps settled file

-- the file with this number is at hand
pub record IsNumberAtHand (steps : List Step) (settled : ℕ → Type 0) (f : Knowledge) (n : ℕ) : Type 0 where
  pub file : FileFacts
  pub file_is : file_at f n ≡ Some file
  pub hand : IsAtHand steps settled file

-- the file with this number is an output of a settled step
pub record IsOfSettled (settled : ℕ → Type 0) (f : Knowledge) (n : ℕ) : Type 0 where
  pub file : FileFacts
  pub file_is : file_at f n ≡ Some file
  pub number : ℕ
  pub made : file.maker ≡ Some number
  pub so : settled number

-- the step makes the file with this number
pub record IsMakerOf (f : Knowledge) (n number : ℕ) : Type 0 where
  pub file : FileFacts
  pub file_is : file_at f n ≡ Some file
  pub made : file.maker ≡ Some number
