-- What is true of the definition.
use Rattle.std.specs.Prelude.{◌≡◌, ◌≢◌, ◌↔◌}
use Rattle.b2_host.specs.Disks.{Disk, IsConsistent}
use Rattle.b2_evaluator.specs.Answers.{Answers}
use Rattle.jam_meaning.specs.Settings.{IsSetting}
use Rattle.jam_effects.specs.declared.fault.EvalFault.{EvalFault}
use Rattle.b2_own_text.specs.Questions.{EndsWith, with_fault}
use Rattle.b2_own_text.specs.DiskViews.{setting_of}
use Rattle.b2_own_text.specs.declared.question.Question.{Question}

-- the setting by which answers are told says of files and patterns what is so
abbrev pub IsRightlySeen : Type 0
IsRightlySeen = (disk : Disk) → IsConsistent disk → IsSetting (setting_of disk) × ((setting_of disk).sight.folder ≡ disk.now)

-- the question of which a fault is given ends with this fault, and every other one ends as before
pub record OneFaultIsGiven : Type 0 where
  pub own : (question : Question) (fault : EvalFault) (answers : Answers EvalFault) → EndsWith (with_fault question fault answers) question fault
  pub others : (question other : Question) (fault found : EvalFault) (answers : Answers EvalFault) → other ≢ question
      → EndsWith (with_fault question fault answers) other found ↔ EndsWith answers other found
