-- What the files of a drill come to.
use Rattle.std.specs.Prelude.{◌≡◌, ℕ, ◌≤◌, [], Option, Some, Ok, codes}
use Rattle.b2_drill.specs.Drills.{jamroot}
use Rattle.b2_drill_plan.specs.Plan.{IsDrillPlan}
use Rattle.b2_prepare.specs.Meaning.{Means}
use Rattle.b2_generate.specs.Planning.{Planned}
use Rattle.b2_host.specs.Disks.{Disk, bytes_at}
use Rattle.b2_top.specs.RefusalCauses.{IsPatternRefused}
use Rattle.b2_top.specs.declared.answer.Answer.{Answer}
use Rattle.jam_journal.specs.Tables.{Text}

-- the project file of so many targets stands there
abbrev pub HasJamroot : ℕ → Disk → Type 0
HasJamroot n disk = bytes_at disk.now (codes "Jamroot") ≡ Some (jamroot n)

-- The files come to the plan of so many targets, whatever pattern is refused.
pub record ComesToDrill (n : ℕ) (disk : Disk) : Type 0 where
  pub planned : Planned
  pub is_plan : IsDrillPlan n planned
  pub means : (refused : Option (ℕ × Text)) → Means disk refused [] [] (Ok planned)

abbrev pub DrillMeans : Type 0
DrillMeans = (n : ℕ) (disk : Disk) → n ≤ 2000 → HasJamroot n disk → ComesToDrill n disk

abbrev pub NoPatternIsRefused : Type 0
NoPatternIsRefused = (n : ℕ) (disk : Disk) (answer : Answer) → n ≤ 2000 → HasJamroot n disk → IsPatternRefused disk [] answer → ⊥
