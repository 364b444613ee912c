-- Laws of loads and plans over files that differ under the output roots alone.
use Rattle.std.specs.Prelude.{◌≡◌, ℕ, List, Option, Ok}
use Rattle.b2_host.specs.Disks.{Folder, Disk, IsConsistent}
use Rattle.b2_plan.specs.Plans.{Apart}
use Rattle.b2_declared.specs.declared.whole.Declared.{Declared}
use Rattle.b2_generate.specs.Planning.{Planned}
use Rattle.b2_prepare.specs.Meaning.{Means}
use Rattle.b2_source_laws.specs.NextPlans.{SourcesStay}
use Rattle.jam_journal.specs.Tables.{Text}
use Rattle.jam_meaning.specs.Settings.{Reading, Setting}
use Rattle.jam_natives.specs.Keeping.{Kept}
use Rattle.jam_natives.specs.Rows.{jam_meaning}
use Rattle.b2_project_walk.specs.Walks.{Walk}
use Rattle.b2_project.specs.Loads.{loaded, Loads}
use Rattle.jam_source_laws.specs.Sources.{over, ShowSame}

-- a load that ends well ends so over a setting that shows the same outside the roots with which it ends
abbrev pub LoadsBySources : Type 0
LoadsBySources =
    (setting : Setting Kept) (folder : Folder) (names : Text → List Text) (reading : Text → Reading) (left : ℕ) (words : List Text) (w : Walk) (found : Declared)
    → setting.natives ≡ jam_meaning → ShowSame w.state.worlds.now.roots setting (over setting folder names reading)
    → Loads setting left words (loaded w found) → Loads (over setting folder names reading) left words (loaded w found)

-- files that have the same bytes outside the output roots of a plan come to that plan, with the same lines of ECHO
abbrev pub MeansBySources : Type 0
MeansBySources =
    (disk other : Disk) (refused : Option (ℕ × Text)) (words lines : List Text) (plan : Planned) → IsConsistent disk → IsConsistent other
    → SourcesStay plan.roots disk.now other.now
    → Means disk refused words lines (Ok plan) → Means other refused words lines (Ok plan)

-- the outputs of the plan that files and words come to are apart
abbrev pub MeaningIsApart : Type 0
MeaningIsApart =
    (disk : Disk) (refused : Option (ℕ × Text)) (words lines : List Text) (plan : Planned)
    → Means disk refused words lines (Ok plan) → Apart plan.steps plan.roots
