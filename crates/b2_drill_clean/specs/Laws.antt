-- What the clean build of a drill is.
use Rattle.std.specs.Prelude.{◌≡◌, ℕ, ◌<◌, ◌≤◌, false, List, Some}
use Rattle.b2_drill.specs.Drills.{source_name}
use Rattle.b2_drill_clean.specs.Steps.{steps, outputs}
use Rattle.b2_host.specs.Disks.{bytes_at}
use Rattle.b2_host.specs.declared.children.ChildEvent.{ChildEvent}
use Rattle.b2_runs.specs.CompleteLaws.{CleanIsDefined}
use Rattle.b2_runs.specs.ReadLaws.{NoneLarge}
use Rattle.b2_runs.specs.Staleness.{Update}
use Rattle.jam_scan.specs.Scans.{is_scanned, scan_of}
use Rattle.jam_scope.specs.Texts.{first_roots}

-- The update is one of the plan of so many targets, in which C and C++ files are scanned.
pub record IsOfDrill (n : ℕ) (u : Update) : Type 0 where
  pub few : n ≤ 2000
  pub steps_are : u.build.steps ≡ steps n
  pub wanted_are : u.build.wanted ≡ outputs n
  pub roots_are : u.build.roots ≡ first_roots
  pub includes_are : u.build.inc ≡ scan_of
  pub scanned_are : u.scanned ≡ is_scanned

abbrev pub DrillIsDefined : Type 0
DrillIsDefined =
    (n : ℕ) (u : Update) (events : List ChildEvent) → IsOfDrill n u
    → ((i : ℕ) → i < n → (bytes : List ℕ) × (bytes_at u.build.folder (source_name i) ≡ Some bytes)) → CleanIsDefined u events

abbrev pub DrillHasNoneLarge : Type 0
DrillHasNoneLarge = (n : ℕ) (u : Update) (events : List ChildEvent) → IsOfDrill n u → u.by_digest ≡ false → NoneLarge u events
