use Rattle.std.specs.Prelude.{◌≡◌, ℕ, true, false, List, Option, Some, None}
use Rattle.b2_host.specs.Disks.{File, Folder}
use Rattle.b2_plan.specs.declared.step.Step.{Step}
use Rattle.b2_plan.specs.Closures.{Value}
use Rattle.b2_log.specs.declared.line.Record.{Record}
use Rattle.b2_log.specs.declared.line.Digests.{Digests}
use Rattle.b2_log.specs.declared.line.ScanLine.{ScanLine}
use Rattle.b2_host.specs.FileCalls.{stamp_at}
use Rattle.b2_runs.specs.Staleness.{Update, AreStamped, AreDigested, paths_with_bytes}

-- where judging is by digests a record has them: those of the step's outputs and of its members that have bytes
abbrev pub HasDigestsOf : Update → Folder → Step → List (List ℕ × Value) → Option Digests → Type 0
HasDigestsOf u now step members None = u.by_digest ≡ false
HasDigestsOf u now step members (Some d) = (u.by_digest ≡ true) × AreDigested u.digest now step.outs d.outs × AreDigested u.digest now (paths_with_bytes members) d.ins

-- The record is the one that an update appends of a step with this closure, by the files as they stand: it has the step's
-- text, its outputs and its members that have bytes, with the stamps of the files, and with digests where judging is by them.
pub record IsRecordOf (u : Update) (now : List ℕ → Option File) (step : Step) (members : List (List ℕ × Value)) (r : Record) : Type 0 where
  pub text : r.text ≡ step.text
  pub outs : AreStamped now step.outs r.outs
  pub ins : AreStamped now (paths_with_bytes members) r.ins
  pub digests : HasDigestsOf u now step members r.digests

-- The line is the scan line of a file with these bytes: it has its path, the stamp of the file as it stands, and the includes
-- of these bytes.
pub record IsScanOf (u : Update) (now : List ℕ → Option File) (path bytes : List ℕ) (s : ScanLine) : Type 0 where
  pub path_is : s.path ≡ path
  pub stamp : stamp_at now path ≡ Some s.stamp
  pub includes : s.includes ≡ u.build.inc path bytes
