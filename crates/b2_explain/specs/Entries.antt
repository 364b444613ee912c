-- The update that causes are told of: it judges by stamps, and nothing has happened in it.
use Rattle.std.specs.Prelude.{◌≡◌, Bool, false, List, [], ℕ, if◌then◌else◌}
use Rattle.std.proofs.Common.{ap}
use Rattle.b2_host.specs.Disks.{Folder, Past}
use Rattle.b2_plan.specs.declared.plan.Plan.{Plan}
use Rattle.b2_log.specs.declared.line.LogLine.{LogLine}
use Rattle.jam_scan.specs.Scans.{is_scanned, scan_of}
use Rattle.jam_scan.specs.IncludeLines.{includes_of}
use Rattle.jam_scan.specs.Places.{places}
use Rattle.b2_runs.specs.Logs.{RecordsTrue, ScansTrue}
use Rattle.b2_runs.specs.Staleness.{Update, making}
use Rattle.b2_facts.specs.Digests.{digest_of}

-- what a text makes of named inputs, at an output
abbrev pub Made : Type 0
Made = List ℕ → List (List ℕ × List ℕ) → List ℕ → List ℕ

-- the update of a plan with 64 jobs that begins with these files and these lines of the log; all that is needed runs, or not
abbrev pub entry_of : Plan → Made → Bool → Folder → List LogLine → Update
entry_of plan made all folder log = record {
  build = record { steps = plan.steps; wanted = plan.wanted; roots = plan.roots; folder = folder; inc = scan_of; looks = places; made = made };
  log = log;
  scanned = is_scanned;
  unscanned = λ path bytes none. ap (λ scans. if scans then includes_of bytes else []) none;
  digest = digest_of;
  by_digest = false;
  all = all;
  quit = false;
  jobs = 64;
}

-- What is used of the lines of the log is true of what stood: the scan lines, and the records unless all that is needed runs.
pub record AreTrueLines (u : Update) (past : List Past) : Type 0 where
  pub records : u.all ≡ false → RecordsTrue (making u) past u.log
  pub scans : ScansTrue (making u) past u.log
