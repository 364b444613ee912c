use Rattle.std.specs.Prelude.{ℕ, true, false, List, [], ◌∷◌, Option, Some, None, codes, if◌then◌else◌}
use Rattle.std.specs.Str.{bytes_eq}
use Rattle.b2_host.specs.Disks.{File, Folder}
use Rattle.b2_plan.specs.Plans.{Apart}
use Rattle.b2_plan.specs.Sources.{Build, Include}
use Rattle.b2_plan.specs.Closures.{Value, IsClosure}
use Rattle.b2_plan.specs.Cleans.{Clean}
use Rattle.b2_log.specs.declared.line.Record.{Record}
use Rattle.b2_log.specs.declared.line.LogLine.{LogLine}
use Rattle.b2_log.specs.declared.line.LogLine.TheVariants as lines
use Rattle.b2_runs.specs.Staleness.{Update, IsFresh, IsStale}
use Rattle.b2_runs.specs.Runs.{IsRun}
use Rattle.b2_run_examples.specs.Examples.{in_path, out_path, plan_from, copy_step, copied}

-- Sources that include headers: one that is lost from the first place where it is looked for, and two that include one another.

-- the plan that copies `in` to `bin/out`, with these files, includes and places
abbrev pub including : Folder → (List ℕ → List ℕ → List Include) → (List (List ℕ) → List ℕ → Include → List (List ℕ)) → Build
including folder inc looks = record (plan_from (in_path ∷ [])) { folder = folder; inc = inc; looks = looks }

-- an update of it with this log, in which all files are scanned
abbrev pub update_with : Folder → (List ℕ → List ℕ → List Include) → (List (List ℕ) → List ℕ → Include → List (List ℕ)) → List LogLine → Update
update_with folder inc looks log = record {
  build = including folder inc looks;
  log = log;
  scanned = λ path. true;
  unscanned = λ path bytes none. λ i. if none i then inc path bytes else [];
  digest = λ bytes. bytes;
  by_digest = false;
  all = false;
  quit = false;
  jobs = 1;
}

abbrev pub file_with : ℕ → ℕ → Option File
file_with stamp byte = Some (record { stamp = stamp; bytes = byte ∷ [] })

-- ---- lost from the first place

abbrev pub first_place : List ℕ
first_place = codes "x/h"

abbrev pub second_place : List ℕ
second_place = codes "y/h"

-- `in` includes a header, which is looked for in two places
abbrev pub in_includes : List ℕ → List ℕ → List Include
in_includes path bytes = if bytes_eq path in_path then (codes "h", true) ∷ [] else []

abbrev pub two_places : List (List ℕ) → List ℕ → Include → List (List ℕ)
two_places dirs path include = first_place ∷ second_place ∷ []

-- the header stands in both, and the output was made after it
abbrev pub in_both : Folder
in_both path = if bytes_eq path in_path then file_with 1 7 else (if bytes_eq path first_place then file_with 2 8 else (if bytes_eq path second_place then file_with 3 9 else (if bytes_eq path out_path then file_with 4 0 else None)))

-- it was deleted in the first place
abbrev pub in_second : Folder
in_second path = if bytes_eq path in_path then file_with 1 7 else (if bytes_eq path second_place then file_with 3 9 else (if bytes_eq path out_path then file_with 4 0 else None))

-- the log, with the record of what the output was made of
abbrev pub both_record : Record
both_record = record { text = codes "cat"; outs = (out_path, 4) ∷ []; ins = (in_path, 1) ∷ (first_place, 2) ∷ []; digests = None }

abbrev pub log_both : List LogLine
log_both = lines.Record both_record ∷ []

abbrev pub members_both : List (List ℕ × Value)
members_both = (in_path, Some (7 ∷ [])) ∷ (first_place, Some (8 ∷ [])) ∷ []

abbrev pub members_second : List (List ℕ × Value)
members_second = (in_path, Some (7 ∷ [])) ∷ (second_place, Some (9 ∷ [])) ∷ []

-- While the header stands in both places the closure has that in the first, and with nothing done the step is fresh. Once it is
-- lost there, the closure has that in the second place, and though no stamp rose the step is stale, and runs.
pub record HeaderLostHolds : Type 0 where
  pub apart : Apart (including in_both in_includes two_places).steps (including in_both in_includes two_places).roots
  pub close_both : IsClosure (including in_both in_includes two_places) (Clean (including in_both in_includes two_places)) copy_step members_both
  pub fresh_both : IsFresh (update_with in_both in_includes two_places log_both) [] copy_step members_both
  pub idle : IsRun (update_with in_both in_includes two_places log_both) []
  pub close_second : IsClosure (including in_second in_includes two_places) (Clean (including in_second in_includes two_places)) copy_step members_second
  pub stale_second : IsStale (update_with in_second in_includes two_places log_both) [] copy_step members_second
  pub runs : IsRun (update_with in_second in_includes two_places log_both) copied

-- ---- headers in a circle

abbrev pub header_path : List ℕ
header_path = codes "h"

-- `in` includes `h`, and `h` includes `in`
abbrev pub circle_includes : List ℕ → List ℕ → List Include
circle_includes path bytes = if bytes_eq path in_path then (header_path, true) ∷ [] else (if bytes_eq path header_path then (in_path, true) ∷ [] else [])

-- each is looked for under its name
abbrev pub by_name : List (List ℕ) → List ℕ → Include → List (List ℕ)
by_name dirs path include = include.0 ∷ []

abbrev pub circle_stands : Folder
circle_stands path = if bytes_eq path in_path then file_with 1 7 else (if bytes_eq path header_path then file_with 2 8 else None)

-- The closure of the step has both, in byte order, and the step runs once.
pub record HeaderCircleHolds : Type 0 where
  pub apart : Apart (including circle_stands circle_includes by_name).steps (including circle_stands circle_includes by_name).roots
  pub closure : IsClosure (including circle_stands circle_includes by_name) (Clean (including circle_stands circle_includes by_name)) copy_step ((header_path, Some (8 ∷ [])) ∷ (in_path, Some (7 ∷ [])) ∷ [])
  pub run : IsRun (update_with circle_stands circle_includes by_name []) copied
