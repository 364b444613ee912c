use Rattle.std.specs.Prelude.{◌≡◌, true, false, List, [], ◌∷◌, Some, None, codes, if◌then◌else◌}
use Rattle.std.specs.List.{flat_map}
use Rattle.std.specs.Str.{bytes_eq}
use Rattle.b2_host.specs.declared.children.ChildEvent.{ChildEvent}
use Rattle.b2_host.specs.declared.children.ChildEvent.TheVariants.{Start, Done}
use Rattle.b2_host.specs.Disks.{Folder, Past}
use Rattle.b2_plan.specs.Plans.{Apart}
use Rattle.b2_plan.specs.Sources.{Build, Include}
use Rattle.b2_log.specs.declared.line.ScanLine.{ScanLine}
use Rattle.b2_log.specs.declared.line.LogLine.TheVariants as lines
use Rattle.b2_log.specs.Finding.{find_scan}
use Rattle.b2_runs.specs.Logs.{IsTrueScan}
use Rattle.b2_runs.specs.Staleness.{Update, making}
use Rattle.b2_runs.specs.Runs.{Needed, IsRun}
use Rattle.b2_runs.specs.Outcomes.{IsListOf}
use Rattle.b2_run_examples.specs.Overlap.{copy_from, x_path, a_path, b_path, c_path}

-- A file that is made includes a header that is made: the header's step is needed as soon as the file is there.

-- `a` and `b` are copied from `x`, and `c` from `b`; only `c` is wanted. `b` includes `h`, which is looked for in `x/h` and
-- then in `bin/a`.
abbrev pub header : Include
header = (codes "h", true)

abbrev pub x_stands : Folder
x_stands path = if bytes_eq x_path path then Some (record { stamp = 1; bytes = 7 ∷ [] }) else None

abbrev pub with_header : Build
with_header = record {
  steps = copy_from x_path a_path ∷ copy_from x_path b_path ∷ copy_from b_path c_path ∷ [];
  wanted = c_path ∷ [];
  roots = codes "bin" ∷ [];
  folder = x_stands;
  inc = λ path bytes. if bytes_eq path b_path then header ∷ [] else [];
  looks = λ dirs path include. codes "x/h" ∷ a_path ∷ [];
  made = λ text held out. flat_map (λ input. input.1) held;
}

abbrev pub header_update : Update
header_update = record { build = with_header; log = []; scanned = λ path. bytes_eq path b_path; unscanned = λ path bytes none. λ i. if none i then header ∷ [] else []; digest = λ bytes. bytes; by_digest = false; all = false; quit = false; jobs = 1 }

-- the including file is made first, though its step is not the lowest
abbrev pub b_made : List ChildEvent
b_made = Start 2 ∷ Done 2 true ∷ []

abbrev pub header_run : List ChildEvent
header_run = Start 2 ∷ Done 2 true ∷ Start 1 ∷ Done 1 true ∷ Start 3 ∷ Done 3 true ∷ []

-- the scan line of `b` after it was made
abbrev pub b_scan : ScanLine
b_scan = record { path = b_path; stamp = 2; includes = header ∷ [] }

abbrev pub b_past : Past
b_past = record { path = b_path; file = record { stamp = 2; bytes = 7 ∷ [] } }

-- Which steps are needed before `b` is made, and after; the whole run; and what the scan line tells.
pub record HeadersHold : Type 0 where
  pub apart : Apart with_header.steps with_header.roots
  pub needed_first : IsListOf (Needed header_update []) (2 ∷ 3 ∷ [])
  pub needed_then : IsListOf (Needed header_update b_made) (1 ∷ 2 ∷ 3 ∷ [])
  pub run : IsRun header_update header_run
  pub scan : IsTrueScan (making header_update) (b_past ∷ []) b_scan
  pub found : find_scan b_path 2 (lines.Scan b_scan ∷ []) ≡ Some b_scan
  pub another_stamp : find_scan b_path 3 (lines.Scan b_scan ∷ []) ≡ None
