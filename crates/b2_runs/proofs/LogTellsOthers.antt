use Rattle.std.proofs.Common.{◌≡◌, ℕ, true, false, List, [], ◌∷◌, ◌++◌, refl, sym, ap, ap₂, subst, ◌∙◌, append_assoc, append-nil, Option, Some, None, map}
use Rattle.b2_host.specs.Disks.{Folder}
use Rattle.b2_plan.specs.declared.step.Step.{Step}
use Rattle.b2_plan.specs.Closures.{Value}
use Rattle.b2_log.specs.declared.line.Record.{Record}
use Rattle.b2_log.specs.declared.line.Digests.{Digests}
use Rattle.b2_log.specs.declared.line.LogLine.{LogLine}
use Rattle.b2_log.specs.declared.line.LogLine.TheVariants as lines
use Rattle.b2_log.specs.Finding.{path_of, find_record, find_scan}
use Rattle.b2_runs.specs.Staleness.{Update, AreStamped, paths_with_bytes}
use Rattle.b2_runs.specs.Records.{HasDigestsOf, IsRecordOf}
use Rattle.b2_runs.specs.LogCourses.{HasDigestsAlready, IsLogAfter.begins, IsLogAfter.starts, IsLogAfter.records, IsLogAfter.owes_none, IsLogAfter.drops, IsLogAfter.has_none, IsLogAfter.scans, IsLogAfter.migrates}
use Rattle.b2_runs.specs.LogCourseLaws.{LogGrows, LogTellsOthers, ScansOnce, MigratesOnce}
use Rattle.b2_runs.proofs.LastLineIsFound.{outs_same, last_record, last_scan, others_unsaid, scan_is_other}
use Rattle.b2_runs.proofs.SameByStamp.{stamped_paths}

-- one line more
more_by : (first log : List LogLine) (line : LogLine) → (more : List LogLine) × (log ≡ first ++ more) → (more : List LogLine) × (log ++ line ∷ [] ≡ first ++ more)
more_by first log line (more, e) = (more ++ line ∷ [], ap (λ (l : List LogLine). l ++ line ∷ []) e ∙ append_assoc first more (line ∷ []))

pub log_grows : LogGrows
log_grows u now first log events begins = ([], sym (append-nil first))
log_grows u now first log events (starts es l i c all) = log_grows u now first l es c
log_grows u now first log events (records es l i step members r c all at file closure is) = more_by first l (lines.Record r) (log_grows u now first l es c)
log_grows u now first log events (owes_none es l i step c all at none) = log_grows u now first l es c
log_grows u now first log events (drops es l i step r c all at found) = more_by first l (lines.Drop step.outs) (log_grows u now first l es c)
log_grows u now first log events (has_none es l i step c all at none) = log_grows u now first l es c
log_grows u now first log events (scans es l p bytes s c to is new) = more_by first l (lines.Scan s) (log_grows u now first l es c)
log_grows u now first log events (migrates es l step members r c to is new) = more_by first l (lines.Record r) (log_grows u now first l es c)

-- the outputs that a record names are those of its step
pub record_outs : (u : Update) (now : Folder) (step : Step) (members : List (List ℕ × Value)) (r : Record) → IsRecordOf u now step members r → map path_of r.outs ≡ step.outs
record_outs u now step members r is = stamped_paths now step.outs r.outs is.outs

pub log_tells_others : LogTellsOthers
log_tells_others u now first log events outs begins others = refl
log_tells_others u now first log events outs (starts es l i c all) others = log_tells_others u now first l es outs c others
log_tells_others u now first log events outs (records es l i step members r c all at file closure is) others =
    others_unsaid outs l (lines.Record r) (λ e. others i step at (sym (record_outs u now step members r is) ∙ outs_same (map path_of r.outs) outs e)) ∙ log_tells_others u now first l es outs c others
log_tells_others u now first log events outs (owes_none es l i step c all at none) others = log_tells_others u now first l es outs c others
log_tells_others u now first log events outs (drops es l i step r c all at found) others =
    others_unsaid outs l (lines.Drop step.outs) (λ e. others i step at (outs_same step.outs outs e)) ∙ log_tells_others u now first l es outs c others
log_tells_others u now first log events outs (has_none es l i step c all at none) others = log_tells_others u now first l es outs c others
log_tells_others u now first log events outs (scans es l p bytes s c to is new) others = others_unsaid outs l (lines.Scan s) (λ e. scan_is_other outs s e) ∙ log_tells_others u now first l es outs c others
log_tells_others u now first log events outs (migrates es l step members r c to is new) others =
    others_unsaid outs l (lines.Record r) (λ e. others to.number step to.at (sym (record_outs u now step members r is) ∙ outs_same (map path_of r.outs) outs e)) ∙ log_tells_others u now first l es outs c others

pub scans_once : ScansOnce
scans_once u now log path bytes s other is is_other =
    let f : Some other.stamp ≡ Some s.stamp = sym is_other.stamp ∙ is.stamp in
    let e : other.stamp ≡ s.stamp = cc in
    ap₂ (λ p n. find_scan p n (log ++ lines.Scan s ∷ [])) (sym is.path_is) e ∙ last_scan log s

-- the stamps of files are one list
stamped_one : (now : Folder) (paths : List (List ℕ)) (xs ys : List (List ℕ × ℕ)) → AreStamped now paths xs → AreStamped now paths ys → xs ≡ ys
stamped_one now [] [] [] a b = refl
stamped_one now [] [] (y ∷ ys) a b = absurd b
stamped_one now [] (x ∷ xs) ys a b = absurd a
stamped_one now (p ∷ ps) [] ys a b = absurd a
stamped_one now (p ∷ ps) (x ∷ xs) [] a b = absurd b
stamped_one now (p ∷ ps) (x ∷ xs) (y ∷ ys) (a, more_a) (b, more_b) =
    let path : x.0 ≡ y.0 = a.0 ∙ sym b.0 in
    let f : Some x.1 ≡ Some y.1 = sym a.1 ∙ b.1 in
    let stamp : x.1 ≡ y.1 = cc in
    let rest = stamped_one now ps xs ys more_a more_b in
    λ i. (path i, stamp i) ∷ rest i

pub migrates_once : MigratesOnce
migrates_once u now log step members r other on is is_other = go r.digests refl is.digests
  where
    go : (d : Option Digests) → r.digests ≡ d → HasDigestsOf u now step members d → HasDigestsAlready step.outs (log ++ lines.Record r ∷ []) other
    go None e off = absurd (let f : true ≡ false = sym on ∙ off in cc)
    go (Some d) e have = record {
      last = r;
      found = subst (λ o. find_record o (log ++ lines.Record r ∷ []) ≡ Some r) (record_outs u now step members r is) (last_record log r);
      digests = d;
      has = e;
      outs_same = stamped_one now step.outs r.outs other.outs is.outs is_other.outs;
      ins_same = stamped_one now (paths_with_bytes members) r.ins other.ins is.ins is_other.ins;
    }
