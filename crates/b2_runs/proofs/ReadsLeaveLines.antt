use Rattle.std.proofs.Common.{◌≡◌, ℕ, Bool, true, false, List, [], ◌∷◌, ◌++◌, inl, inr, refl, sym, ap, subst, subst₂, ◌∙◌, arith, Some, map, option_map}
use Rattle.std.specs.List.{Contains, AllPairs}
use Rattle.std.specs.Str.{bytes_eq}
use Rattle.std.proofs.lemmas.List.Elements.{Contains-push_cases}
use Rattle.std.proofs.lemmas.Slice.Eq.{bytes_eq-Decides}
use Rattle.b2_host.specs.Disks.{File, Past}
use Rattle.b2_host.specs.FileCalls.{stamp_at}
use Rattle.b2_host.specs.Outside.{Read}
use Rattle.b2_log.specs.declared.line.LogLine.{LogLine}
use Rattle.b2_log.specs.declared.line.LogLine.TheVariants as lines
use Rattle.b2_log.specs.declared.line.ScanLine.{ScanLine}
use Rattle.b2_log.specs.Finding.{path_of, find_scan}
use Rattle.b2_runs.specs.Staleness.{Update, making}
use Rattle.b2_runs.specs.FileReads.{IsScanRead, HadLine, StandsWithLine}
use Rattle.b2_runs.specs.ReadLaws.{LinesOfNone, LinesBeforeRead, LinesAfterRead, LinesAsPastGrows, StandsAfterLine, StandsAlong, StandsAfterChange, NoneReadTwice}
use Rattle.b2_runs.specs.LogCourseLaws.{StandsIsScanned}
use Rattle.b2_runs.proofs.FirstElementOrLater.{Contains_there, Contains_cases, Contains_nil, AllPairs_head, AllPairs_tail}
use Rattle.b2_runs.proofs.LastLineIsFound.{scan_is_there, path_same, scans_unsaid, outs_not_scanned, last_scan}
use Rattle.b2_runs.proofs.ScanTells.{found_scan_tells}
use Rattle.b2_runs.proofs.NotedAfterEachEvent.{settled_still}
use Rattle.b2_runs.proofs.OthersAreLeft.{pairs_first, pairs_append}
use Rattle.b2_runs.proofs.ReadsOnce.{then_grows, scanned_is_not_read}

-- at a later read the log had the line of an earlier one
abbrev Leaves : Update → List Past → Read → Read → Type 0
Leaves u past read next = (stamp : ℕ) → IsScanRead u past read stamp → HadLine past next.log read.path stamp

pub lines_of_none : LinesOfNone
lines_of_none u events past now log = (λ i j d lt h. absurd (omega arith), λ read stamp c is. absurd (Contains_nil read c))

pub lines_before_read : LinesBeforeRead
lines_before_read u events past now log reads next have log_then leave =
    pairs_append (Leaves u past) reads (next ∷ []) leave (λ i j d lt h. absurd (omega arith)) (λ x y c d. elim (Contains_cases next y [] d) [
      | inl e ↦ subst (Leaves u past x) e (λ stamp is. let h = have x stamp c is in record { log = log; log_then = log_then; line = h.line; found = h.found })
      | inr none ↦ absurd (Contains_nil y none)
    ])

pub lines_after_read : LinesAfterRead
lines_after_read u events past now log reads read own have other stamp c is = elim (Contains-push_cases reads read other c) [
  | inl old ↦ have other stamp old is
  | inr e ↦ subst (λ (r : Read). (n : ℕ) → IsScanRead u past r n → StandsWithLine u events now log r.path n) e own stamp is
]

pub stands_after_line : StandsAfterLine
stands_after_line u events now log path stamp line present h = go line present
  where
    scanned : (s : ScanLine) (same : Bool) → bytes_eq s.path path ≡ same → ((t : ScanLine) → lines.Scan s ≡ lines.Scan t → stamp_at now t.path ≡ Some t.stamp) → StandsWithLine u events now (log ++ lines.Scan s ∷ []) path stamp
    scanned s true e stands =
        let here : s.path ≡ path = (bytes_eq-Decides s.path path).0 e in
        let f : Some s.stamp ≡ Some stamp = sym (stands s refl) ∙ ap (stamp_at now) here ∙ h.stands in
        let n : s.stamp ≡ stamp = cc in
        record { settled = h.settled; stands = h.stands; line = s; found = subst₂ (λ p m. find_scan p m (log ++ lines.Scan s ∷ []) ≡ Some s) here n (last_scan log s) }
    scanned s false e stands =
        let differ : s.path ≡ path → ⊥ = λ here. let f : false ≡ true = sym e ∙ (bytes_eq-Decides s.path path).1 here in cc in
        record { settled = h.settled; stands = h.stands; line = h.line; found = scans_unsaid path stamp log (lines.Scan s) (λ g. differ (path_same s.path path g)) ∙ h.found }

    go : (x : LogLine) → ((t : ScanLine) → x ≡ lines.Scan t → stamp_at now t.path ≡ Some t.stamp) → StandsWithLine u events now (log ++ x ∷ []) path stamp
    go (lines.Record r) stands = record { settled = h.settled; stands = h.stands; line = h.line; found = scans_unsaid path stamp log (lines.Record r) (outs_not_scanned (map path_of r.outs) path) ∙ h.found }
    go (lines.Drop outs) stands = record { settled = h.settled; stands = h.stands; line = h.line; found = scans_unsaid path stamp log (lines.Drop outs) (outs_not_scanned outs path) ∙ h.found }
    go (lines.Scan s) stands = scanned s (bytes_eq s.path path) refl stands

pub stands_along : StandsAlong
stands_along u events more now log path stamp grows h = record { settled = grows path h.settled; stands = h.stands; line = h.line; found = h.found }

pub stands_after_change : StandsAfterChange
stands_after_change u events before after log path stamp apart d h =
    record { settled = h.settled; stands = ap (option_map (λ (file : File). file.stamp)) (settled_still u events before after apart d path h.settled) ∙ h.stands; line = h.line; found = h.found }

-- the line that it stands with is that of its bytes
pub stands_is_scanned : StandsIsScanned
stands_is_scanned u events disk log path bytes stamp keeps whole at h =
    let (c, p, n) = scan_is_there path stamp log h.line h.found in
    record {
      line = h.line;
      is_scan = record { path_is = p; stamp = subst (λ m. stamp_at disk.now path ≡ Some m) (sym n) h.stands; includes = found_scan_tells (making u) disk log path stamp h.line bytes keeps whole h.found h.stands at };
      found = subst (λ m. find_scan path m log ≡ Some h.line) (sym n) h.found;
    }

pub lines_as_past_grows : LinesAsPastGrows
lines_as_past_grows u events past more now log reads grows = (
  λ leave i j d lt h stamp is. let l = leave i j d lt h stamp (less _ stamp is) in record { log = l.log; log_then = then_grows past more _ l.log grows l.log_then; line = l.line; found = l.found },
  λ have read stamp c is. have read stamp c (less read stamp is),
)
  where
    less : (read : Read) (stamp : ℕ) → IsScanRead u more read stamp → IsScanRead u past read stamp
    less read stamp is = record { scanned = is.scanned; not_log = is.not_log; at = is.at; within = λ bytes stood. is.within bytes (grows _ stood); unmade = is.unmade }

-- what follows of pairs in a list
pairs_weaker : {X : Type 0} (R Q : X → X → Type 0) (xs : List X) → ((x y : X) → Contains xs y → R x y → Q x y) → AllPairs R xs → AllPairs Q xs
pairs_weaker R Q [] f p = λ i j d lt h. absurd (omega arith)
pairs_weaker R Q (x ∷ xs) f p =
    pairs_first Q x xs (λ y c. f x y (Contains_there x y xs c) (AllPairs_head R x y xs p c)) (pairs_weaker R Q xs (λ a b c. f a b (Contains_there x b xs c)) (AllPairs_tail R x xs p))

pub none_read_twice : NoneReadTwice
none_read_twice u events past reads off one once leave =
    pairs_weaker (Leaves u past) (λ read next. (stamp : ℕ) → IsScanRead u past read stamp → next.path ≡ read.path → next.stamp ≡ Some stamp → ⊥) reads
    (λ x y c r stamp is same at.
    let h = r stamp is in
    scanned_is_not_read u events past reads y stamp h.log h.line off one once c (λ e. is.not_log (sym same ∙ e)) at h.log_then (subst (λ p. find_scan p stamp h.log ≡ Some h.line) (sym same) h.found)) leave
