use Rattle.std.proofs.Common.{◌≡◌, ◌==◌, ℕ, Bool, true, false, List, [], inl, inr, refl, ap, subst, ◌∙◌, Option, Some, None, map, option_and_then, if◌then◌else◌, eqb-true}
use Rattle.std.specs.List.{Contains}
use Rattle.std.proofs.lemmas.Bool.Decides.{Decides-eqb}
use Rattle.b2_log.specs.declared.line.Record.{Record}
use Rattle.b2_log.specs.declared.line.ScanLine.{ScanLine}
use Rattle.b2_log.specs.declared.line.LogLine.{LogLine}
use Rattle.b2_log.specs.declared.line.LogLine.TheVariants as lines
use Rattle.b2_log.specs.declared.subject.Subject.{Subject}
use Rattle.b2_log.specs.declared.subject.Subject.TheVariants as subjects
use Rattle.b2_log.specs.Finding.{path_of, subject_of, told, record_in, scan_in, find_record}
use Rattle.b2_log.proofs.LastLineHasLastWord as telling
use Rattle.b2_runs.specs.LogLaws.{FoundIsThere, ScanIsThere, LastRecord, LastDrop, OthersUnsaid, LastScan, OtherScansUnsaid, OthersUnsaidThoughTorn}

-- the outputs of a subject
outs_in : Subject → List (List ℕ)
outs_in (subjects.Outputs outs) = outs
outs_in (subjects.Scanned path) = []

pub outs_same : (outs others : List (List ℕ)) → subjects.Outputs outs ≡ subjects.Outputs others → outs ≡ others
unfolding outs_in
outs_same outs others e = ap outs_in e

-- the path of a subject
path_seen : Subject → List ℕ
path_seen (subjects.Outputs outs) = []
path_seen (subjects.Scanned path) = path

pub path_same : (path other : List ℕ) → subjects.Scanned path ≡ subjects.Scanned other → path ≡ other
unfolding path_seen
path_same path other e = ap path_seen e

-- a record that is found is in the log, and has these outputs
pub found_is_there : FoundIsThere
found_is_there outs log r e = go (told (subjects.Outputs outs) log) refl e
  where
    go : (o : Option LogLine) → told (subjects.Outputs outs) log ≡ o → option_and_then record_in o ≡ Some r → Contains log (lines.Record r) × (map path_of r.outs ≡ outs)
    go None is f = absurd (let g : None ≡ Some r = f in cc)
    go (Some (lines.Drop others)) is f = absurd (let g : None ≡ Some r = f in cc)
    go (Some (lines.Scan s)) is f = absurd (let g : None ≡ Some r = f in cc)
    go (Some (lines.Record q)) is f =
        let same : q ≡ r = (let g : Some q ≡ Some r = f in cc) in
        let (c, s) = telling.told_is_there (subjects.Outputs outs) log (lines.Record q) is in
        subst (λ (z : Record). Contains log (lines.Record z) × (map path_of z.outs ≡ outs)) same (c, outs_same (map path_of q.outs) outs s)

-- a scan that is found is in the log, of this path and at this stamp
pub scan_is_there : ScanIsThere
scan_is_there path stamp log s e = go (told (subjects.Scanned path) log) refl e
  where
    at : (q : ScanLine) (t : Bool) → (q.stamp == stamp) ≡ t → (if t then Some q else None) ≡ Some s → (q ≡ s) × (q.stamp ≡ stamp)
    at q true f g = ((let h : Some q ≡ Some s = g in cc), eqb-true q.stamp stamp f)
    at q false f g = absurd (let h : None ≡ Some s = g in cc)

    go : (o : Option LogLine) → told (subjects.Scanned path) log ≡ o → option_and_then (scan_in stamp) o ≡ Some s → Contains log (lines.Scan s) × (s.path ≡ path) × (s.stamp ≡ stamp)
    go None is f = absurd (let g : None ≡ Some s = f in cc)
    go (Some (lines.Record r)) is f = absurd (let g : None ≡ Some s = f in cc)
    go (Some (lines.Drop others)) is f = absurd (let g : None ≡ Some s = f in cc)
    go (Some (lines.Scan q)) is f =
        let (same, has) = at q (q.stamp == stamp) refl f in
        let (c, p) = telling.told_is_there (subjects.Scanned path) log (lines.Scan q) is in
        subst (λ (z : ScanLine). Contains log (lines.Scan z) × (z.path ≡ path) × (z.stamp ≡ stamp)) same (c, path_same q.path path p, has)

-- a record at the end is the last line on its outputs
pub last_record : LastRecord
last_record log r = ap (option_and_then record_in) (telling.last_word log (lines.Record r))

pub last_drop : LastDrop
last_drop log outs = ap (option_and_then record_in) (telling.last_word log (lines.Drop outs))

-- a line says nothing of other outputs
pub others_unsaid : OthersUnsaid
others_unsaid outs log line differ = ap (option_and_then record_in) (telling.others_unsaid (subjects.Outputs outs) log line differ)

pub others_unsaid_though_torn : OthersUnsaidThoughTorn
others_unsaid_though_torn outs log after line (inl same) differ = ap (find_record outs) same
others_unsaid_though_torn outs log after line (inr whole) differ = ap (find_record outs) whole ∙ others_unsaid outs log line differ

-- a scan is about no outputs
pub scan_is_other : (outs : List (List ℕ)) (s : ScanLine) → subject_of (lines.Scan s) ≡ subjects.Outputs outs → ⊥
scan_is_other outs s e = let f : subjects.Scanned s.path ≡ subjects.Outputs outs = e in cc

-- a line says nothing of a scan of another path
pub scans_unsaid : OtherScansUnsaid
scans_unsaid path stamp log line differ = ap (option_and_then (scan_in stamp)) (telling.others_unsaid (subjects.Scanned path) log line differ)

-- outputs are no path that was scanned
pub outs_not_scanned : (outs : List (List ℕ)) (path : List ℕ) → subjects.Outputs outs ≡ subjects.Scanned path → ⊥
outs_not_scanned outs path e = let f : subjects.Outputs outs ≡ subjects.Scanned path = e in cc

-- a scan line at the end is the last line on its path
pub last_scan : LastScan
last_scan log s = ap (option_and_then (scan_in s.stamp)) (telling.last_word log (lines.Scan s)) ∙ (let e : (s.stamp == s.stamp) ≡ true = (Decides-eqb s.stamp s.stamp).1 refl in ap (λ t. if t then Some s else None) e)
