use Rattle.std.proofs.Common.{ℕ, List, [], ◌∷◌, inl, inr, subst}
use Rattle.std.specs.List.{Contains, AllZip}
use Rattle.std.proofs.lemmas.List.Elements.{Contains-push_cases}
use Rattle.b2_host.specs.Disks.{Past}
use Rattle.b2_log.specs.declared.line.Record.{Record}
use Rattle.b2_log.specs.declared.line.ScanLine.{ScanLine}
use Rattle.b2_log.specs.declared.line.LogLine.TheVariants as lines
use Rattle.b2_runs.specs.Logs.{Making, InputStood, IsTrueRecord, IsTrueScan, IsTrueLine, LogTrue}
use Rattle.b2_runs.specs.LogLaws.{TrueByKind, EmptyIsTrue, LineTrueAsPastGrows, TrueAsPastGrows, TrueWithLine, TrueWithFewer, ScansTrueAsPastGrows, ScansTrueWithFewer}
use Rattle.b2_runs.proofs.FirstElementOrLater.{Contains_nil}

pub true_by_kind : TrueByKind
true_by_kind m past log = (λ t. (λ r c. t (lines.Record r) c, λ s c. t (lines.Scan s) c), back)
  where
    back : ((r : Record) → Contains log (lines.Record r) → IsTrueRecord m past r) × ((s : ScanLine) → Contains log (lines.Scan s) → IsTrueScan m past s) → LogTrue m past log
    back t (lines.Record r) c = t.0 r c
    back t (lines.Drop outs) c = tt
    back t (lines.Scan s) c = t.1 s c

pub empty_is_true : EmptyIsTrue
empty_is_true m past line c = absurd (Contains_nil line c)

pub record_grows : (m : Making) (past more : List Past) (r : Record) → ((old : Past) → Contains past old → Contains more old) → IsTrueRecord m past r → IsTrueRecord m more r
record_grows m past more r grows t = record { held = t.held; ins = go r.ins t.held t.ins; outs = λ path stamp c. grows _ (t.outs path stamp c); digests = t.digests }
  where
    go : (pairs : List (List ℕ × ℕ)) (held : List (List ℕ × List ℕ)) → AllZip (InputStood past) pairs held → AllZip (InputStood more) pairs held
    go [] [] a = a
    go [] (h ∷ hs) a = a
    go (q ∷ qs) [] a = a
    go (q ∷ qs) (h ∷ hs) (a, more_a) = (record { path = a.path; stood = grows _ a.stood }, go qs hs more_a)

pub scan_grows : (m : Making) (past more : List Past) (s : ScanLine) → ((old : Past) → Contains past old → Contains more old) → IsTrueScan m past s → IsTrueScan m more s
scan_grows m past more s grows t = record { bytes = t.bytes; stood = grows _ t.stood; includes = t.includes }

pub line_grows : LineTrueAsPastGrows
line_grows m past more (lines.Record r) grows t = record_grows m past more r grows t
line_grows m past more (lines.Drop outs) grows t = tt
line_grows m past more (lines.Scan s) grows t = scan_grows m past more s grows t

-- more that stood leaves a true log true
pub true_as_past_grows : TrueAsPastGrows
true_as_past_grows m past more log grows old line c = line_grows m past more line grows (old line c)

-- so does a true line at the end
pub true_with_line : TrueWithLine
true_with_line m past log new old t line c = elim (Contains-push_cases log new line c) [ inl d ↦ old line d | inr e ↦ subst (IsTrueLine m past) e t ]

-- any lines of a true log are true
pub true_with_fewer : TrueWithFewer
true_with_fewer m past log kept among whole line c = whole line (among line c)

pub scans_true_as_past_grows : ScansTrueAsPastGrows
scans_true_as_past_grows m past more log grows old s c = scan_grows m past more s grows (old s c)

pub scans_true_with_fewer : ScansTrueWithFewer
scans_true_with_fewer m past log kept among whole s c = whole s (among (lines.Scan s) c)
