-- The lines that a log is opened with, and what is to be done with its file.
use Rattle.std.proofs.Common.{◌≡◌, ℕ, ◌≤◌, Bool, true, false, cond, List, [], ◌∷◌, length, Option, Some, None, Result, Ok, Err, IfOk, refl, sym, ap, subst, inl, inr, arith}
use Rattle.std.specs.declared.vec.Vec.{Vec}
use Rattle.std.specs.declared.alloc.Global.{Global}
use Rattle.b2_log.specs.declared.line.LogLine.{LogLine}
use Rattle.b2_log.specs.Lines.{log_bytes}
use Rattle.b2_log.specs.Readings.{IsReading}
use Rattle.b2_log.specs.Finding.{is_kept, kept}
use Rattle.b2_log.proofs.BytesHaveOneReading.{one_reading, reading_whole}
use Rattle.b2_runs.specs.LogCourses.{Opening, Opening.to_update, Opening.to_cut, IsLong, IsToShorten, FirstLines.as_it_is, FirstLines.torn, FirstLines.long, FirstLines.large}
use Rattle.b2_runs.proofs.CutLogIsTrue.{whole_bytes}
use Rattle.b2_runs.proofs.ReplacedIsOther.{replaced_is_other}
use Rattle.b2_journal.specs.declared.opening.Beginning.{Beginning}
use Rattle.b2_journal.specs.Readings.{IsWhole, IsTorn, IsTooLarge}
use Rattle.b2_journal.specs.Openings.{IsToStay, IsToReplace, IsKeptBeginning, Begins}

-- ---- the file stays

is_long_if : (opening : Opening) (log : List LogLine) → IsToShorten opening log → IsLong log
is_long_if to_update log shorten = shorten
is_long_if to_cut log shorten = absurd shorten

pub missing_stays : (opening : Opening) (file : Option (List ℕ)) (lines : List LogLine) → file ≡ None → lines ≡ [] → IsToStay opening file lines
missing_stays opening file lines none no_lines = subst (λ (f : Option (List ℕ)). IsToStay opening f lines) (sym none) (subst (IsToStay opening None) (sym no_lines) (record {
  begins = as_it_is [] (omega arith) (reading_whole [] tt) (λ shorten. absurd (omega (arith, is_long_if opening [] shorten)));
  has = refl;
}))

pub whole_stays : (opening : Opening) (file : Option (List ℕ)) (lines : List LogLine) → IsWhole file lines → (IsToShorten opening lines → ⊥) → IsToStay opening file lines
whole_stays opening file lines (bytes, is, within, read) short = subst (λ (f : Option (List ℕ)). IsToStay opening f lines) (sym is) (record {
  begins = as_it_is lines within read short;
  has = ap Some (whole_bytes bytes lines read);
})

-- ---- the file is replaced

pub large_is_replaced : (opening : Opening) (file : Option (List ℕ)) (lines : List LogLine) (put : List ℕ) → IsTooLarge file lines → put ≡ [] → IsToReplace opening file lines put
large_is_replaced opening file lines put (bytes, is, above, no_lines) none = subst (λ (f : Option (List ℕ)). IsToReplace opening f lines put) (sym is) (subst (λ (ls : List LogLine). IsToReplace opening (Some bytes) ls put) (sym no_lines) (record {
  begins = large above;
  bytes_are = none;
  others = λ same. omega (arith, ap length same, above);
  stands = refl;
}))

pub torn_is_replaced : (opening : Opening) (file : Option (List ℕ)) (lines : List LogLine) (put : List ℕ) → IsTorn file lines → put ≡ log_bytes (kept lines) → IsToReplace opening file (kept lines) put
torn_is_replaced opening file lines put (bytes, good, is, within, read, less) put_is = subst (λ (f : Option (List ℕ)). IsToReplace opening f (kept lines) put) (sym is) (record {
  begins = torn lines good within read less;
  bytes_are = put_is;
  others = replaced_is_other bytes lines good read (inl less);
  stands = refl;
})

pub long_is_replaced : (opening : Opening) (file : Option (List ℕ)) (lines : List LogLine) (put : List ℕ) → IsWhole file lines → IsToShorten opening lines → put ≡ log_bytes (kept lines) → IsToReplace opening file (kept lines) put
long_is_replaced opening file lines put (bytes, is, within, read) shorten put_is = subst (λ (f : Option (List ℕ)). IsToReplace opening f (kept lines) put) (sym is) (record {
  begins = long lines (length bytes) within read shorten;
  bytes_are = put_is;
  others = replaced_is_other bytes lines (length bytes) read (inr (is_long_if opening lines shorten));
  stands = refl;
})

-- ---- what is begun with

-- the kept lines that are read from their bytes
pub kept_beginning_is : (lines : List LogLine) (bytes : Vec ℕ Global) (beginning : Beginning) (good : ℕ) → beginning.bytes ≡ Some bytes → bytes.items ≡ log_bytes (kept lines) → IsReading bytes.items (kept lines) (length bytes.items) → IsReading bytes.items beginning.log.lines good
    → IsKeptBeginning lines beginning
kept_beginning_is lines bytes beginning good some are written read = record {
  lines_are = (one_reading bytes.items beginning.log.lines (kept lines) good (length bytes.items) read written).0;
  bytes = bytes;
  some = some;
  bytes_are = are;
  good = written.each;
}

replaced_begins : (opening : Opening) (file : Option (List ℕ)) (lines : List LogLine) (b : Beginning) (k : IsKeptBeginning lines b) → IsToReplace opening file (kept lines) k.bytes.items → Begins opening file b.log.lines b.bytes
replaced_begins opening file lines b k replaced = subst (λ (ls : List LogLine). Begins opening file ls b.bytes) (sym k.lines_are) (subst (λ (o : Option (Vec ℕ Global)). Begins opening file (kept lines) o) (sym k.some) replaced)

pub torn_begins : (opening : Opening) (file : Option (List ℕ)) (lines : List LogLine) (b : Beginning) → IsKeptBeginning lines b → IsTorn file lines → Begins opening file b.log.lines b.bytes
torn_begins opening file lines b k is_torn = replaced_begins opening file lines b k (torn_is_replaced opening file lines k.bytes.items is_torn k.bytes_are)

pub long_begins : (opening : Opening) (file : Option (List ℕ)) (lines : List LogLine) (b : Beginning) → IsKeptBeginning lines b → IsToShorten opening lines → IsWhole file lines → Begins opening file b.log.lines b.bytes
long_begins opening file lines b k shorten whole = replaced_begins opening file lines b k (long_is_replaced opening file lines k.bytes.items whole shorten k.bytes_are)

pub kept_so : {E : Type 0} (lines : List LogLine) (Q : Beginning → Type 0) (r : Result Beginning E) → IfOk r (IsKeptBeginning lines) → ((b : Beginning) → IsKeptBeginning lines b → Q b) → IfOk r Q
kept_so lines Q (Ok b) kept_is so = so b kept_is
kept_so lines Q (Err e) kept_is so = tt

-- ---- counts

-- no more lines are kept than there are
pub kept_fewer : (log : List LogLine) → length (kept log) ≤ length log
kept_fewer [] = omega arith
kept_fewer (line ∷ later) = go (is_kept line later) (kept_fewer later)
  where
    go : (b : Bool) → length (kept later) ≤ length later → length (cond b (line ∷ kept later) (kept later)) ≤ length (line ∷ later)
    go true fewer = omega arith
    go false fewer = omega arith
