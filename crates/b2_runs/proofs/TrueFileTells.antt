use Rattle.std.proofs.Common.{◌≡◌, ℕ, ◌+◌, ◌≤◌, List, [], ◌∷◌, ◌++◌, length, sym, ap, subst, ◌∙◌, append_assoc, append-nil, length-append, arith}
use Rattle.b2_host.specs.Disks.{Past}
use Rattle.b2_log.specs.declared.line.LogLine.{LogLine}
use Rattle.b2_log.specs.declared.line.LogLine.TheVariants as lines
use Rattle.b2_log.specs.Lines.{spelling, log_bytes}
use Rattle.b2_log.specs.Readings.{IsReading}
use Rattle.b2_log.specs.Finding.{kept}
use Rattle.b2_log.proofs.BytesHaveOneReading.{read_back, reading_whole}
use Rattle.b2_runs.specs.Logs.{Making, LogTrue}
use Rattle.b2_runs.specs.LogFiles.{log_limit, IsLogOf.is_read, IsLogOf.is_large}
use Rattle.b2_runs.specs.LogFileLaws.{TrueFileTells, EmptyFileIsTrue, FileTrueAsPastGrows, TrueFront, TrueWithSpelling, TrueWithTornSpelling, TrueOfKept}
use Rattle.b2_runs.proofs.LastLineIsFound.{found_is_there}
use Rattle.b2_runs.proofs.TrueWithLine as logs
use Rattle.b2_runs.proofs.FileIsOneLog.{lines_among}
use Rattle.b2_runs.proofs.KeptTellsSame.{kept_among, kept_good}

pub true_file_tells : TrueFileTells
true_file_tells m past bytes outs r whole t =
    let there = found_is_there outs t.0 r t.2 in
    (whole t.0 t.1 (lines.Record r) there.0, there.1)

-- no lines are true
pub none_true : (m : Making) (past : List Past) (log : List LogLine) → log ≡ [] → LogTrue m past log
none_true m past log e = subst (LogTrue m past) (sym e) (logs.empty_is_true m past)

-- any first bytes of a file whose lines are true are a true file
pub true_front : TrueFront
true_front m past front rest log good r whole xs (is_large above e) = none_true m past xs e
true_front m past front rest log good r whole xs (is_read n within f) = λ line c.
    let split : front ++ rest ≡ log_bytes xs ++ (f.rest ++ rest) = ap (λ (w : List ℕ). w ++ rest) f.split ∙ append_assoc (log_bytes xs) f.rest rest in
    let long = r.longest xs (f.rest ++ rest) f.each split in
    whole line (lines_among xs log (f.rest ++ rest) r.rest f.each r.each (sym split ∙ r.split) (omega (arith, long, r.measure)) line c)

pub empty_file_is_true : EmptyFileIsTrue
empty_file_is_true m past = true_front m past [] [] [] 0 (reading_whole [] tt) (logs.empty_is_true m past)

pub file_true_as_past_grows : FileTrueAsPastGrows
file_true_as_past_grows m past more bytes grows whole log is = logs.true_as_past_grows m past more log grows (whole log is)

-- what a torn append leaves of a true file is true
pub true_with_torn_spelling : TrueWithTornSpelling
true_with_torn_spelling m past bytes log line part missing r whole good t split xs (is_large above e) = none_true m past xs e
true_with_torn_spelling m past bytes log line part missing r whole good t split xs (is_read n within f) =
    let before : length bytes ≤ log_limit = omega (arith, within, length-append bytes part) in
    let all : bytes ++ spelling line ≡ (bytes ++ part) ++ missing = ap (λ (w : List ℕ). bytes ++ w) split ∙ sym (append_assoc bytes part missing) in
    true_front m past (bytes ++ part) missing (log ++ line ∷ []) (length bytes + length (spelling line))
    (subst (λ (w : List ℕ). IsReading w (log ++ line ∷ []) (length bytes + length (spelling line))) all (read_back bytes log line r good))
    (logs.true_with_line m past log line (whole log (is_read (length bytes) before r)) t)
    xs (is_read n within f)

pub true_with_spelling : TrueWithSpelling
true_with_spelling m past bytes log line r whole good t = true_with_torn_spelling m past bytes log line (spelling line) [] r whole good t (sym (append-nil (spelling line)))

pub true_of_kept : TrueOfKept
true_of_kept m past bytes log good part missing r whole split =
    true_front m past part missing (kept log) (length (log_bytes (kept log)))
    (subst (λ (w : List ℕ). IsReading w (kept log) (length (log_bytes (kept log)))) split (reading_whole (kept log) (kept_good log r.each)))
    (logs.true_with_fewer m past log (kept log) (kept_among log) whole)
