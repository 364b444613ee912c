use Rattle.std.proofs.Common.{◌≡◌, ◌⊎◌, ℕ, ◌≤◌, List, [], length, inl, inr, refl, sym, ap, subst, ◌∙◌, arith, option_and_then}
use Rattle.std.specs.List.{Contains, AllByRecursion}
use Rattle.b2_log.specs.declared.line.LogLine.{LogLine}
use Rattle.b2_log.specs.declared.subject.Subject.{Subject}
use Rattle.b2_log.specs.declared.subject.Subject.TheVariants as subjects
use Rattle.b2_log.specs.Lines.{log_bytes}
use Rattle.b2_log.specs.Good.{IsGood}
use Rattle.b2_log.specs.Finding.{told, record_in, scan_in, kept}
use Rattle.b2_log.proofs.BytesHaveOneReading.{one_reading, reading_whole}
use Rattle.b2_runs.specs.LogFiles.{IsLogOf, IsLogOf.is_read, IsLogOf.is_large}
use Rattle.b2_runs.specs.LogCourses.{Opening, IsToShorten, FirstLines, FirstLines.as_it_is, FirstLines.torn, FirstLines.long, FirstLines.large}
use Rattle.b2_runs.specs.LogCourseLaws.{FirstLinesAreOne, BeginTellsRecords, BeginTellsScans, BeginIsAmong, BeginIsRead, LinesAreRead}
use Rattle.b2_runs.proofs.FileIsOneLog.{file_is_one_log}
use Rattle.b2_runs.proofs.KeptTellsSame.{within_limit, kept_among, kept_good, kept_shorter, kept_told}

-- What a log is opened with are the lines that the file counts as, or the kept ones of them.
pub record IsFrom (bytes : List ℕ) (first : List LogLine) : Type 0 where
  pub log : List LogLine
  pub counts : IsLogOf bytes log
  pub same : (first ≡ log) ⊎ (first ≡ kept log)

pub is_from : (opening : Opening) (bytes : List ℕ) (first : List LogLine) → FirstLines opening bytes first → IsFrom bytes first
is_from opening bytes first (as_it_is log within r short) = record { log = log; counts = is_read (length bytes) within r; same = inl refl }
is_from opening bytes first (torn log good within r less) = record { log = log; counts = is_read good within r; same = inr refl }
is_from opening bytes first (long log good within r much) = record { log = log; counts = is_read good within r; same = inr refl }
is_from opening bytes first (large above) = record { log = []; counts = is_large above refl; same = inl refl }

-- so they tell the same
told_same : (opening : Opening) (bytes : List ℕ) (first log : List LogLine) (subject : Subject) → FirstLines opening bytes first → IsLogOf bytes log → told subject first ≡ told subject log
told_same opening bytes first log subject b is =
    let f = is_from opening bytes first b in
    let one : f.log ≡ log = file_is_one_log bytes f.log log f.counts is in
    elim f.same [
      | inl e ↦ ap (told subject) (e ∙ one)
      | inr e ↦ ap (told subject) e ∙ kept_told f.log subject ∙ ap (told subject) one
    ]

pub begin_tells_records : BeginTellsRecords
begin_tells_records opening bytes first log outs b is = ap (option_and_then record_in) (told_same opening bytes first log (subjects.Outputs outs) b is)

pub begin_tells_scans : BeginTellsScans
begin_tells_scans opening bytes first log path stamp b is = ap (option_and_then (scan_in stamp)) (told_same opening bytes first log (subjects.Scanned path) b is)

pub begin_is_among : BeginIsAmong
begin_is_among opening bytes first log line b is c =
    let f = is_from opening bytes first b in
    let one : f.log ≡ log = file_is_one_log bytes f.log log f.counts is in
    subst (λ (l : List LogLine). Contains l line) one (elim f.same [
      | inl e ↦ subst (λ (l : List LogLine). Contains l line) e c
      | inr e ↦ kept_among f.log line (subst (λ (l : List LogLine). Contains l line) e c)
    ])

pub begin_is_read : BeginIsRead
begin_is_read opening bytes first b =
    let f = is_from opening bytes first b in
    let w = within_limit bytes f.log f.counts in
    let size = w.size in
    let shorter = kept_shorter f.log in
    elim f.same [
      | inl e ↦ subst (λ (l : List LogLine). AllByRecursion IsGood l × (length (log_bytes l) ≤ 268435456)) (sym e) (w.each, size)
      | inr e ↦ subst (λ (l : List LogLine). AllByRecursion IsGood l × (length (log_bytes l) ≤ 268435456)) (sym e) (kept_good f.log w.each, omega (arith, size, shorter))
    ]

pub begins_with_one : FirstLinesAreOne
begins_with_one opening bytes first other (as_it_is log w r short) (as_it_is l v s few) = (one_reading bytes log l (length bytes) (length bytes) r s).0
begins_with_one opening bytes first other (as_it_is log w r short) (torn l g v s less) = let e = (one_reading bytes log l (length bytes) g r s).1 in absurd (omega (arith, e, less))
begins_with_one opening bytes first other (as_it_is log w r short) (long l g v s much) = let e = (one_reading bytes log l (length bytes) g r s).0 in absurd (short (subst (IsToShorten opening) (sym e) much))
begins_with_one opening bytes first other (as_it_is log w r short) (large above) = absurd (omega (arith, w, above))
begins_with_one opening bytes first other (torn log g w r less) (as_it_is l v s few) = let e = (one_reading bytes log l g (length bytes) r s).1 in absurd (omega (arith, e, less))
begins_with_one opening bytes first other (torn log g w r less) (torn l h v s few) = ap kept (one_reading bytes log l g h r s).0
begins_with_one opening bytes first other (torn log g w r less) (long l h v s much) = ap kept (one_reading bytes log l g h r s).0
begins_with_one opening bytes first other (torn log g w r less) (large above) = absurd (omega (arith, w, above))
begins_with_one opening bytes first other (long log g w r much) (as_it_is l v s few) = let e = (one_reading bytes log l g (length bytes) r s).0 in absurd (few (subst (IsToShorten opening) e much))
begins_with_one opening bytes first other (long log g w r much) (torn l h v s less) = ap kept (one_reading bytes log l g h r s).0
begins_with_one opening bytes first other (long log g w r much) (long l h v s more) = ap kept (one_reading bytes log l g h r s).0
begins_with_one opening bytes first other (long log g w r much) (large above) = absurd (omega (arith, w, above))
begins_with_one opening bytes first other (large above) (as_it_is l v s few) = absurd (omega (arith, v, above))
begins_with_one opening bytes first other (large above) (torn l h v s less) = absurd (omega (arith, v, above))
begins_with_one opening bytes first other (large above) (long l h v s much) = absurd (omega (arith, v, above))
begins_with_one opening bytes first other (large above) (large more) = refl

pub lines_are_read : LinesAreRead
lines_are_read log each within = is_read (length (log_bytes log)) within (reading_whole log each)
