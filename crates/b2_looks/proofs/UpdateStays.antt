-- An update that is under way stays so as files are read and lines are noted, or it has stopped as one may.
use Rattle.std.proofs.Common.{◌≡◌, inr, ℕ, false, List, [], ◌∷◌, ◌++◌, Some, sym, subst, ◌∙◌, append-nil, append_assoc}
use Rattle.std.specs.List.{Contains, AllByRecursion}
use Rattle.std.proofs.lemmas.List.Elements.{Contains-append_left}
use Rattle.b2_host.specs.declared.children.ChildEvent.{ChildEvent}
use Rattle.b2_host.specs.Disks.{Disk, Past, IsConsistent}
use Rattle.b2_host.specs.Outside.{Read}
use Rattle.b2_host.specs.FileCalls.{log_path, stamp_at}
use Rattle.b2_host.specs.LogChanges.{ChangesOnlyAt}
use Rattle.b2_plan.specs.Plans.{Apart}
use Rattle.b2_log.specs.declared.line.ScanLine.{ScanLine}
use Rattle.b2_log.specs.declared.line.LogLine.{LogLine}
use Rattle.b2_log.specs.declared.line.LogLine.TheVariants as lines
use Rattle.b2_log.specs.Good.{IsGood}
use Rattle.b2_runs.specs.Logs.{RecordsTrue}
use Rattle.b2_runs.specs.Staleness.{Update, making}
use Rattle.b2_runs.specs.Runs.{IsRunSoFar}
use Rattle.b2_runs.specs.Soundness.{Distinguishes, IsSound, IsAllowedChange}
use Rattle.b2_runs.specs.FileReads.{IsCalledFor, ReadsOnce, IsScanRead, ReadsLeaveLines, StandsWithLine, HaveLines, IsLogThen}
use Rattle.b2_runs.specs.LogCourses.{BeginsWith, IsLogAfter, log_file, IsLogCut, IsLogCut.between as cut_between}
use Rattle.b2_runs.proofs.FirstElementOrLater.{Contains_here, Contains_there}
use Rattle.b2_runs.proofs.DiskStaysSound.{log_is_allowed, sound_after_change}
use Rattle.b2_runs.proofs.LogStaysTrue.{log_moves}
use Rattle.b2_runs.proofs.ReadsLeaveLines.{stands_after_line, stands_after_change, lines_before_read, lines_after_read, lines_as_past_grows}
use Rattle.b2_runs.proofs.ReadsOnce.{reads_more, reads_as_past_grows}
use Rattle.b2_runs.proofs.CutLogIsTrue.{log_stands_then}
use Rattle.b2_runs.proofs.TrueWithLine.{line_grows}
use Rattle.b2_journal.specs.Notes.{HasLines, IsNoteCut}
use Rattle.b2_journal.proofs.FailedCallsAreCuts.{note_is_cut}
use Rattle.b2_reach.specs.declared.sights.Sights.{Sights}
use Rattle.b2_verdicts.specs.VerdictCalls.{IsReadNow}
use Rattle.b2_looks.specs.UnderWay.{IsUnderWay}

-- An update is under way but for what is known of files: what is so of its events, its disk, its log and its reads.
pub record IsGoing (u : Update) (events : List ChildEvent) (first : List LogLine) (reads : List Read) (disk : Disk) (log : List LogLine) : Type 0 where
  pub apart : Apart u.build.steps u.build.roots
  pub run : IsRunSoFar u events
  pub sound : IsSound u events disk
  pub begins : BeginsWith u first
  pub first_true : u.all ≡ false → RecordsTrue (making u) disk.past first
  pub course : IsLogAfter u disk.now first events log
  pub good : AllByRecursion IsGood log
  pub file : HasLines (log_file u.build.folder) disk.now log
  pub once : ReadsOnce u events disk.past reads
  pub leave : ReadsLeaveLines u disk.past reads
  pub have : HaveLines u events disk.past disk.now log reads

pub is_going : (u : Update) (events : List ChildEvent) (first : List LogLine) (reads : List Read) (disk : Disk) (s : Sights) → IsUnderWay u events first reads disk s → IsGoing u events first reads disk s.journal
is_going u events first reads disk s w = record {
  apart = w.apart;
  run = w.run;
  sound = w.sound;
  begins = w.begins;
  first_true = w.first_true;
  course = w.course;
  good = w.good;
  file = w.file;
  once = w.once;
  leave = w.leave;
  have = w.have;
}

module _ (u : Update) (events : List ChildEvent) (first : List LogLine) where
  -- ---- the log's file

  pub past_in : (before after : Disk) → ChangesOnlyAt log_path before after → (old : Past) → Contains before.past old → Contains after.past old
  past_in before after only old among = subst (λ l. Contains l old) (sym only.past) (Contains-append_left before.past only.more old among)

  pub log_allowed : (before after : Disk) → ChangesOnlyAt log_path before after → IsConsistent after → IsAllowedChange u events before after
  log_allowed before after only consistent = log_is_allowed u events before after consistent (λ path other. only.others path other) (past_in before after only)

  -- a log that stands between two events is one that may be left
  pub going_cut : (reads : List Read) (disk : Disk) (log : List LogLine) → IsGoing u events first reads disk log → IsLogCut u events disk.now
  going_cut reads disk log w = cut_between first log events [] (sym (append-nil events)) w.run tt w.begins w.course w.good w.file

  -- ---- reads

  pub read_leaves : (reads : List Read) (disk : Disk) (log : List LogLine) (read : Read) → IsGoing u events first reads disk log → IsReadNow disk.now read → ReadsLeaveLines u disk.past (reads ++ read ∷ [])
  read_leaves reads disk log read w now =
      let held : IsLogThen disk.past read.log log = subst (λ stamp. IsLogThen disk.past stamp log) (sym now.log) (log_stands_then (log_file u.build.folder) disk log w.sound.keeps w.good w.file) in
      lines_before_read u events disk.past disk.now log reads read w.have held w.leave

  pub going_read : (reads : List Read) (disk : Disk) (log : List LogLine) (read : Read) → IsGoing u events first reads disk log → IsReadNow disk.now read → IsCalledFor u events disk.past read
      → ((stamp : ℕ) → IsScanRead u disk.past read stamp → StandsWithLine u events disk.now log read.path stamp) → IsGoing u events first (reads ++ read ∷ []) disk log
  going_read reads disk log read w now called line = record {
    apart = w.apart;
    run = w.run;
    sound = w.sound;
    begins = w.begins;
    first_true = w.first_true;
    course = w.course;
    good = w.good;
    file = w.file;
    once = reads_more u events disk.past reads read w.once (inr called);
    leave = read_leaves reads disk log read w now;
    have = lines_after_read u events disk.past disk.now log reads read line w.have;
  }

  pub going_reads : (more reads : List Read) (disk : Disk) (log : List LogLine) → IsGoing u events first reads disk log
      → ((read : Read) → Contains more read → IsReadNow disk.now read × IsCalledFor u events disk.past read × ((stamp : ℕ) → IsScanRead u disk.past read stamp → StandsWithLine u events disk.now log read.path stamp))
      → IsGoing u events first (reads ++ more) disk log
  going_reads [] reads disk log w each = subst (λ l. IsGoing u events first l disk log) (sym (append-nil reads)) w
  going_reads (read ∷ more) reads disk log w each =
      let (now, called, line) = each read (Contains_here read more) in
      let next = going_read reads disk log read w now called line in
      subst (λ l. IsGoing u events first l disk log) (append_assoc reads (read ∷ []) more) (going_reads more (reads ++ read ∷ []) disk log next (λ other among. each other (Contains_there read other more among)))

  -- ---- lines

  pub records_grow : (past more : List Past) (log : List LogLine) → ((old : Past) → Contains past old → Contains more old) → RecordsTrue (making u) past log → RecordsTrue (making u) more log
  records_grow past more log grows is r among = line_grows (making u) past more (lines.Record r) grows (is r among)

  -- reads have their lines as a line is noted
  have_line : (reads : List Read) (before after : Disk) (log : List LogLine) (line : LogLine) → IsGoing u events first reads before log → ChangesOnlyAt log_path before after → IsConsistent after → ((s : ScanLine) → line ≡ lines.Scan s → stamp_at after.now s.path ≡ Some s.stamp)
      → HaveLines u events after.past after.now (log ++ line ∷ []) reads
  have_line reads before after log line w only consistent stands read stamp among scan =
      let was = (lines_as_past_grows u events before.past after.past before.now log reads (past_in before after only)).1 w.have in
      stands_after_line u events after.now log read.path stamp line stands (stands_after_change u events before after log read.path stamp w.apart (log_allowed before after only consistent) (was read stamp among scan))

  -- a line that the events call for was noted
  pub going_noted : (reads : List Read) (before after : Disk) (log : List LogLine) (line : LogLine) → IsGoing u events first reads before log → ChangesOnlyAt log_path before after → IsConsistent after → Distinguishes u after.past
      → (IsLogAfter u after.now first events log → IsLogAfter u after.now first events (log ++ line ∷ [])) → ((s : ScanLine) → line ≡ lines.Scan s → stamp_at after.now s.path ≡ Some s.stamp) → AllByRecursion IsGood (log ++ line ∷ [])
      → HasLines (log_file u.build.folder) after.now (log ++ line ∷ []) → IsGoing u events first reads after (log ++ line ∷ [])
  going_noted reads before after log line w only consistent apart_digests called stands good file = record {
    apart = w.apart;
    run = w.run;
    sound = sound_after_change u events before after w.apart w.sound (log_allowed before after only consistent) apart_digests;
    begins = w.begins;
    first_true = λ some. records_grow before.past after.past first (past_in before after only) (w.first_true some);
    course = called (log_moves u events before after first log w.apart w.run (log_allowed before after only consistent) w.course);
    good = good;
    file = file;
    once = reads_as_past_grows u events before.past after.past reads (past_in before after only) w.once;
    leave = (lines_as_past_grows u events before.past after.past after.now log reads (past_in before after only)).0 w.leave;
    have = have_line reads before after log line w only consistent stands;
  }

  -- the note of such a line failed
  pub noted_cut : (reads : List Read) (before after : Disk) (log : List LogLine) (line : LogLine) → IsGoing u events first reads before log → ChangesOnlyAt log_path before after → IsConsistent after
      → (IsLogAfter u after.now first events log → IsLogAfter u after.now first events (log ++ line ∷ [])) → IsNoteCut before.now after.now log line → IsLogCut u events after.now
  noted_cut reads before after log line w only consistent called cut =
      let course = log_moves u events before after first log w.apart w.run (log_allowed before after only consistent) w.course in
      let same = append-nil events in
      subst (λ l. IsLogCut u l after.now) (append-nil (events ++ []) ∙ same)
      (note_is_cut u before.now after.now first log line events [] [] cut w.file w.begins w.good w.run (subst (IsRunSoFar u) (sym same) w.run) tt course (subst (λ l. IsLogAfter u after.now first l (log ++ line ∷ [])) (sym same) (called course)))

  pub sound_moved : (reads : List Read) (before after : Disk) (log : List LogLine) → IsGoing u events first reads before log → ChangesOnlyAt log_path before after → IsConsistent after → Distinguishes u after.past → IsSound u events after
  sound_moved reads before after log w only consistent apart_digests = sound_after_change u events before after w.apart w.sound (log_allowed before after only consistent) apart_digests

  pub once_moved : (reads : List Read) (before after : Disk) (log : List LogLine) → ChangesOnlyAt log_path before after → ReadsOnce u events before.past reads → ReadsOnce u events after.past reads
  once_moved reads before after log only once = reads_as_past_grows u events before.past after.past reads (past_in before after only) once

  pub leave_moved : (reads : List Read) (before after : Disk) (log : List LogLine) → ChangesOnlyAt log_path before after → ReadsLeaveLines u before.past reads → ReadsLeaveLines u after.past reads
  leave_moved reads before after log only leave = (lines_as_past_grows u events before.past after.past after.now log reads (past_in before after only)).0 leave
