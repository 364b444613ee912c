-- The record of a step that ended well is appended, or work on it stops.
use Rattle.std.proofs.Common.{◌≡◌, inl, inr, ℕ, true, map, List, [], ◌∷◌, ◌++◌, Option, Some, Err, refl, sym, subst, ◌∙◌, append-nil}
use Rattle.std.specs.List.{Contains, AllByRecursion}
use Rattle.b2_host.specs.declared.children.ChildEvent.{ChildEvent}
use Rattle.b2_host.specs.declared.children.ChildEvent.TheVariants.{Done}
use Rattle.b2_host.specs.declared.fault.IoFault.{IoFault}
use Rattle.b2_host.specs.declared.fault.IoFault.TheVariants as io
use Rattle.b2_host.specs.Disks.{File, Disk, IsConsistent}
use Rattle.b2_host.specs.Outside.{Read}
use Rattle.b2_host.specs.FileCalls.{log_path}
use Rattle.b2_host.specs.LogChanges.{ChangesOnlyAt}
use Rattle.b2_plan.specs.declared.step.Step.{Step}
use Rattle.b2_plan.specs.Closures.{Value}
use Rattle.b2_log.specs.declared.line.Record.{Record}
use Rattle.b2_log.specs.declared.line.LogLine.{LogLine}
use Rattle.b2_log.specs.declared.line.LogLine.TheVariants as lines
use Rattle.b2_log.specs.Good.{IsGood}
use Rattle.b2_log.specs.Finding.{path_of}
use Rattle.b2_runs.specs.Staleness.{Update, paths_with_bytes}
use Rattle.b2_runs.specs.Records.{IsRecordOf}
use Rattle.b2_runs.specs.Soundness.{Distinguishes, IsSound}
use Rattle.b2_runs.specs.Runs.{on_settled}
use Rattle.b2_runs.specs.FileReads.{HaveLines, IsToDigest.input as digest_input, IsToDigest.output as digest_output, IsTooBig.to_digest as big_to_digest}
use Rattle.b2_runs.specs.Afterwards.{IsNotedStep}
use Rattle.b2_runs.specs.LogCourses.{IsLogAfter, IsLogAfter.records as after_records, LacksNoLine, log_file, IsLogCut, IsLogCut.between as cut_between}
use Rattle.b2_runs.proofs.ClosureByPresent.{seen_is_clean}
use Rattle.b2_runs.proofs.OutputsAreClean.{none_is_short}
use Rattle.b2_runs.proofs.DiskStaysSound.{sound_after_change}
use Rattle.b2_runs.proofs.LastLineIsFound.{outs_same}
use Rattle.b2_runs.proofs.LogStaysTrue.{log_moves, migrated_after_change, scanned_after_change}
use Rattle.b2_runs.proofs.NotedAfterEachEvent.{noted_beside_change, line_for}
use Rattle.b2_runs.proofs.ReadsLeaveLines.{stands_after_line, stands_after_change, lines_as_past_grows}
use Rattle.b2_runs.proofs.SameByStamp.{stamped_paths}
use Rattle.b2_runs.proofs.SettledStays.{closure_on_settled}
use Rattle.b2_journal.specs.Notes.{HasLines, Notes}
use Rattle.b2_journal.proofs.FailedCallsAreCuts.{note_is_cut}
use Rattle.b2_facts.specs.declared.stop.FilesStop.{FilesStop}
use Rattle.b2_facts.specs.declared.stop.FilesStop.TheVariants as stops
use Rattle.b2_facts.specs.Stops.{stop_of_io}
use Rattle.b2_facts.proofs.ListsAtPlaces.{some_is, none_some}
use Rattle.b2_reach.specs.declared.sights.Sights.{Sights}
use Rattle.b2_reach.specs.Sightings.{AreLined}
use Rattle.b2_reach.proofs.TruthIsKept.{sight_moved}
use Rattle.b2_verdicts.specs.declared.step_numbers.StepNumbers.{StepNumbers}
use Rattle.b2_verdicts.specs.VerdictCalls.{IsOfStep, IsTooBigOf, IfTooBig}
use Rattle.b2_verdicts.specs.Made.{IsMadeOf, IsWithoutFile}
use Rattle.b2_verdicts.proofs.TrueFactsTell.{bytes_among}
use Rattle.b2_verdicts.proofs.MissingFiles.{missing_is_gone}
use Rattle.b2_verdicts.proofs.VerdictsTell.{made_is_record}
use Rattle.b2_looks.specs.UnderWay.{LooseAreBlank, IsUnderWay, IsStopOf, IsHalted}
use Rattle.b2_looks.specs.Judging.{OthersStayNoted}
use Rattle.b2_looks.proofs.FilesAreLookedAt.{zip_at}
use Rattle.b2_looks.proofs.RecordIsGiven.{file_of_bytes, lined_with_record, sight_with_record}
use Rattle.b2_looks.proofs.UpdateStays.{past_in, log_allowed, records_grow, once_moved, leave_moved}
use Rattle.b2_turns.specs.Ends.{HasEnded}
use Rattle.b2_turns.specs.Recording.{IsToRecord}
use Rattle.b2_turns.proofs.EndedReads.{run_later, needed_later, is_done}

module _ (u : Update) (events : List ChildEvent) (i : ℕ) (first : List LogLine) (step : Step) (numbers : StepNumbers) (members : List (List ℕ × Value)) where
  -- the events with the end
  abbrev later : List ChildEvent
  later = events ++ Done i true ∷ []

  -- ---- no file of the step is missing

  pub outs_stand : (reads : List Read) (disk : Disk) (s : Sights) → IsToRecord u later i step numbers members s.facts → HasEnded u events i true first reads disk s → (path : List ℕ) → Contains step.outs path → (file : File) × (disk.now path ≡ Some file)
  outs_stand reads disk s to w path among = none_is_short u later disk i step path w.apart w.sound (record { at = to.at; among = among }) to.owes (is_done u events i first step numbers members)

  ins_stand : (reads : List Read) (disk : Disk) (s : Sights) → IsToRecord u later i step numbers members s.facts → HasEnded u events i true first reads disk s → (path : List ℕ) → Contains (paths_with_bytes members) path → (file : File) × (disk.now path ≡ Some file)
  ins_stand reads disk s to w path among =
      let (bytes, inside) = bytes_among members path among in
      let shown = (seen_is_clean u later disk path (Some bytes) w.apart (run_later u events i first step numbers members reads disk s w) w.sound).0 (to.closure.each path (Some bytes) inside).1 in
      file_of_bytes (disk.now path) bytes shown.1.0

  pub none_missing : (reads : List Read) (disk : Disk) (s : Sights) → IsToRecord u later i step numbers members s.facts → HasEnded u events i true first reads disk s → IsWithoutFile (Some disk) numbers s.facts → ⊥
  none_missing reads disk s to w missing =
      let (path, which, gone) = missing_is_gone step members numbers disk u.build s.facts to.named w.sight.facts missing in
      elim which [
        | inl out ↦ (let (file, stands) = outs_stand reads disk s to w path out in none_some file (sym gone ∙ stands))
        | inr ins ↦ (let (file, stands) = ins_stand reads disk s to w path ins in none_some file (sym gone ∙ stands))
      ]

  -- ---- work stops before the note

  -- a file of the step that is too big is one
  pub big_of_ended : (reads : List Read) (disk : Disk) (s : Sights) (stop : FilesStop) → IsToRecord u later i step numbers members s.facts → HasEnded u events i true first reads disk s → IsTooBigOf (IsOfStep numbers) s.facts disk.now stop → IfTooBig (u.by_digest ≡ true) stop → IsStopOf u later disk s.facts stop
  big_of_ended reads disk s stops.Host to w big on = tt
  big_of_ended reads disk s stops.OutOfMemory to w big on = tt
  big_of_ended reads disk s (stops.TooBig n size) to w (inl out, told) on = (
      let needed = needed_later u events i first step numbers members reads disk s w in
      let (p, at_p, among) = zip_at s.facts numbers.outs step.outs to.named.outs n out in
      let (bytes, stands, size_is, large) = told p at_p in
      (p, at_p, big_to_digest bytes (digest_output (record { number = i; needed = needed; step = step; makes = record { at = to.at; among = among } }) members on to.owes to.closure (inr (is_done u events i first step numbers members)) stands) size_is large))
  big_of_ended reads disk s (stops.TooBig n size) to w (inr ins, told) on = (
      let needed = needed_later u events i first step numbers members reads disk s w in
      let (p, at_p, among) = zip_at s.facts numbers.ins (paths_with_bytes members) to.named.ins n ins in
      let (other, inside) = bytes_among members p among in
      let (bytes, stands, size_is, large) = told p at_p in
      let is = to.closure.each p (Some other) inside in
      let shown = (seen_is_clean u later disk p (Some other) w.apart (run_later u events i first step numbers members reads disk s w) w.sound).0 is.1 in
      let same : other ≡ bytes = some_is other bytes (sym shown.1.0 ∙ stands) in
      (p, at_p, big_to_digest bytes (digest_input on (record { number = i; needed = needed; step = step; at = to.at; known = is.0 }) (subst (λ b. on_settled u later p (Some b)) same is.1)) size_is large))

  -- the log's file may be left as it stands
  ended_cut : (reads : List Read) (disk : Disk) (s : Sights) → HasEnded u events i true first reads disk s → IsLogCut u later disk.now
  ended_cut reads disk s w = cut_between first s.journal events (Done i true ∷ []) refl w.run (w.may_come.0, tt) w.begins w.course w.good w.file

  pub ended_halted : (reads : List Read) (disk : Disk) (s : Sights) (stop : FilesStop) → HasEnded u events i true first reads disk s → IsStopOf u later disk s.facts stop → IsHalted u later reads disk s.facts stop
  ended_halted reads disk s stop w big = record { sound = w.sound; cut = ended_cut reads disk s w; once = w.once; leave = w.leave; too_big = big }

  -- ---- the note

  -- the record is that of the step
  record_is : (reads : List Read) (before after : Disk) (s : Sights) (made : Record) → IsToRecord u later i step numbers members s.facts → IsMadeOf s.by_digest step numbers s.facts made → ChangesOnlyAt log_path before after → IsConsistent after → HasEnded u events i true first reads before s → IsRecordOf u after.now step members made
  record_is reads before after s made to is only consistent w =
      let moved = sight_moved u before after s w.apart only consistent w.sight in
      made_is_record u step members numbers after u.build s.facts made w.update.digest to.named moved.facts (subst (λ b. IsMadeOf b step numbers s.facts made) (sym w.by_digest) is)

  -- the course goes on by it
  course_after : (reads : List Read) (before after : Disk) (s : Sights) (made : Record) → IsToRecord u later i step numbers members s.facts → IsMadeOf s.by_digest step numbers s.facts made → ChangesOnlyAt log_path before after → IsConsistent after → HasEnded u events i true first reads before s → IsLogAfter u after.now first later (s.journal ++ lines.Record made ∷ [])
  course_after reads before after s made to is only consistent w =
      let allowed = log_allowed u events first before after only consistent in
      let lacks : LacksNoLine u events after.now s.journal = record { scanned = scanned_after_change u events before after s.journal w.apart allowed w.lacks_none.scanned; migrated = migrated_after_change u events before after s.journal w.apart allowed w.lacks_none.migrated } in
      after_records events s.journal i step members made (log_moves u events before after first s.journal w.apart w.run allowed w.course) lacks to.at to.owes ((closure_on_settled u later step members w.apart).0 to.closure).0 (record_is reads before after s made to is only consistent w)

  have_record : (reads : List Read) (before after : Disk) (s : Sights) (made : Record) → ChangesOnlyAt log_path before after → IsConsistent after → HasEnded u events i true first reads before s → HaveLines u later after.past after.now (s.journal ++ lines.Record made ∷ []) reads
  have_record reads before after s made only consistent w read stamp among scan =
      let was = (lines_as_past_grows u later before.past after.past before.now s.journal reads (past_in u later first before after only)).1 w.have in
      stands_after_line u later after.now s.journal read.path stamp (lines.Record made) (λ z e. absurd (let h : lines.Record made ≡ lines.Scan z = e in cc)) (stands_after_change u later before after s.journal read.path stamp w.apart (log_allowed u later first before after only consistent) (was read stamp among scan))

  sound_moved : (reads : List Read) (before after : Disk) (s : Sights) → ChangesOnlyAt log_path before after → IsConsistent after → Distinguishes u after.past → HasEnded u events i true first reads before s → IsSound u later after
  sound_moved reads before after s only consistent distinct w = sound_after_change u later before after w.apart w.sound (log_allowed u later first before after only consistent) distinct

  -- the record was appended
  pub recorded : (reads : List Read) (before after : Disk) (s v : Sights) (made : Record) → IsToRecord u later i step numbers members s.facts → IsMadeOf s.by_digest step numbers s.facts made → ChangesOnlyAt log_path before after → IsConsistent after → Distinguishes u after.past
      → v.facts ≡ s.facts → v.by_digest ≡ s.by_digest → v.journal ≡ s.journal ++ lines.Record made ∷ [] → AllByRecursion IsGood v.journal → ((entry : Option (List ℕ)) → HasLines entry before.now s.journal → HasLines entry after.now (s.journal ++ lines.Record made ∷ [])) → HasEnded u events i true first reads before s
      → IsUnderWay u later first reads after v
  recorded reads before after s v made to is only consistent distinct facts_same way longer good file w = record {
    apart = w.apart;
    update = w.update;
    run = run_later u events i first step numbers members reads before s w;
    sound = sound_moved reads before after s only consistent distinct w;
    begins = w.begins;
    tells = w.tells;
    first_true = λ some. records_grow u later first before.past after.past first (past_in u later first before after only) (w.first_true some);
    course = subst (IsLogAfter u after.now first later) (sym longer) (course_after reads before after s made to is only consistent w);
    good = good;
    file = subst (HasLines (log_file u.build.folder) after.now) (sym longer) (file (log_file u.build.folder) w.file);
    once = once_moved u later first reads before after s.journal only w.once;
    leave = leave_moved u later first reads before after s.journal only w.leave;
    have = subst (λ l. HaveLines u later after.past after.now l reads) (sym longer) (have_record reads before after s made only consistent w);
    sight = sight_with_record u after s v made facts_same longer (sight_moved u before after s w.apart only consistent w.sight);
    lined = subst (λ f. AreLined f v.journal) (sym facts_same) (subst (AreLined s.facts) (sym longer) (lined_with_record s.facts s.journal made w.lined));
    blank = subst (LooseAreBlank later) (sym facts_same) w.blank;
    by_digest = w.by_digest ∙ sym way;
  }

  -- the records of other steps stay
  pub recorded_others : (reads : List Read) (before after : Disk) (log : List LogLine) (s v : Sights) (made : Record) → IsToRecord u later i step numbers members s.facts → IsMadeOf s.by_digest step numbers s.facts made → ChangesOnlyAt log_path before after → IsConsistent after → s.journal ≡ log → v.journal ≡ s.journal ++ lines.Record made ∷ []
      → HasEnded u events i true first reads before s → OthersStayNoted u later step before.now log after.now v.journal
  recorded_others reads before after log s v made to is only consistent same longer w k other ms at differ not inside had =
      let of_step = record_is reads before after s made to is only consistent w in
      let outs_are : map path_of made.outs ≡ step.outs = stamped_paths after.now step.outs made.outs of_step.outs in
      let moved = noted_beside_change u later before after s.journal k other ms w.apart (log_allowed u later first before after only consistent) at not inside (subst (λ l. IsNotedStep u before.now l other ms) (sym same) had) in
      subst (λ l. IsNotedStep u after.now l other ms) (sym longer) (line_for u after.now s.journal other ms (lines.Record made) (λ e. differ (sym (outs_same (map path_of made.outs) other.outs e) ∙ outs_are)) moved)

  -- its note failed
  pub not_recorded : (reads : List Read) (before after : Disk) (s v : Sights) (made : Record) (fault : IoFault) → IsToRecord u later i step numbers members s.facts → IsMadeOf s.by_digest step numbers s.facts made → ChangesOnlyAt log_path before after → IsConsistent after → Distinguishes u after.past
      → Notes {T = Unit {0}} (lines.Record made) s.journal before after (Err fault) → HasEnded u events i true first reads before s → IsHalted u later reads after v.facts (stop_of_io fault)
  not_recorded reads before after s v made io.Failed to is only consistent distinct notes w = record {
    sound = sound_moved reads before after s only consistent distinct w;
    cut = subst (λ l. IsLogCut u l after.now) (append-nil later) (note_is_cut u before.now after.now first s.journal (lines.Record made) events (Done i true ∷ []) [] (notes (log_file u.build.folder) w.file) w.file w.begins w.good w.run (run_later u events i first step numbers members reads before s w) (w.may_come.0, tt)
        (log_moves u events before after first s.journal w.apart w.run (log_allowed u events first before after only consistent) w.course) (course_after reads before after s made to is only consistent w));
    once = once_moved u later first reads before after s.journal only w.once;
    leave = leave_moved u later first reads before after s.journal only w.leave;
    too_big = tt;
  }
  not_recorded reads before after s v made io.OutOfMemory to is only consistent distinct notes w = subst (λ d. IsHalted u later reads d v.facts stops.OutOfMemory) (sym notes) (record { sound = w.sound; cut = ended_cut reads before s w; once = w.once; leave = w.leave; too_big = tt })
