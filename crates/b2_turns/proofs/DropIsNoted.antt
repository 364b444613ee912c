-- An update in which a step has failed goes on once the log has no record of that step.
use Rattle.std.proofs.Common.{◌≡◌, ◌≢◌, ℕ, false, List, [], ◌∷◌, ◌++◌, Some, None, inl, inr, Err, append-nil, sym, subst, ◌∙◌}
use Rattle.std.specs.List.{AllByRecursion}
use Rattle.std.proofs.lemmas.List.Elements.{Contains-append_cases}
use Rattle.b2_host.specs.declared.children.ChildEvent.{ChildEvent}
use Rattle.b2_host.specs.declared.children.ChildEvent.TheVariants.{Done}
use Rattle.b2_host.specs.declared.fault.IoFault.{IoFault}
use Rattle.b2_host.specs.declared.fault.IoFault.TheVariants as io
use Rattle.b2_host.specs.Disks.{Disk, IsConsistent}
use Rattle.b2_host.specs.FileCalls.{log_path}
use Rattle.b2_host.specs.LogChanges.{ChangesOnlyAt}
use Rattle.b2_host.specs.Outside.{Read}
use Rattle.b2_host.specs.OutsideLaws.{only_one}
use Rattle.b2_plan.specs.declared.step.Step.{Step}
use Rattle.b2_plan.specs.Plans.{step_at}
use Rattle.b2_log.specs.declared.line.Record.{Record}
use Rattle.b2_log.specs.declared.line.LogLine.{LogLine}
use Rattle.b2_log.specs.declared.line.LogLine.TheVariants as lines
use Rattle.b2_log.specs.declared.subject.Subject.TheVariants as subjects
use Rattle.b2_log.specs.Good.{IsGood}
use Rattle.b2_log.specs.Finding.{find_record}
use Rattle.b2_runs.specs.Logs.{ScansTrue}
use Rattle.b2_runs.specs.Staleness.{Update, making}
use Rattle.b2_runs.specs.Soundness.{Distinguishes, IsSound, IsAllowedChange}
use Rattle.b2_runs.specs.FileReads.{HaveLines}
use Rattle.b2_runs.specs.Afterwards.{IsNotedStep}
use Rattle.b2_runs.specs.LogCourses.{IsLogAfter, IsLogAfter.drops as after_drops, IsLogAfter.has_none as after_none, log_file, IsLogCut}
use Rattle.b2_runs.proofs.DiskStaysSound.{sound_after_change}
use Rattle.b2_runs.proofs.LastLineIsFound.{outs_same, scans_unsaid}
use Rattle.b2_runs.proofs.LogStaysTrue.{log_moves, scanned_after_change, migrated_after_change}
use Rattle.b2_runs.proofs.NotedAfterEachEvent.{noted_beside_change, line_for}
use Rattle.b2_runs.proofs.ReadsLeaveLines.{stands_after_line, stands_after_change, lines_as_past_grows}
use Rattle.b2_runs.proofs.ReadsOnce.{reads_as_past_grows}
use Rattle.b2_runs.proofs.RunGoesOn.{run_goes_on}
use Rattle.b2_runs.proofs.TrueWithLine.{line_grows}
use Rattle.b2_journal.specs.Notes.{HasLines, Notes}
use Rattle.b2_journal.proofs.FailedCallsAreCuts.{note_is_cut}
use Rattle.b2_facts.specs.declared.stop.FilesStop.TheVariants as stops
use Rattle.b2_facts.specs.Facts.{Knowledge, IsAbout}
use Rattle.b2_facts.specs.Truth.{AreTrue}
use Rattle.b2_facts.specs.Stops.{stop_of_io}
use Rattle.b2_reach.specs.declared.sights.Sights.{Sights}
use Rattle.b2_reach.specs.Sightings.{NothingOfLog, IsTrueSight, AreLined}
use Rattle.b2_reach.proofs.TruthIsKept.{sight_moved}
use Rattle.b2_looks.specs.UnderWay.{LooseAreBlank, IsUnderWay, IsHalted}
use Rattle.b2_looks.specs.Judging.{OthersStayNoted}
use Rattle.b2_looks.proofs.UpdateStays.{log_allowed}
use Rattle.b2_turns.specs.Ends.{HasEnded}
use Rattle.b2_turns.proofs.FailedStepIsRemoved.{ended_halts}

-- ---- a drop tells nothing of scans

not_scanned : (outs : List (List ℕ)) (path : List ℕ) → subjects.Outputs outs ≢ subjects.Scanned path
not_scanned outs path e = let h : subjects.Outputs outs ≡ subjects.Scanned path = e in cc

lined_with_drop : (f : Knowledge) (log : List LogLine) (outs : List (List ℕ)) → AreLined f log → AreLined f (log ++ lines.Drop outs ∷ [])
lined_with_drop f log outs lined n path file is read =
    let h = lined n path file is read in
    record { stamp = h.stamp; stands = h.stands; line = h.line; found = scans_unsaid path h.stamp log (lines.Drop outs) (not_scanned outs path) ∙ h.found }

scans_with_drop : (u : Update) (disk : Disk) (log : List LogLine) (outs : List (List ℕ)) → ScansTrue (making u) disk.past log → ScansTrue (making u) disk.past (log ++ lines.Drop outs ∷ [])
scans_with_drop u disk log outs holds s among = elim (Contains-append_cases log (lines.Drop outs ∷ []) (lines.Scan s) among) [
  | inl before ↦ holds s before
  | inr last ↦ absurd (let e : lines.Drop outs ≡ lines.Scan s = only_one (lines.Drop outs) (lines.Scan s) last in cc)
]

-- what is known stays true as a drop is noted
sight_with_drop : (u : Update) (disk : Disk) (s t : Sights) (outs : List (List ℕ)) → t.facts ≡ s.facts → t.journal ≡ s.journal ++ lines.Drop outs ∷ [] → IsTrueSight u disk s → IsTrueSight u disk t
sight_with_drop u disk s t outs facts_same longer is = record {
  consistent = is.consistent;
  sources = is.sources;
  about = subst (IsAbout u.build.steps u.build.roots) (sym facts_same) is.about;
  facts = subst (AreTrue u.build disk.now) (sym facts_same) is.facts;
  log_unseen = subst NothingOfLog (sym facts_same) is.log_unseen;
  scans = subst (ScansTrue (making u) disk.past) (sym longer) (scans_with_drop u disk s.journal outs is.scans);
}

-- ---- what is told

module _ (u : Update) (events : List ChildEvent) (i : ℕ) (first : List LogLine) (reads : List Read) (step : Step) (at : step_at u.build.steps i ≡ Some step) (s : Sights) where
  -- the log has no record of the step
  pub none_to_drop : (disk : Disk) → find_record step.outs s.journal ≡ None → HasEnded u events i false first reads disk s → IsUnderWay u (events ++ Done i false ∷ []) first reads disk s
  none_to_drop disk none w = record {
    apart = w.apart;
    update = w.update;
    run = run_goes_on u events (Done i false) w.run w.may_come;
    sound = w.sound;
    begins = w.begins;
    tells = w.tells;
    first_true = w.first_true;
    course = after_none events s.journal i step w.course w.lacks_none at none;
    good = w.good;
    file = w.file;
    once = w.once;
    leave = w.leave;
    have = w.have;
    sight = w.sight;
    lined = w.lined;
    blank = w.blank;
    by_digest = w.by_digest;
  }

  -- the log has a record of it, and the log's file changes
  module _ (before after : Disk) (r : Record) (found : find_record step.outs s.journal ≡ Some r) (only : ChangesOnlyAt log_path before after) (consistent : IsConsistent after) (distinct : Distinguishes u after.past) (w : HasEnded u events i false first reads before s) where
    before_end : IsAllowedChange u events before after
    before_end = log_allowed u events first before after only consistent

    later : IsAllowedChange u (events ++ Done i false ∷ []) before after
    later = log_allowed u (events ++ Done i false ∷ []) first before after only consistent

    sound_then : IsSound u (events ++ Done i false ∷ []) after
    sound_then = sound_after_change u (events ++ Done i false ∷ []) before after w.apart w.sound later distinct

    course_before : IsLogAfter u after.now first events s.journal
    course_before = log_moves u events before after first s.journal w.apart w.run before_end w.course

    course_then : IsLogAfter u after.now first (events ++ Done i false ∷ []) (s.journal ++ lines.Drop step.outs ∷ [])
    course_then = after_drops events s.journal i step r course_before (record {
      scanned = scanned_after_change u events before after s.journal w.apart before_end w.lacks_none.scanned;
      migrated = migrated_after_change u events before after s.journal w.apart before_end w.lacks_none.migrated;
    }) at found

    have_then : HaveLines u (events ++ Done i false ∷ []) after.past after.now (s.journal ++ lines.Drop step.outs ∷ []) reads
    have_then read stamp among scan =
        let was = (lines_as_past_grows u (events ++ Done i false ∷ []) before.past after.past before.now s.journal reads later.grows).1 w.have read stamp among scan in
        stands_after_line u (events ++ Done i false ∷ []) after.now s.journal read.path stamp (lines.Drop step.outs) (λ line e. absurd (let h : lines.Drop step.outs ≡ lines.Scan line = e in cc))
        (stands_after_change u (events ++ Done i false ∷ []) before after s.journal read.path stamp w.apart later was)

    -- the drop is noted
    pub drop_noted : (t : Sights) → t.facts ≡ s.facts → t.by_digest ≡ s.by_digest → t.journal ≡ s.journal ++ lines.Drop step.outs ∷ [] → AllByRecursion IsGood t.journal → HasLines (log_file u.build.folder) after.now (s.journal ++ lines.Drop step.outs ∷ [])
        → IsUnderWay u (events ++ Done i false ∷ []) first reads after t
    drop_noted t facts_same way longer good file = record {
      apart = w.apart;
      update = w.update;
      run = run_goes_on u events (Done i false) w.run w.may_come;
      sound = sound_then;
      begins = w.begins;
      tells = w.tells;
      first_true = λ some x among. line_grows (making u) before.past after.past (lines.Record x) later.grows (w.first_true some x among);
      course = subst (IsLogAfter u after.now first (events ++ Done i false ∷ [])) (sym longer) course_then;
      good = good;
      file = subst (HasLines (log_file u.build.folder) after.now) (sym longer) file;
      once = reads_as_past_grows u (events ++ Done i false ∷ []) before.past after.past reads later.grows w.once;
      leave = (lines_as_past_grows u (events ++ Done i false ∷ []) before.past after.past before.now s.journal reads later.grows).0 w.leave;
      have = subst (λ l. HaveLines u (events ++ Done i false ∷ []) after.past after.now l reads) (sym longer) have_then;
      sight = sight_with_drop u after s t step.outs facts_same longer (sight_moved u before after s w.apart only consistent w.sight);
      lined = subst (λ f. AreLined f t.journal) (sym facts_same) (subst (AreLined s.facts) (sym longer) (lined_with_drop s.facts s.journal step.outs w.lined));
      blank = subst (LooseAreBlank (events ++ Done i false ∷ [])) (sym facts_same) w.blank;
      by_digest = w.by_digest ∙ sym way;
    }

    -- the records of other steps stay
    pub others_beside_drop : (t : Sights) → t.journal ≡ s.journal ++ lines.Drop step.outs ∷ [] → OthersStayNoted u (events ++ Done i false ∷ []) step before.now s.journal after.now t.journal
    others_beside_drop t longer k other members at_k differ not inside had =
        let moved = noted_beside_change u (events ++ Done i false ∷ []) before after s.journal k other members w.apart later at_k not inside had in
        subst (λ l. IsNotedStep u after.now l other members) (sym longer) (line_for u after.now s.journal other members (lines.Drop step.outs) (λ e. differ (sym (outs_same step.outs other.outs e))) moved)

    -- its note failed
    pub drop_not_noted : (f : Knowledge) (fault : IoFault) → Notes {T = Unit {0}} (lines.Drop step.outs) s.journal before after (Err fault) → IsHalted u (events ++ Done i false ∷ []) reads after f (stop_of_io fault)
    drop_not_noted f io.Failed notes = record {
      sound = sound_then;
      cut = subst (λ l. IsLogCut u l after.now) (append-nil (events ++ Done i false ∷ [])) (note_is_cut u before.now after.now first s.journal (lines.Drop step.outs) events (Done i false ∷ []) [] (notes (log_file u.build.folder) w.file) w.file w.begins w.good w.run (run_goes_on u events (Done i false) w.run w.may_come) (w.may_come.0, tt) course_before course_then);
      once = reads_as_past_grows u (events ++ Done i false ∷ []) before.past after.past reads later.grows w.once;
      leave = (lines_as_past_grows u (events ++ Done i false ∷ []) before.past after.past before.now s.journal reads later.grows).0 w.leave;
      too_big = tt;
    }
    drop_not_noted f io.OutOfMemory notes = subst (λ (d : Disk). IsHalted u (events ++ Done i false ∷ []) reads d f stops.OutOfMemory) (sym notes) (ended_halts u events i first reads s before f stops.OutOfMemory w tt)
