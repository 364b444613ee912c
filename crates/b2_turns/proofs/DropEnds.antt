-- How it ends that the drop of a failed step is noted.
use Rattle.std.proofs.Common.{◌≡◌, ◌<◌, ℕ, true, false, List, [], ◌∷◌, ◌++◌, length, Option, Some, None, is_some, Result, Ok, Err, Bor, refl, sym, ap, subst, ◌∙◌, arith}
use Rattle.std.specs.Prelude.{MatchResult}
use Rattle.std.specs.Option.{IfSome, option_copied}
use Rattle.std.specs.List.{AllByRecursion}
use Rattle.std.proofs.lemmas.List.{length-map}
use Rattle.b2_host.specs.declared.children.ChildEvent.{ChildEvent}
use Rattle.b2_host.specs.declared.children.ChildEvent.TheVariants.{Done}
use Rattle.b2_host.specs.declared.fault.IoFault.{IoFault}
use Rattle.b2_host.specs.declared.fault.IoFault.TheVariants as io
use Rattle.b2_host.specs.Disks.{Disk, IsConsistent}
use Rattle.b2_host.specs.ChildProcesses.{BothTold}
use Rattle.b2_host.specs.Outside.{Outside, Read}
use Rattle.b2_host.specs.Faults.{IoFaultTold}
use Rattle.b2_host.specs.FileCalls.{log_path, Appends, with_piece}
use Rattle.b2_host.specs.LogChanges.{ChangesOnlyLog, log_changes_same}
use Rattle.b2_host.specs.ReadsAdded.{reads_writes}
use Rattle.b2_plan.specs.declared.step.Step.{Step}
use Rattle.b2_plan.specs.Plans.{step_at}
use Rattle.b2_log.specs.declared.line.Record.{Record}
use Rattle.b2_log.specs.declared.line.LogLine.{LogLine}
use Rattle.b2_log.specs.declared.line.LogLine.TheVariants as lines
use Rattle.b2_log.specs.Lines.{spelling}
use Rattle.b2_log.specs.Good.{IsGood, IsProper}
use Rattle.b2_log.specs.Finding.{path_of, find_record}
use Rattle.b2_runs.specs.Staleness.{Update}
use Rattle.b2_runs.specs.Soundness.{Distinguishes}
use Rattle.b2_runs.specs.LogCourses.{log_file}
use Rattle.b2_runs.proofs.LastLineIsFound.{found_is_there}
use Rattle.b2_journal.specs.Notes.{HasLines, Notes}
use Rattle.b2_facts.specs.declared.stop.FilesStop.{FilesStop}
use Rattle.b2_facts.specs.declared.stop.FilesStop.TheVariants as stops
use Rattle.b2_facts.specs.Stops.{StopTold, stop_of_io}
use Rattle.b2_reach.specs.declared.sights.Sights.{Sights}
use Rattle.b2_reach.proofs.GrowthComposes.{both_same}
use Rattle.b2_looks.specs.UnderWay.{IsUnderWay, IsHalted}
use Rattle.b2_looks.specs.Judging.{OthersStayNoted}
use Rattle.b2_looks.proofs.FilesAreLookedAt.{append_may_fail}
use Rattle.b2_looks.proofs.MigrationEnds.{both_noted}
use Rattle.b2_turns.specs.Ends.{HasEnded}
use Rattle.b2_turns.specs.Clearing.{NotesDrop}
use Rattle.b2_turns.proofs.FailedStepIsRemoved.{ended_halts}
use Rattle.b2_turns.proofs.DropIsNoted.{none_to_drop, drop_noted, others_beside_drop, drop_not_noted}

-- a drop of outputs that have a record is proper
pub drop_is_proper : (outs made : List (List ℕ)) (log : List LogLine) (r : Record) → made ≡ outs → find_record outs log ≡ Some r → IsProper (lines.Record r) → IsProper (lines.Drop made)
drop_is_proper outs made log r same found proper =
    let there = (found_is_there outs log r found).1 in
    let long : length outs ≡ length r.outs = sym (ap length there) ∙ length-map r.outs path_of in
    subst (λ l. 0 < length l) (sym same) (let some = proper.some_out in omega (arith, long, some))

-- ---- the record of the step

-- the log has no record of the step
pub absent : (outs : List (List ℕ)) (log : List LogLine) (o : Option (Bor Record)) → is_some o ≡ false → option_copied o ≡ find_record outs log → find_record outs log ≡ None
absent outs log None e found = sym found
absent outs log (Some r) e found = absurd (let h : true ≡ false = e in cc)

-- the log has one, which is proper
pub present : (outs : List (List ℕ)) (log : List LogLine) (o : Option (Bor Record)) → is_some o ≡ true → option_copied o ≡ find_record outs log → IfSome o (λ r. IsProper (lines.Record r.now)) → (r : Record) × (find_record outs log ≡ Some r) × IsProper (lines.Record r)
present outs log None e found proper = absurd (let h : false ≡ true = e in cc)
present outs log (Some r) e found proper = (r.now, sym found, proper)

-- ---- exits

-- what is told of disks
abbrev Drops : {T : Type 0} → Step → Sights → Sights → Result T FilesStop → Disk → Disk → Type 0
Drops step s t result = λ before after. (u : Update) (events : List ChildEvent) (i : ℕ) (first : List LogLine) (reads : List Read) → Distinguishes u after.past → step_at u.build.steps i ≡ Some step → HasEnded u events i false first reads before s
    → MatchResult result
    (λ x. IsUnderWay u (events ++ Done i false ∷ []) first reads after t × OthersStayNoted u (events ++ Done i false ∷ []) step before.now s.journal after.now t.journal)
    (λ stop. IsHalted u (events ++ Done i false ∷ []) reads after t.facts stop)

-- no record was there
pub drop_none : (step : Step) (x : Outside) (s : Sights) → find_record step.outs s.journal ≡ None → NotesDrop {T = Unit {0}} step x s x s (Ok tt)
drop_none step x s none = record {
  facts = refl;
  way = refl;
  only_log = log_changes_same x x refl;
  unread = refl;
  faults = refl;
  told = both_same (Drops {T = Unit {0}} step s s (Ok tt)) x.disk x.disk refl (λ disk here u events i first reads distinct at w. (none_to_drop u events i first reads step at s disk none w, λ k other members at_k differ not inside had. had));
}

-- no memory was left
pub drop_no_memory : (step : Step) (x : Outside) (s : Sights) (r : Result (Unit {0}) FilesStop) → r ≡ Err stops.OutOfMemory → NotesDrop {T = Unit {0}} step x s x s r
drop_no_memory step x s r is = subst (NotesDrop {T = Unit {0}} step x s x s) (sym is) (record {
  facts = refl;
  way = refl;
  only_log = log_changes_same x x refl;
  unread = refl;
  faults = refl;
  told = both_same (Drops {T = Unit {0}} step s s (Err stops.OutOfMemory)) x.disk x.disk refl (λ disk here u events i first reads distinct at w. ended_halts u events i first reads s disk s.facts stops.OutOfMemory w tt);
})

-- an append fails only where a call may
append_told : (piece : List ℕ) (x y : Outside) (fault : IoFault) → Appends {T = Unit {0}} log_path piece x y (Err fault) → IoFaultTold {T = Unit {0}} x.faults y.faults (Err fault) → StopTold {T = Unit {0}} x y (Err (stop_of_io fault))
append_told piece x y io.Failed appended rose = (append_may_fail piece x y appended, rose)
append_told piece x y io.OutOfMemory appended same = same

module _ (step : Step) (x y : Outside) (s t : Sights) (r : Record) (made : List (List ℕ)) (same : made ≡ step.outs) (found : find_record step.outs s.journal ≡ Some r) (facts_same : t.facts ≡ s.facts) (way : t.by_digest ≡ s.by_digest) (only : ChangesOnlyLog x y) (consistent : IfSome y.disk IsConsistent) where
  -- the drop was noted
  pub drop_stands : t.journal ≡ s.journal ++ lines.Drop made ∷ [] → AllByRecursion IsGood t.journal → Appends {T = Unit {0}} log_path (spelling (lines.Drop made)) x y (Ok tt) → y.faults ≡ x.faults → BothTold (λ before after. Notes {T = Unit {0}} (lines.Drop made) s.journal before after (Ok tt)) x.disk y.disk → NotesDrop {T = Unit {0}} step x s y t (Ok tt)
  drop_stands longer good appended counts notes =
      let longer_so : t.journal ≡ s.journal ++ lines.Drop step.outs ∷ [] = subst (λ l. t.journal ≡ s.journal ++ lines.Drop l ∷ []) same longer in
      record {
        facts = facts_same;
        way = way;
        only_log = only;
        unread = reads_writes {T = Unit {0}} log_path (with_piece log_path) (spelling (lines.Drop made)) x y (Ok tt) appended;
        faults = counts;
        told = both_noted (λ before after. Notes {T = Unit {0}} (lines.Drop made) s.journal before after (Ok tt)) (Drops {T = Unit {0}} step s t (Ok tt)) x.disk x.disk y.disk refl only.files notes consistent (λ before after here moved noted kept u events i first reads distinct at w. (
          drop_noted u events i first reads step at s before after r found moved kept distinct w t facts_same way longer_so good (subst (λ l. HasLines (log_file u.build.folder) after.now (s.journal ++ lines.Drop l ∷ [])) same (noted (log_file u.build.folder) w.file)),
          others_beside_drop u events i first reads step at s before after r found moved kept distinct w t longer_so,
        ));
      }

  -- its note failed
  pub drop_fails : (fault : IoFault) (result : Result (Unit {0}) FilesStop) → result ≡ Err (stop_of_io fault) → Appends {T = Unit {0}} log_path (spelling (lines.Drop made)) x y (Err fault) → IoFaultTold {T = Unit {0}} x.faults y.faults (Err fault) → BothTold (λ before after. Notes {T = Unit {0}} (lines.Drop made) s.journal before after (Err fault)) x.disk y.disk
      → NotesDrop {T = Unit {0}} step x s y t result
  drop_fails fault result is appended counts notes = subst (NotesDrop {T = Unit {0}} step x s y t) (sym is) (record {
    facts = facts_same;
    way = way;
    only_log = only;
    unread = reads_writes {T = Unit {0}} log_path (with_piece log_path) (spelling (lines.Drop made)) x y (Err fault) appended;
    faults = append_told (spelling (lines.Drop made)) x y fault appended counts;
    told = both_noted (λ before after. Notes {T = Unit {0}} (lines.Drop made) s.journal before after (Err fault)) (Drops {T = Unit {0}} step s t (Err (stop_of_io fault))) x.disk x.disk y.disk refl only.files notes consistent (λ before after here moved noted kept u events i first reads distinct at w.
        drop_not_noted u events i first reads step at s before after r found moved kept distinct w t.facts fault (subst (λ l. Notes {T = Unit {0}} (lines.Drop l) s.journal before after (Err fault)) same noted));
  })
