-- An update in which a step has failed stays so as outputs of that step are removed.
use Rattle.std.proofs.Common.{◌≡◌, ℕ, true, false, List, [], ◌∷◌, ◌++◌, Some, inl, inr, option_map, refl, sym, ap, subst, ◌∙◌}
use Rattle.std.specs.List.{Contains}
use Rattle.std.proofs.lemmas.List.Elements.{Contains-append_left, Contains-push_cases}
use Rattle.b2_host.specs.declared.children.ChildEvent.{ChildEvent}
use Rattle.b2_host.specs.declared.children.ChildEvent.TheVariants.{Start, Done}
use Rattle.b2_host.specs.Disks.{File, Disk, Past, IsConsistent}
use Rattle.b2_host.specs.FileCalls.{log_path}
use Rattle.b2_host.specs.Outside.{Read}
use Rattle.b2_plan.specs.declared.step.Step.{Step}
use Rattle.b2_plan.specs.Plans.{step_at}
use Rattle.b2_log.specs.declared.line.LogLine.{LogLine}
use Rattle.b2_log.specs.declared.line.LogLine.TheVariants as lines
use Rattle.b2_runs.specs.Staleness.{Update, making}
use Rattle.b2_runs.specs.Soundness.{Distinguishes, IsLoose, IsAllowedChange}
use Rattle.b2_runs.specs.LogCourses.{log_file, IsLogCut.between as cut_between}
use Rattle.b2_runs.proofs.DiskStaysSound.{sound_after_change}
use Rattle.b2_runs.proofs.LogStaysTrue.{log_moves, scanned_after_change, migrated_after_change}
use Rattle.b2_runs.proofs.ReadsLeaveLines.{stands_after_change, lines_as_past_grows}
use Rattle.b2_runs.proofs.ReadsOnce.{reads_as_past_grows}
use Rattle.b2_runs.proofs.TrueWithLine.{line_grows}
use Rattle.b2_facts.specs.declared.stop.FilesStop.{FilesStop}
use Rattle.b2_facts.specs.Facts.{Knowledge}
use Rattle.b2_journal.specs.Notes.{HasLines}
use Rattle.b2_reach.specs.declared.sights.Sights.{Sights}
use Rattle.b2_looks.specs.UnderWay.{IsStopOf, IsHalted}
use Rattle.b2_looks.proofs.LooseAreBlank.{sight_stays_true}
use Rattle.b2_turns.specs.Ends.{HasEnded}
use Rattle.b2_turns.specs.Clearing.{RemovesOnly}

-- ---- the step

module _ (u : Update) (events : List ChildEvent) (i : ℕ) (first : List LogLine) (reads : List Read) (s : Sights) where
  -- the step is loose before its end, and after it
  pub loose_before : (disk : Disk) → HasEnded u events i false first reads disk s → IsLoose events i
  loose_before disk w = (w.may_come.0.0, λ done. w.may_come.0.1 true done)

  pub loose_after : (disk : Disk) → HasEnded u events i false first reads disk s → IsLoose (events ++ Done i false ∷ []) i
  loose_after disk w = (
    Contains-append_left events (Done i false ∷ []) (Start i) w.may_come.0.0,
    λ done. elim (Contains-push_cases events (Done i false) (Done i true) done) [
      | inl before ↦ w.may_come.0.1 true before
      | inr e ↦ (let h : Done i false ≡ Done i true = e in cc)
    ],
  )

  -- where it stops, the log's file is one that may be left
  pub ended_halts : (disk : Disk) (f : Knowledge) (stop : FilesStop) → HasEnded u events i false first reads disk s → IsStopOf u (events ++ Done i false ∷ []) disk f stop → IsHalted u (events ++ Done i false ∷ []) reads disk f stop
  ended_halts disk f stop w big = record {
    sound = w.sound;
    cut = cut_between first s.journal events (Done i false ∷ []) refl w.run (w.may_come.0, tt) w.begins w.course w.good w.file;
    once = w.once;
    leave = w.leave;
    too_big = big;
  }

  -- ---- its outputs are removed

  module _ (step : Step) (at : step_at u.build.steps i ≡ Some step) (before after : Disk) (removed : RemovesOnly step.outs before after) (consistent : IsConsistent after) where
    past_stays : (old : Past) → Contains before.past old → Contains after.past old
    past_stays old among = subst (λ l. Contains l old) (sym removed.past) among

    -- while the step is loose this is a change that is allowed
    pub removal_allowed : (evs : List ChildEvent) → IsLoose evs i → IsAllowedChange u evs before after
    removal_allowed evs loose = record {
      keeps = consistent;
      others = λ path not_log unmade. removed.others path (λ among. unmade i step (record { at = at; among = among }) loose);
      grows = past_stays;
    }

    -- the log's file stays
    log_stays : HasEnded u events i false first reads before s → HasLines (log_file u.build.folder) after.now s.journal
    log_stays w = ap (option_map (λ (f : File). f.bytes)) (removed.others log_path (λ among. w.apart.not_log i step (record { at = at; among = among }))) ∙ w.file

    pub ended_without : HasEnded u events i false first reads before s → HasEnded u events i false first reads after s
    ended_without w =
        let now = removal_allowed events (loose_before before w) in
        let then = removal_allowed (events ++ Done i false ∷ []) (loose_after before w) in
        record {
          apart = w.apart;
          update = w.update;
          run = w.run;
          may_come = w.may_come;
          sound = sound_after_change u (events ++ Done i false ∷ []) before after w.apart w.sound then (subst (Distinguishes u) (sym removed.past) w.sound.distinct);
          begins = w.begins;
          tells = w.tells;
          first_true = λ some r among. line_grows (making u) before.past after.past (lines.Record r) past_stays (w.first_true some r among);
          course = log_moves u events before after first s.journal w.apart w.run now w.course;
          lacks_none = record {
            scanned = scanned_after_change u events before after s.journal w.apart now w.lacks_none.scanned;
            migrated = migrated_after_change u events before after s.journal w.apart now w.lacks_none.migrated;
          };
          good = w.good;
          file = log_stays w;
          once = reads_as_past_grows u (events ++ Done i false ∷ []) before.past after.past reads past_stays w.once;
          leave = (lines_as_past_grows u (events ++ Done i false ∷ []) before.past after.past before.now s.journal reads past_stays).0 w.leave;
          have = λ read stamp among scan. stands_after_change u (events ++ Done i false ∷ []) before after s.journal read.path stamp w.apart then ((lines_as_past_grows u (events ++ Done i false ∷ []) before.past after.past before.now s.journal reads past_stays).1 w.have read stamp among scan);
          sight = sight_stays_true u (events ++ Done i false ∷ []) before after s w.apart then w.blank w.sight;
          lined = w.lined;
          blank = w.blank;
          by_digest = w.by_digest;
        }
