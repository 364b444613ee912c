-- In an update that is under way a step ends.
use Rattle.std.proofs.Common.{◌≡◌, ℕ, Bool, true, List, [], ◌∷◌, ◌++◌, option_map, Some, ap, subst, ◌∙◌}
use Rattle.std.specs.List.{Contains}
use Rattle.std.proofs.lemmas.List.Elements.{Contains-append_left}
use Rattle.b2_host.specs.declared.children.ChildEvent.{ChildEvent}
use Rattle.b2_host.specs.declared.children.ChildEvent.TheVariants.{Start, Done}
use Rattle.b2_host.specs.Disks.{File, Disk}
use Rattle.b2_host.specs.ChildProcesses.{Child, ChangesOnlyOutputs}
use Rattle.b2_host.specs.Outside.{Read}
use Rattle.b2_host.specs.FileCalls.{log_path}
use Rattle.b2_plan.specs.declared.step.Step.{Step}
use Rattle.b2_plan.specs.Plans.{step_at, Makes, Apart}
use Rattle.b2_plan.specs.Closures.{Value, IsClosure}
use Rattle.b2_plan.specs.Cleans.{Clean}
use Rattle.b2_log.specs.declared.line.LogLine.{LogLine}
use Rattle.b2_log.specs.declared.line.LogLine.TheVariants as lines
use Rattle.b2_runs.specs.Staleness.{Update, making}
use Rattle.b2_runs.specs.Runs.{Settled, Settled.source as settled_source, Settled.done_well as settled_done, Settled.fresh as settled_fresh, MayCome, IsRunSoFar}
use Rattle.b2_runs.specs.Outcomes.{IsSettledStep}
use Rattle.b2_runs.specs.Soundness.{IsSound, IsAllowedChange, AreAtWork}
use Rattle.b2_runs.specs.FileReads.{ReadsOnce, HaveLines}
use Rattle.b2_runs.specs.LogCourses.{log_file, LacksNoLine}
use Rattle.b2_runs.proofs.FirstElementOrLater.{some_element}
use Rattle.b2_runs.proofs.MakerIsOne.{source_not_made}
use Rattle.b2_runs.proofs.OneEventMore.{start_in_done}
use Rattle.b2_runs.proofs.SettledStays.{same_members, settled_after_end, closure_on_settled, closure_on_settled_stays}
use Rattle.b2_runs.proofs.RunGoesOn.{done_was_started}
use Rattle.b2_runs.proofs.StaleStepStays.{stale_step_stays}
use Rattle.b2_runs.proofs.ChildrenFollowEvents.{end_is_open}
use Rattle.b2_runs.proofs.DiskStaysSound.{work_is_allowed, sound_after_end}
use Rattle.b2_runs.proofs.LogStaysTrue.{log_moves, migrated_after_change, scanned_after_change}
use Rattle.b2_runs.proofs.NotedAfterEachEvent.{noted_beside_change}
use Rattle.b2_runs.proofs.ReadsLeaveLines.{stands_along, stands_after_change, lines_as_past_grows}
use Rattle.b2_runs.proofs.ReadsOnce.{reads_along, reads_as_past_grows}
use Rattle.b2_runs.proofs.TrueWithLine.{line_grows}
use Rattle.b2_reach.specs.declared.sights.Sights.{Sights}
use Rattle.b2_looks.specs.declared.looks.Looks.{Looks}
use Rattle.b2_looks.specs.UnderWay.{LooseAreBlank, IsUnderWay, AreTrueLooks}
use Rattle.b2_looks.proofs.LooseAreBlank.{sight_stays_true}
use Rattle.b2_turns.specs.Ends.{HasEnded}
use Rattle.b2_turns.specs.Laws.{EndComes}

-- ---- a settled step that was not started

-- all of the closure of a settled step is settled that was not started
unstarted_inside : (u : Update) (events : List ChildEvent) → Apart u.build.steps u.build.roots → IsRunSoFar u events → (i : ℕ) (step : Step) (members : List (List ℕ × Value)) → step_at u.build.steps i ≡ Some step → IsSettledStep u events i → (Contains events (Start i) → ⊥) → IsClosure u.build (Clean u.build) step members
    → (member : List ℕ) (value : Value) → Contains members (member, value) → Settled u events member
unstarted_inside u events apart run i step members at settled not closure member value among =
    let (out, is_out) = some_element step.outs (apart.some_out i step at) in
    go out (record { at = at; among = is_out }) (settled step out (record { at = at; among = is_out }))
  where
    go : (out : List ℕ) → Makes u.build.steps i step out → Settled u events out → Settled u events member
    go out makes (settled_source p bytes s) = absurd (source_not_made u.build apart p bytes s i step makes)
    go out makes (settled_done k other p makes_k done) = absurd (not (subst (λ j. Contains events (Start j)) (apart.one_maker k i other step p makes_k makes) (done_was_started u events k true run done)))
    go out makes (settled_fresh k other p others makes_k none close_other inside fresh) =
        let same : k ≡ i = apart.one_maker k i other step p makes_k makes in
        let at_i : step_at u.build.steps i ≡ Some other = subst (λ j. step_at u.build.steps j ≡ Some other) same makes_k.at in
        inside member value (subst (λ ms. Contains ms (member, value)) (same_members u apart i step other at at_i members others closure close_other) among)

-- ---- the end

-- the log's file stays as children work
log_stays : (u : Update) (events : List ChildEvent) (running : List Child) (before after : Disk) → Apart u.build.steps u.build.roots → AreAtWork u events running → ChangesOnlyOutputs running before after → log_file after.now ≡ log_file before.now
log_stays u events running before after apart at_work worked = ap (option_map (λ (file : File). file.bytes)) (worked.others log_path (λ written.
    let work = at_work.each written.child written.runs in
    apart.not_log written.child.step work.given_closure.step (record { at = work.given_closure.at; among = subst (λ outs. Contains outs log_path) (work.outs ∙ work.given_closure.outs) written.out })))

module _ (u : Update) (events : List ChildEvent) (i : ℕ) (well : Bool) (first : List LogLine) (reads : List Read) (before after : Disk) (s : Sights) (w : IsUnderWay u events first reads before s) (may : MayCome u events (Done i well)) (change : IsAllowedChange u events before after) where
  -- the events with the end
  abbrev later : List ChildEvent
  later = events ++ Done i well ∷ []

  once_later : ReadsOnce u later after.past reads
  once_later = reads_along u events (Done i well) after.past reads w.apart may (reads_as_past_grows u events before.past after.past reads change.grows w.once)

  have_later : HaveLines u later after.past after.now s.journal reads
  have_later read stamp among scan =
      let was = (lines_as_past_grows u events before.past after.past before.now s.journal reads change.grows).1 w.have read stamp among scan in
      stands_along u events later after.now s.journal read.path stamp (λ path settled. settled_after_end u events i well path w.apart may.0 settled) (stands_after_change u events before after s.journal read.path stamp w.apart change was)

  blank_later : LooseAreBlank later s.facts
  blank_later n k file at made loose = w.blank n k file at made (start_in_done events i k well loose.0, λ done. loose.1 (Contains-append_left events (Done i well ∷ []) (Done k true) done))

  pub has_ended : IsSound u later after → LacksNoLine u events before.now s.journal → log_file after.now ≡ log_file before.now → HasEnded u events i well first reads after s
  has_ended sound lacks same_log = record {
    apart = w.apart;
    update = w.update;
    run = w.run;
    may_come = may;
    sound = sound;
    begins = w.begins;
    tells = w.tells;
    first_true = λ some r among. line_grows (making u) before.past after.past (lines.Record r) change.grows (w.first_true some r among);
    course = log_moves u events before after first s.journal w.apart w.run change w.course;
    lacks_none = record { scanned = scanned_after_change u events before after s.journal w.apart change lacks.scanned; migrated = migrated_after_change u events before after s.journal w.apart change lacks.migrated };
    good = w.good;
    file = same_log ∙ w.file;
    once = once_later;
    leave = (lines_as_past_grows u events before.past after.past after.now s.journal reads change.grows).0 w.leave;
    have = have_later;
    sight = sight_stays_true u events before after s w.apart change w.blank w.sight;
    lined = w.lined;
    blank = blank_later;
    by_digest = w.by_digest;
  }

  pub looks_later : (l : Looks) → AreTrueLooks u events before s l → AreTrueLooks u later after s l
  looks_later l is = record {
    settled = λ k settled step path makes. settled_after_end u events i well path w.apart may.0 (is.settled k settled step path makes);
    stale = λ k stale. stale_step_stays u events (Done i well) k w.apart may (is.stale k stale);
    ready = λ k numbers which kept. (
        let h = is.ready k numbers which kept in
        record { step = h.step; at = h.at; members = h.members; closure = closure_on_settled_stays u events (Done i well) h.step h.members w.apart may h.closure; named = h.named });
    migrated = λ on k step members settled at not closure. (
        let none : Contains events (Start k) → ⊥ = λ started. not (Contains-append_left events (Done i well ∷ []) (Start k) started) in
        let clean = ((closure_on_settled u later step members w.apart).0 closure).0 in
        let inside = unstarted_inside u events w.apart w.run k step members at (is.settled k settled) none clean in
        noted_beside_change u events before after s.journal k step members w.apart change at none inside (is.migrated on k step members settled at none ((closure_on_settled u events step members w.apart).1 clean inside)));
  }

pub end_comes : EndComes
end_comes u events first reads before after old new s l i well w is lacks none at_work ends consistent distinct =
    let opened = end_is_open u events old new before after i well at_work ends in
    let change = work_is_allowed u events old.running before after at_work consistent ends.worked in
    let sound = sound_after_end u events old new before after i well w.apart at_work w.sound consistent ends distinct in
    (has_ended u events i well first reads before after s w (opened, none) change sound lacks (log_stays u events old.running before after w.apart at_work ends.worked), looks_later u events i well first reads before after s w (opened, none) change l is)
