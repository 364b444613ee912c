-- An update has come to its end, where the files are visible.
use Rattle.std.proofs.Common.{◌≡◌, inl, inr, ℕ, List, [], ◌∷◌, ◌++◌, Err, refl, sym, ap, subst, ◌∙◌, append-nil, count_by}
use Rattle.std.specs.List.{Contains}
use Rattle.b2_base.specs.Bytes.{IsFrontOf}
use Rattle.b2_host.specs.declared.children.ChildEvent.{ChildEvent}
use Rattle.b2_host.specs.Disks.{Folder, Disk}
use Rattle.b2_host.specs.ChildProcesses.{Child}
use Rattle.b2_host.specs.Outside.{Outside}
use Rattle.b2_host.specs.ReadsAdded.{AddsReads}
use Rattle.b2_plan.specs.declared.plan.Plan.{Plan}
use Rattle.b2_runs.specs.Staleness.{Update}
use Rattle.b2_runs.specs.Runs.{CanStart, IsRun}
use Rattle.b2_runs.specs.Moments.{Moment}
use Rattle.b2_runs.specs.Reports.{is_good_end, event_lines, end_lines, StopsAtEnd}
use Rattle.b2_runs.specs.UpdateAnswers.{AnswerTold, WrittenBy}
use Rattle.b2_runs.proofs.FirstElementOrLater.{Contains_nil}
use Rattle.b2_sched.specs.Sound.{IsSound}
use Rattle.b2_sched.proofs.StartsAgreeWithTheRun.{none_joins}
use Rattle.b2_drain.specs.Drains.{Made}
use Rattle.b2_facts.specs.declared.stop.FilesStop.TheVariants as files
use Rattle.b2_facts.specs.Facts.{Knowledge}
use Rattle.b2_looks.specs.Looks.{AreLooks}
use Rattle.b2_turns.specs.AtRest.{IsToldAtRest}
use Rattle.b2_turns.proofs.RestIsTold.{at_rest_is_told}
use Rattle.b2_endings.specs.declared.ending.Ending.{Ending}
use Rattle.b2_endings.specs.declared.ending.Ending.TheVariants as endings
use Rattle.b2_endings.specs.declared.failed_lists.FailedLists.{FailedLists}
use Rattle.b2_endings.specs.Writings.{Adds}
use Rattle.b2_endings.specs.Endings.{lists_of, finished_by, answer_of_ending, EndingIsTrue}
use Rattle.b2_endings.proofs.EndingIsAnswered.{ending_is_answer}
use Rattle.b2_update.specs.declared.run.Run.{Run}
use Rattle.b2_update.specs.declared.stop.UpdateStop.{UpdateStop}
use Rattle.b2_update.specs.declared.stop.UpdateStop.TheVariants as stops
use Rattle.b2_update.specs.declared.update_answer.UpdateAnswer.{UpdateAnswer}
use Rattle.b2_update.specs.Stops.{SinkSays}
use Rattle.b2_update.specs.Going.{Rests, NoneStarts}
use Rattle.b2_update.specs.InRun.{IsUpdateHere, IsInRun, HasHalted, StopWritten, StopTooBig}
use Rattle.b2_update.specs.Endings.{HasComeInRun}
use Rattle.b2_update.proofs.InRunHalts.{ran_still, run_halts}
use Rattle.b2_update.proofs.TextsAreAdded.{adds_both}
use Rattle.b2_update.proofs.EndIsCome.{end_text, IsTold}

-- ---- what is written

-- the report of lists
report_of : (u : Update) (events : List ChildEvent) (now : Folder) (f s : List ℕ) (m : List (List ℕ))
    → WrittenBy u events now (finished_by f s m) (event_lines u.build.steps events ++ end_lines u.build.steps (count_by is_good_end events) (record { failed = f; skipped = s; missing = m }))
report_of u events now [] [] [] = refl
report_of u events now [] [] (path ∷ m) = refl
report_of u events now [] (i ∷ s) m = refl
report_of u events now (i ∷ f) s m = refl

written_so : (u : Update) (events : List ChildEvent) (now : Folder) (ending : Ending) (updated : ℕ) → updated ≡ count_by is_good_end events
    → WrittenBy u events now (answer_of_ending ending) (event_lines u.build.steps events ++ end_text u.build.steps updated ending)
written_so u events now (endings.StepCycle list) updated is = append-nil (event_lines u.build.steps events)
written_so u events now (endings.Ended lists) updated is =
    subst (λ n. WrittenBy u events now (finished_by lists.failed lists.skipped lists.missing) (event_lines u.build.steps events ++ end_lines u.build.steps n (lists_of lists))) (sym is)
    (report_of u events now lists.failed lists.skipped lists.missing)

-- ---- the run

module _ (plan : Plan) (made : Made) (here there : Moment) (run : Run) (sound : IsSound run.looks.board.sched) (looks : AreLooks plan 0 run.sights.facts run.looks) (rests : Rests run) (none : NoneStarts run)
    (idle : here.host.children.running ≡ []) (host : there.host ≡ here.host) (u : Update) (entry : Moment) (events : List ChildEvent) (by : IsUpdateHere plan made run u) (disk : Disk) (r : IsInRun u entry here run disk events) where
  pub at_rest : IsToldAtRest u events disk run.sights run.looks
  at_rest = at_rest_is_told u events r.stands.first r.stands.reads disk plan run.sights run.looks by.by sound looks rests r.counted.follows r.stands.under_way r.stands.true_looks

  none_can : (k : ℕ) → CanStart u events k → ⊥
  none_can = none_joins u events run.looks.board.sched r.stands.under_way.apart r.stands.under_way.run at_rest.told at_rest.starts at_rest.rest (elim none [
    | inl nothing ↦ inl nothing
    | inr quits ↦ inr (record { quit = by.quit ∙ quits.quits; failed = quits.failed; bad = (r.counted.follows.failed quits.failed).0 quits.bad })
  ])

  pub run_ended : IsRun u events
  run_ended = record {
    each = r.stands.under_way.run;
    none_open = λ i opened. (let (child, among, is) = r.stands.ran.at_work.whole i opened in Contains_nil child (subst (λ (l : List Child). Contains l child) idle among));
    none_left = none_can;
  }

  children : there.host.children ≡ here.host.children
  children = ap (λ (o : Outside). o.children) host

  pub come_in_run : (ending : Ending) (answer : UpdateAnswer) → EndingIsTrue u events ending → IsTold u.build.steps run.updated ending here.out there.out answer
      → HasComeInRun u entry there disk answer
  come_in_run ending answer is told = record {
    events = events;
    ran = ran_still u entry here there events disk.now r.stands.ran children;
    first = r.stands.first;
    reads = r.stands.reads;
    reads_are = subst (AddsReads r.stands.reads entry.host.reads) (sym (ap (λ (o : Outside). o.reads) host)) r.stands.reads_are;
    sights = run.sights;
    under_way = r.stands.under_way;
    told = subst (AnswerTold u events disk.now) (sym told.answer_is)
        (ending_is_answer u events r.stands.first r.stands.reads disk run.sights ending r.stands.under_way run_ended at_rest.lacks_none r.stands.gone r.stands.ran.none_older is);
    part = event_lines u.build.steps events ++ end_text u.build.steps run.updated ending;
    adds = adds_both (event_lines u.build.steps events) (end_text u.build.steps run.updated ending) entry.out.written here.out.written there.out.written r.stands.written told.adds;
    written = subst (λ a. WrittenBy u events disk.now a (event_lines u.build.steps events ++ end_text u.build.steps run.updated ending)) (sym told.answer_is)
        (written_so u events disk.now ending run.updated r.counted.updated);
  }

  -- ---- where the end could not be told

  stops_at_end : (lists : FailedLists) → EndingIsTrue u events (endings.Ended lists) → (part rest : List ℕ) → end_lines u.build.steps run.updated (lists_of lists) ≡ part ++ rest
      → StopsAtEnd u events (event_lines u.build.steps events ++ part)
  stops_at_end lists is part rest whole = record {
    run = run_ended;
    none_stuck = is.0;
    lists = lists_of lists;
    are = is.1;
    part = part;
    begins = subst (λ n. IsFrontOf part (end_lines u.build.steps n (lists_of lists))) r.counted.updated (rest, whole);
    lines = refl;
  }

  halted : (f : Knowledge) (stop : UpdateStop) (lists : FailedLists) (part rest : List ℕ) → end_lines u.build.steps run.updated (lists_of lists) ≡ part ++ rest → Adds part here.out.written there.out.written
      → StopWritten u events disk.now stop (event_lines u.build.steps events ++ part) → StopTooBig u events disk.now f stop → HasHalted u entry there f disk stop
  halted f stop lists part rest whole adds written too_big =
      run_halts u entry there events r.stands.first r.stands.reads disk run.sights f stop (event_lines u.build.steps events ++ part) (ran_still u entry here there events disk.now r.stands.ran children)
      (subst (AddsReads r.stands.reads entry.host.reads) (sym (ap (λ (o : Outside). o.reads) host)) r.stands.reads_are) r.stands.under_way
      (adds_both (event_lines u.build.steps events) part entry.out.written here.out.written there.out.written r.stands.written adds) written too_big

  pub untold_in_run : (f : Knowledge) (lists : FailedLists) (stop : UpdateStop) → EndingIsTrue u events (endings.Ended lists)
      → SinkSays {T = Unit {0}} (end_lines u.build.steps run.updated (lists_of lists)) here.out there.out (Err stop) → HasHalted u entry there f disk stop
  untold_in_run f lists (stops.Files files.Host) is says = absurd says
  untold_in_run f lists (stops.Files files.OutOfMemory) is (same, part, may) = halted f (stops.Files files.OutOfMemory) lists part.part part.rest part.whole part.adds (inr (inr (stops_at_end lists is part.part part.rest part.whole))) tt
  untold_in_run f lists (stops.Files (files.TooBig number size)) is says = absurd says
  untold_in_run f lists stops.Sink is (failed, part, may) = halted f stops.Sink lists part.part part.rest part.whole part.adds (inr (stops_at_end lists is part.part part.rest part.whole)) tt
