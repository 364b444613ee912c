-- What the start of a step tells of an update between two events, over a host whose files are visible.
use Rattle.std.proofs.Common.{◌≡◌, ◌≢◌, ℕ, List, [], ◌∷◌, ◌++◌, get_or, slice_get, Option, Some, None, IfSome, Err, inl, inr, refl, sym, ap, subst, subst₂, ◌∙◌, append_assoc, append-nil, arith}
use Rattle.std.specs.List.{AllZip}
use Rattle.b2_host.specs.declared.children.ChildEvent.{ChildEvent}
use Rattle.b2_host.specs.declared.children.ChildEvent.TheVariants.{Start}
use Rattle.b2_host.specs.declared.fault.IoFault.{IoFault}
use Rattle.b2_host.specs.declared.fault.IoFault.TheVariants as faults
use Rattle.b2_host.specs.Disks.{Disk}
use Rattle.b2_host.specs.ChildProcesses.{Given, Family, given_at, one_more, after_start}
use Rattle.b2_host.specs.Outside.{Outside}
use Rattle.b2_host.specs.ReadsAdded.{AddsReads}
use Rattle.b2_host.specs.Output.{Output, with_written}
use Rattle.b2_plan.specs.declared.plan.Plan.{Plan}
use Rattle.b2_plan.specs.declared.step.Step.{Step}
use Rattle.b2_plan.specs.Plans.{step_at}
use Rattle.b2_runs.specs.Staleness.{Update, paths_with_bytes}
use Rattle.b2_runs.specs.Runs.{CanStart, MayCome, IsGivenClosure}
use Rattle.b2_runs.specs.Numbers.{QuitsNow}
use Rattle.b2_runs.specs.Soundness.{AreAtWork}
use Rattle.b2_runs.specs.Moments.{Moment}
use Rattle.b2_runs.specs.Reports.{start_line, said_of, event_line, event_lines, is_good_end}
use Rattle.b2_runs.specs.UpdateAnswers.{StopsWithLog}
use Rattle.b2_runs.proofs.ChildrenFollowEvents.{at_work_after_start, given_after_start}
use Rattle.b2_runs.proofs.FailuresLeaveNothing.{nothing_left_after_start}
use Rattle.b2_runs.proofs.LinesFollow.{lines_follow}
use Rattle.b2_runs.proofs.OneEventMore.{count_one}
use Rattle.b2_runs.proofs.OutputsAreNewer.{none_older_after_start}
use Rattle.b2_runs.proofs.StartMayBegin.{start_gives_closure}
use Rattle.b2_sched.proofs.StartsAgreeWithTheRun.{next_joins}
use Rattle.b2_looks.specs.Looks.{AreLooks, Follows}
use Rattle.b2_looks.specs.UnderWay.{IsUnderWay, AreTrueLooks}
use Rattle.b2_turns.specs.AtRest.{IsToldAtRest}
use Rattle.b2_turns.proofs.RestIsTold.{at_rest_is_told}
use Rattle.b2_turns.proofs.StartIsGiven.{start_is_given}
use Rattle.b2_turns.proofs.StartComes.{start_comes}
use Rattle.b2_drain.specs.Drains.{Made}
use Rattle.b2_endings.specs.Writings.{Adds, AddsPart, Says}
use Rattle.b2_update.proofs.TextsAreAdded.{adds_both}
use Rattle.b2_update.specs.declared.run.Run.{Run}
use Rattle.b2_update.specs.declared.stop.UpdateStop.{UpdateStop}
use Rattle.b2_update.specs.Stops.{sink_stop_of}
use Rattle.b2_update.specs.Going.{Rests}
use Rattle.b2_update.specs.InRun.{IsUpdateHere, HasRun, IsInRun, StopWritten, StopTooBig, HasHalted}
use Rattle.b2_update.proofs.InRunHalts.{log_is_cut, run_halts}
use Rattle.b2_update.proofs.StepIsStarted.{IsTaken, IsStarted}

-- ---- an update at rest, whose next step was taken and started

module _ (plan : Plan) (made : Made) (x y : Moment) (a b c : Run) (i : ℕ) (step : Step) (at : step_at plan.steps i ≡ Some step) (is : AreLooks plan 0 a.sights.facts a.looks) (rests : Rests a) (taken : IsTaken plan i a b)
    (so : IsStarted i step x.host y.host b c) where
  -- what was given at its start
  abbrev new : Disk → Given
  new disk = given_at i step.text so.ins step.outs disk

  module _ (disk : Disk) (shows : x.host.disk ≡ Some disk) (u : Update) (entry : Moment) (events : List ChildEvent) (here : IsUpdateHere plan made a u) (old : IsInRun u entry x a disk events) where
    under : IsUnderWay u events old.stands.first old.stands.reads disk a.sights
    under = old.stands.under_way

    at_rest : IsToldAtRest u events disk a.sights a.looks
    at_rest = at_rest_is_told u events old.stands.first old.stands.reads disk plan a.sights a.looks here.by taken.sound is rests old.counted.follows under old.stands.true_looks

    quits_not : QuitsNow u events → ⊥
    quits_not quits = taken.goes_on (record { quits = sym here.quit ∙ quits.quit; failed = quits.failed; bad = (old.counted.follows.failed quits.failed).1 quits.bad })

    may : MayCome u events (Start i)
    may = next_joins u events a.looks.board.sched under.apart under.run at_rest.told at_rest.starts at_rest.rest quits_not i taken.next

    can : CanStart u events i
    can = may.0

    -- what it was handed over is what it is to be given
    handed : (can.step ≡ step) × (paths_with_bytes can.members ≡ so.ins)
    handed = start_is_given u events disk plan a.sights a.looks i step so.numbers so.ins can under.apart old.stands.true_looks taken.next.lowest.has (subst (λ steps. step_at steps i ≡ Some step) (sym here.by.steps) at)
        (subst (λ r. get_or r.items i None ≡ Some so.numbers) taken.begins.ready so.kept)
        (subst (λ paths. AllZip (λ n path. slice_get paths n ≡ Some path) so.numbers.ins so.ins) taken.begins.forgets.paths so.named)

    comes : IsUnderWay u (events ++ Start i ∷ []) old.stands.first old.stands.reads disk b.sights × AreTrueLooks u (events ++ Start i ∷ []) disk b.sights b.looks
    comes = start_comes u events old.stands.first old.stands.reads disk plan a.sights b.sights a.looks b.looks i here.by is old.counted.follows taken.next.lowest.has under old.stands.true_looks at_rest.lacks_none may taken.begins

    closure : IsGivenClosure u i (new disk)
    closure = subst₂ (λ (s : Step) ins. IsGivenClosure u i (given_at i s.text ins s.outs disk)) handed.0 handed.1 (start_gives_closure u events disk i can under.apart under.sound)

    family : y.host.children ≡ after_start i step.text so.ins step.outs (Some disk) x.host.children
    family = ap (λ (o : Outside). o.children) so.host ∙ ap (λ d. after_start i step.text so.ins step.outs d x.host.children) shows

    given_are : IfSome entry.host.children.given (λ list. y.host.children.given ≡ Some (list ++ (old.stands.ran.given ++ new disk ∷ [])))
    given_are = go entry.host.children.given old.stands.ran.given_are
      where
        go : (before : Option (List Given)) → IfSome before (λ list. x.host.children.given ≡ Some (list ++ old.stands.ran.given)) → IfSome before (λ list. y.host.children.given ≡ Some (list ++ (old.stands.ran.given ++ new disk ∷ [])))
        go None told = tt
        go (Some list) told = ap (λ (f : Family). f.given) family ∙ ap (λ g. one_more g (Some (new disk))) told ∙ ap Some (append_assoc list old.stands.ran.given (new disk ∷ []))

    pub ran_on : HasRun u entry y (events ++ Start i ∷ []) disk.now
    ran_on = record {
      are = ap (λ (f : Family). f.events) family ∙ ap (λ (l : List ChildEvent). l ++ Start i ∷ []) old.stands.ran.are ∙ append_assoc entry.host.children.events events (Start i ∷ []);
      given = old.stands.ran.given ++ new disk ∷ [];
      given_are = given_are;
      given_closure = given_after_start u events old.stands.ran.given i (new disk) old.stands.ran.given_closure closure;
      at_work = subst (λ (f : Family). AreAtWork u (events ++ Start i ∷ []) f.running) (sym family)
          (subst₂ (λ (s : Step) ins. AreAtWork u (events ++ Start i ∷ []) (after_start i s.text ins s.outs (Some disk) x.host.children).running) handed.0 handed.1
          (at_work_after_start u events disk x.host.children i can under.apart under.run under.sound old.stands.ran.at_work));
      none_older = none_older_after_start u events disk.now i old.stands.ran.none_older;
    }

    reads_are : AddsReads old.stands.reads entry.host.reads y.host.reads
    reads_are = subst (AddsReads old.stands.reads entry.host.reads) (sym (ap (λ (o : Outside). o.reads) so.host)) old.stands.reads_are

    -- its line is that of the start
    line_is : event_line u.build.steps (Start i) ≡ start_line step
    line_is = ap (said_of start_line) (ap (λ steps. step_at steps i) here.by.steps ∙ at)

    -- its line was written
    pub in_run_on : y.out ≡ with_written (start_line step) x.out → IsInRun u entry y c disk (events ++ Start i ∷ [])
    in_run_on out = record {
      stands = record {
        ran = ran_on;
        gone = nothing_left_after_start u events disk.now [] i old.stands.gone;
        first = old.stands.first;
        reads = old.stands.reads;
        reads_are = reads_are;
        under_way = subst (λ (r : Run). IsUnderWay u (events ++ Start i ∷ []) old.stands.first old.stands.reads disk r.sights) (sym so.run) comes.0;
        true_looks = subst (λ (r : Run). AreTrueLooks u (events ++ Start i ∷ []) disk r.sights r.looks) (sym so.run) comes.1;
        written = subst (λ text. Adds text entry.out.written y.out.written) lines_are (adds_both (event_lines u.build.steps events) (start_line step) entry.out.written x.out.written y.out.written old.stands.written (ap (λ (o : Output). o.written) out));
      };
      counted = record {
        follows = subst (λ (r : Run). Follows (events ++ Start i ∷ []) r.looks) (sym so.run) (taken.follows events old.counted.follows);
        updated = ap (λ (r : Run). r.updated) so.run ∙ ap (λ (r : Run). r.updated) taken.same ∙ old.counted.updated ∙ (let e = count_one is_good_end events (Start i) in omega (arith, e));
      };
    }
      where
        lines_are : event_lines u.build.steps events ++ start_line step ≡ event_lines u.build.steps (events ++ Start i ∷ [])
        lines_are = ap (λ l. event_lines u.build.steps events ++ l) (sym line_is ∙ sym (append-nil (event_line u.build.steps (Start i)))) ∙ sym (lines_follow u.build.steps events (Start i ∷ []))

    -- its line could not be written
    pub in_run_stops : (fault : IoFault) → start_line step ≢ [] → Says {T = Unit {0}} (start_line step) x.out y.out (Err fault) → HasHalted u entry y c.sights.facts disk (sink_stop_of fault)
    in_run_stops fault some says = go fault says
      where
        halted : (stop : UpdateStop) (text : AddsPart (start_line step) x.out.written y.out.written) → StopWritten u (events ++ Start i ∷ []) disk.now stop (event_lines u.build.steps events ++ text.part) → StopTooBig u (events ++ Start i ∷ []) disk.now c.sights.facts stop
            → HasHalted u entry y c.sights.facts disk stop
        halted stop text written too_big =
            run_halts u entry y (events ++ Start i ∷ []) old.stands.first old.stands.reads disk b.sights c.sights.facts stop (event_lines u.build.steps events ++ text.part) ran_on reads_are comes.0
            (adds_both (event_lines u.build.steps events) text.part entry.out.written x.out.written y.out.written old.stands.written text.adds) written too_big

        stops : (text : AddsPart (start_line step) x.out.written y.out.written) → StopsWithLog u (events ++ Start i ∷ []) disk.now (event_lines u.build.steps events ++ text.part)
        stops text = inl (
          record {
            front = events;
            event = Start i;
            rest = [];
            whole = refl;
            only_ends = tt;
            has_line = λ none. some (sym line_is ∙ none);
            part = text.part;
            begins = (text.rest, line_is ∙ text.whole);
            lines = refl;
          },
          log_is_cut u (events ++ Start i ∷ []) old.stands.first old.stands.reads disk b.sights comes.0,
        )

        go : (fault : IoFault) → Says {T = Unit {0}} (start_line step) x.out y.out (Err fault) → HasHalted u entry y c.sights.facts disk (sink_stop_of fault)
        go faults.Failed (failed, text, may_fail) = halted (sink_stop_of faults.Failed) text (stops text) tt
        go faults.OutOfMemory (same, text, may_fail) = halted (sink_stop_of faults.OutOfMemory) text (inr (stops text)) tt
