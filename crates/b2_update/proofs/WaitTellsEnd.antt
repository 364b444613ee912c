-- What a wait tells, where the files are visible: a step has ended, or the update has stopped.
use Rattle.std.proofs.Common.{◌≡◌, ℕ, Bool, List, [], ◌∷◌, ◌++◌, inl, inr, Option, Some, None, IfSome, Result, Ok, Err, MatchResult, refl, sym, ap, subst, subst₂, ◌∙◌, append_assoc}
use Rattle.b2_host.specs.declared.children.ChildEvent.{ChildEvent}
use Rattle.b2_host.specs.declared.children.ChildEvent.TheVariants.{Start, Done}
use Rattle.b2_host.specs.Disks.{Disk, IsConsistent}
use Rattle.b2_host.specs.ChildProcesses.{Given, Child, BothTold, ChangesOnlyOutputs, Ends}
use Rattle.b2_host.specs.ChildCalls.{Awaits, AwaitFails}
use Rattle.b2_host.specs.Outside.{Outside, Read}
use Rattle.b2_host.specs.OutsideLaws.{both_map}
use Rattle.b2_host.specs.Output.{Output}
use Rattle.b2_host.specs.ReadsAdded.{AddsReads}
use Rattle.b2_plan.specs.declared.plan.Plan.{Plan}
use Rattle.b2_log.specs.declared.line.LogLine.{LogLine}
use Rattle.b2_runs.specs.Staleness.{Update}
use Rattle.b2_runs.specs.Afterwards.{NoneDoneOlder}
use Rattle.b2_runs.specs.Runs.{CanStart, IsBegun, OpenEnds, AreGivenClosures}
use Rattle.b2_runs.specs.Moments.{Moment}
use Rattle.b2_runs.specs.Reports.{AreEnds, event_lines}
use Rattle.b2_runs.specs.Soundness.{Distinguishes, AreAtWork}
use Rattle.b2_runs.proofs.BegunUpToStart.{run_is_begun}
use Rattle.b2_runs.proofs.ChildrenFollowEvents.{at_work_after_end, given_after_end}
use Rattle.b2_runs.proofs.DiskStaysSound.{work_is_allowed}
use Rattle.b2_runs.proofs.FailuresLeaveNothing.{nothing_left_through_work}
use Rattle.b2_runs.proofs.OutputsAreNewer.{outputs_are_newer, none_older_after_end, none_older_after_change}
use Rattle.b2_sched.specs.Sound.{IsSound}
use Rattle.b2_sched.proofs.StartsAgreeWithTheRun.{none_joins}
use Rattle.b2_drain.specs.Drains.{Made, HasStopped}
use Rattle.b2_drain.proofs.StoppedStaysStopped.{StoppedTold, no_wait_told, one_more_told}
use Rattle.b2_facts.specs.declared.stop.FilesStop.TheVariants as files
use Rattle.b2_reach.specs.declared.sights.Sights.{Sights}
use Rattle.b2_looks.specs.Looks.{AreLooks}
use Rattle.b2_looks.specs.UnderWay.{IsUnderWay}
use Rattle.b2_looks.proofs.UpdateStays.{is_going, going_cut}
use Rattle.b2_turns.specs.AtRest.{IsToldAtRest}
use Rattle.b2_turns.proofs.RestIsTold.{at_rest_is_told}
use Rattle.b2_turns.specs.Laws.{EndComes}
use Rattle.b2_update.specs.declared.run.Run.{Run}
use Rattle.b2_update.specs.declared.stop.UpdateStop.{UpdateStop}
use Rattle.b2_update.specs.declared.stop.UpdateStop.TheVariants as stops
use Rattle.b2_update.specs.Moments.{moment}
use Rattle.b2_update.specs.Going.{Rests, NoneStarts}
use Rattle.b2_update.specs.InRun.{IsUpdateHere, IsInRun, HasHeardInRun, HasHalted, WaitTells}

-- what is told of files that are visible both times
pub both_at : (P Q : Disk → Disk → Type 0) (x y : Option Disk) → BothTold P x y → ((old new : Disk) → x ≡ Some old → y ≡ Some new → P old new → Q old new) → BothTold Q x y
both_at P Q None None told go = tt
both_at P Q None (Some new) told go = absurd told
both_at P Q (Some old) None told go = absurd told
both_at P Q (Some old) (Some new) told go = go old new refl refl told

-- ends alone start nothing
pub are_ends : (events ends : List ChildEvent) → OpenEnds events ends → AreEnds ends
are_ends events [] all = tt
are_ends events (Start i ∷ ends) all = absurd all.0
are_ends events (Done i well ∷ ends) all = (refl, are_ends (events ++ Done i well ∷ []) ends all.1)

-- an update that is under way may stop
pub may_stop : (u : Update) (events : List ChildEvent) (first : List LogLine) (reads : List Read) (disk : Disk) (s : Sights) (given : List Given) (running : List Child) → IsUnderWay u events first reads disk s → AreGivenClosures u events given → AreAtWork u events running → NoneDoneOlder u events disk.now
    → HasStopped u events given reads running disk
may_stop u events first reads disk s given running w closures at_work none_older = record {
  begun = (run_is_begun u events w.run).0;
  given_closure = closures;
  at_work = at_work;
  sound = w.sound;
  none_older = none_older;
  once = w.once;
  leave = w.leave;
  cut = going_cut u events first reads disk s.journal (is_going u events first reads disk s w);
}

-- what a wait tells of these files
abbrev pub WaitsAt : Plan → Made → Moment → Run → Moment → Run → Result (ℕ × Bool) UpdateStop → Disk → Disk → Type 0
WaitsAt plan made before run after later result old new = (u : Update) (entry : Moment) (events : List ChildEvent) → IsUpdateHere plan made run u → Distinguishes u new.past → IsInRun u entry before run old events
    → MatchResult result (λ ended. HasHeardInRun u ended.0 ended.1 entry after later new events) (λ stop. HasHalted u entry after later.sights.facts new stop)

module _ (plan : Plan) (made : Made) (x y : Outside) (o : Output) (run : Run) (n : ℕ) where
  -- ---- a child has ended

  module _ (end_comes : EndComes) (sound : IsSound run.looks.board.sched) (looks : AreLooks plan 0 run.sights.facts run.looks) (rests : Rests run) (none : NoneStarts run) (u : Update) (entry : Moment) (events : List ChildEvent) (here : IsUpdateHere plan made run u) (old new : Disk) (r : IsInRun u entry (moment x o) run old events) where
    at_rest : IsToldAtRest u events old run.sights run.looks
    at_rest = at_rest_is_told u events r.stands.first r.stands.reads old plan run.sights run.looks here.by sound looks rests r.counted.follows r.stands.under_way r.stands.true_looks

    none_can : (k : ℕ) → CanStart u events k → ⊥
    none_can = none_joins u events run.looks.board.sched r.stands.under_way.apart r.stands.under_way.run at_rest.told at_rest.starts at_rest.rest (elim none [
      | inl nothing ↦ inl nothing
      | inr quits ↦ inr (record { quit = here.quit ∙ quits.quits; failed = quits.failed; bad = (r.counted.follows.failed quits.failed).0 quits.bad })
    ])

    heard_in_run : (i : ℕ) (well : Bool) → IsConsistent new → Distinguishes u new.past → Ends u.build.made x.children (Some old) i well y.children (Some new) → y.reads ≡ x.reads
        → HasHeardInRun u i well entry (moment y o) (record run { waits = n }) new events
    heard_in_run i well consistent tells e same_reads =
        let last : List ChildEvent = Done i well ∷ [] in
        let w = r.stands.under_way in
        let ran = r.stands.ran in
        let begun : IsBegun u events = (run_is_begun u events w.run).0 in
        let change = work_is_allowed u events x.children.running old new ran.at_work consistent e.worked in
        let came = end_comes u events r.stands.first r.stands.reads old new x.children y.children run.sights run.looks i well w r.stands.true_looks at_rest.lacks_none none_can ran.at_work e consistent tells in
        record {
          ran = record {
            are = e.events ∙ ap (λ (l : List ChildEvent). l ++ last) ran.are ∙ append_assoc entry.host.children.events events last;
            given = ran.given;
            given_are = subst (λ given. IfSome entry.host.children.given (λ list. given ≡ Some (list ++ ran.given))) (sym e.given) ran.given_are;
            given_closure = given_after_end u events ran.given i well ran.given_closure;
            at_work = at_work_after_end u events x.children y.children old new i well ran.at_work e;
            none_older = none_older_after_end u events new.now i well (none_older_after_change u events old new w.apart begun change ran.none_older) (λ good step members at file closure.
                outputs_are_newer u events x.children y.children old new i step members w.apart begun ran.at_work w.sound.keeps (subst (λ b. Ends u.build.made x.children (Some old) i b y.children (Some new)) good e) at closure);
          };
          gone = nothing_left_through_work u events x.children.running old new [] w.apart ran.at_work e.worked r.stands.gone;
          first = r.stands.first;
          reads = r.stands.reads;
          reads_are = subst (AddsReads r.stands.reads entry.host.reads) (sym same_reads) r.stands.reads_are;
          ended = came.0;
          true_looks = came.1;
          written = r.stands.written;
          counted = record { follows = r.counted.follows; updated = r.counted.updated };
        }

  pub ended_told : EndComes → IfSome y.disk IsConsistent → IsSound run.looks.board.sched → AreLooks plan 0 run.sights.facts run.looks → Rests run → NoneStarts run → (i : ℕ) (well : Bool) → Awaits made x i well y
      → WaitTells plan made (moment x o) run (moment y o) (record run { waits = n }) (Ok (i, well))
  ended_told end_comes consistent sound looks rests none i well w = both_at (ChangesOnlyOutputs x.children.running) (WaitsAt plan made (moment x o) run (moment y o) (record run { waits = n }) (Ok (i, well))) x.disk y.disk w.ended.worked (λ old new is_old is_new worked u entry events here tells r.
      let e : Ends made x.children (Some old) i well y.children (Some new) = subst₂ (λ b a. Ends made x.children b i well y.children a) is_old is_new w.ended in
      heard_in_run end_comes sound looks rests none u entry events here old new r i well (subst (λ d. IfSome d IsConsistent) is_new consistent) tells (subst (λ (m : Made). Ends m x.children (Some old) i well y.children (Some new)) (sym here.made_is) e) (ap (λ (z : Outside). z.reads) w.same))

  -- ---- a wait failed

  halted_in_run : (u : Update) (entry : Moment) (events : List ChildEvent) → IsUpdateHere plan made run u → (old new : Disk) → Distinguishes u new.past → IsInRun u entry (moment x o) run old events → y.reads ≡ x.reads → y.children.given ≡ x.children.given → StoppedTold made x y old new
      → HasHalted u entry (moment y o) run.sights.facts new (stops.Files files.Host)
  halted_in_run u entry events here old new tells r same_reads same_given told =
      let ran = r.stands.ran in
      let so = told u events ran.given r.stands.reads r.stands.under_way.apart here.made_is tells (may_stop u events r.stands.first r.stands.reads old run.sights ran.given x.children.running r.stands.under_way ran.given_closure ran.at_work ran.none_older) in
      record {
        events = events ++ so.ends;
        are = so.came ∙ ap (λ (l : List ChildEvent). l ++ so.ends) ran.are ∙ append_assoc entry.host.children.events events so.ends;
        given = ran.given;
        given_are = subst (λ given. IfSome entry.host.children.given (λ list. given ≡ Some (list ++ ran.given))) (sym same_given) ran.given_are;
        reads = r.stands.reads;
        reads_are = subst (AddsReads r.stands.reads entry.host.reads) (sym same_reads) r.stands.reads_are;
        stopped = so.stopped;
        part = event_lines u.build.steps events;
        adds = r.stands.written;
        written = record { front = events; rest = so.ends; whole = refl; only_ends = are_ends events so.ends so.open_ends; lines = refl };
        too_big = tt;
      }

  pub failed_told : IfSome x.disk IsConsistent → IfSome y.disk IsConsistent → AwaitFails x y → WaitTells plan made (moment x o) run (moment y o) (record run { waits = n }) (Err (stops.Files files.Host))
  failed_told was is f = both_map (StoppedTold made x y) (WaitsAt plan made (moment x o) run (moment y o) (record run { waits = n }) (Err (stops.Files files.Host))) x.disk y.disk (one_more_told made x x y (Err (record {})) is (no_wait_told made x was) f) (λ old new told u entry events here tells r.
      halted_in_run u entry events here old new tells r (ap (λ (z : Outside). z.reads) f.same) (ap (λ (z : Outside). z.children.given) f.same) told)
