-- What settling a step tells whose child has ended, where the files are visible.
use Rattle.std.proofs.Common.{◌≡◌, ◌≢◌, ℕ, Bool, true, false, List, [], ◌∷◌, ◌++◌, inl, inr, Option, Some, None, IfSome, Result, Ok, Err, MatchResult, refl, sym, ap, subst, subst₂, ◌∙◌, append-nil, codes}
use Rattle.b2_base.specs.Lists.{first_of}
use Rattle.b2_host.specs.declared.children.ChildEvent.{ChildEvent}
use Rattle.b2_host.specs.declared.children.ChildEvent.TheVariants.{Done}
use Rattle.b2_host.specs.declared.fault.IoFault.{IoFault}
use Rattle.b2_host.specs.declared.fault.IoFault.TheVariants as io
use Rattle.b2_host.specs.Disks.{Folder, Disk, IsConsistent}
use Rattle.b2_host.specs.ChildProcesses.{Family, BothTold}
use Rattle.b2_host.specs.FileCalls.{log_path}
use Rattle.b2_host.specs.LogChanges.{ChangesOnlyLog, ChangesOnlyAt}
use Rattle.b2_host.specs.Outside.{Outside, Read}
use Rattle.b2_host.specs.Output.{Output, with_written}
use Rattle.b2_host.specs.ReadsAdded.{AddsReads, adds_then}
use Rattle.b2_plan.specs.declared.plan.Plan.{Plan}
use Rattle.b2_plan.specs.declared.step.Step.{Step}
use Rattle.b2_plan.specs.Plans.{step_at, Makes, Apart}
use Rattle.b2_runs.specs.Staleness.{Update}
use Rattle.b2_runs.specs.Runs.{IsRunSoFar}
use Rattle.b2_runs.specs.Moments.{Moment}
use Rattle.b2_runs.specs.Outcomes.{LeavesNothing}
use Rattle.b2_runs.specs.Reports.{named, said_of, failed_line, event_line, event_lines, TellsStarts, StopsAtEvent}
use Rattle.b2_runs.specs.Soundness.{Distinguishes, IsAllowedChange, AreAtWork}
use Rattle.b2_runs.specs.UpdateAnswers.{StopsWithLog}
use Rattle.b2_runs.proofs.BegunUpToStart.{run_is_begun}
use Rattle.b2_runs.proofs.FailuresLeaveNothing.{nothing_left_after_good_end, nothing_left_after_bad_end}
use Rattle.b2_runs.proofs.LinesFollow.{lines_follow, all_is_told, told_through_ends}
use Rattle.b2_runs.proofs.OutputsAreNewer.{none_older_after_change}
use Rattle.b2_runs.proofs.RunGoesOn.{run_goes_on}
use Rattle.b2_drain.specs.Drains.{Made}
use Rattle.b2_facts.specs.declared.stop.FilesStop.{FilesStop}
use Rattle.b2_facts.specs.declared.stop.FilesStop.TheVariants as files
use Rattle.b2_reach.specs.declared.sights.Sights.{Sights}
use Rattle.b2_looks.specs.UnderWay.{IsUnderWay, AreTrueLooks, IsStopOf, IsHalted}
use Rattle.b2_looks.proofs.UpdateStays.{is_going, going_cut, log_allowed}
use Rattle.b2_turns.specs.Ends.{StandsNoMore, MadeTold, ClearTold}
use Rattle.b2_endings.specs.Writings.{Adds, AddsPart, Says}
use Rattle.b2_update.proofs.TextsAreAdded.{adds_both}
use Rattle.b2_update.specs.declared.run.Run.{Run}
use Rattle.b2_update.specs.declared.stop.UpdateStop.{UpdateStop}
use Rattle.b2_update.specs.declared.stop.UpdateStop.TheVariants as stops
use Rattle.b2_update.specs.Moments.{moment}
use Rattle.b2_update.specs.Stops.{sink_stop_of}
use Rattle.b2_update.specs.InRun.{IsUpdateHere, HasRun, StandsInRun, IsCounted, HasHeardInRun, StopWritten, StopTooBig, HasHalted, SettleTells}
use Rattle.b2_update.proofs.WaitTellsEnd.{both_at, may_stop}

-- what settling tells of these files
abbrev pub SettlesAt : Plan → Made → ℕ → Bool → Moment → Run → Moment → Run → Result Bool UpdateStop → Disk → Disk → Type 0
SettlesAt plan made i well before run after later result old new = (u : Update) (entry : Moment) (events : List ChildEvent) → IsUpdateHere plan made run u → Distinguishes u new.past → HasHeardInRun u i well entry before run old events
    → MatchResult result (λ updated. (updated ≡ well) × StandsInRun u entry after later.sights later.looks new (events ++ Done i well ∷ []) × IsCounted events later) (λ stop. HasHalted u entry after later.sights.facts new stop)

-- a line is not empty
line_some : (text : List ℕ) → text ++ 10 ∷ [] ≢ []
line_some [] e = cc
line_some (c ∷ text) e = cc

failed_line_some : (step : Step) → failed_line step ≢ []
failed_line_some step = line_some (codes "...failed " ++ named step.name (first_of step.outs) ++ codes "...")

-- nothing is left of failures still where only the log has changed, or no more files stand
left_with_fewer : (u : Update) (events : List ChildEvent) (before after : Folder) → Apart u.build.steps u.build.roots → ((path : List ℕ) → path ≢ log_path → before path ≡ None → after path ≡ None) → LeavesNothing u events before [] → LeavesNothing u events after []
left_with_fewer u events before after apart fewer left = record {
  files = λ i step path bad makes. fewer path (λ is_log. apart.not_log i step (subst (Makes u.build.steps i step) is_log makes)) (left.files i step path bad makes);
  records = left.records;
}

-- ---- after the end

module _ (u : Update) (i : ℕ) (well : Bool) (entry : Moment) (x y : Outside) (o : Output) (run : Run) (old new : Disk) (events : List ChildEvent) (h : HasHeardInRun u i well entry (moment x o) run old events) (children : y.children ≡ x.children) where
  -- the children are at work as before
  ran_still : (p : Output) → IsAllowedChange u (events ++ Done i well ∷ []) old new → HasRun u entry (moment y p) (events ++ Done i well ∷ []) new.now
  ran_still p change =
      let run_then : IsRunSoFar u (events ++ Done i well ∷ []) = run_goes_on u events (Done i well) h.ended.run h.ended.may_come in
      record {
        are = ap (λ (f : Family). f.events) children ∙ h.ran.are;
        given = h.ran.given;
        given_are = subst (λ (f : Family). IfSome entry.host.children.given (λ list. f.given ≡ Some (list ++ h.ran.given))) (sym children) h.ran.given_are;
        given_closure = h.ran.given_closure;
        at_work = subst (λ (f : Family). AreAtWork u (events ++ Done i well ∷ []) f.running) (sym children) h.ran.at_work;
        none_older = none_older_after_change u (events ++ Done i well ∷ []) old new h.ended.apart (run_is_begun u (events ++ Done i well ∷ []) run_then).0 change h.ran.none_older;
      }

  each_start_told : TellsStarts u.build.steps (events ++ Done i well ∷ []) (event_lines u.build.steps events)
  each_start_told = told_through_ends u.build.steps events (event_lines u.build.steps events) i well (all_is_told u.build.steps events)

  written_at : (stop : FilesStop) → StopWritten u (events ++ Done i well ∷ []) new.now (stops.Files stop) (event_lines u.build.steps events)
  written_at files.Host = each_start_told
  written_at files.OutOfMemory = inl each_start_told
  written_at (files.TooBig number size) = each_start_told

  too_big_at : (t : Sights) (stop : FilesStop) → IsStopOf u (events ++ Done i well ∷ []) new t.facts stop → StopTooBig u (events ++ Done i well ∷ []) new.now t.facts (stops.Files stop)
  too_big_at t files.Host is = tt
  too_big_at t files.OutOfMemory is = tt
  too_big_at t (files.TooBig number size) is = is

  -- work on files stopped
  halted_at_files : (t : Sights) (more : List Read) → AddsReads more x.reads y.reads → HasRun u entry (moment y o) (events ++ Done i well ∷ []) new.now → (stop : FilesStop) → IsHalted u (events ++ Done i well ∷ []) (h.reads ++ more) new t.facts stop
      → HasHalted u entry (moment y o) t.facts new (stops.Files stop)
  halted_at_files t more adds ran stop is = record {
    events = events ++ Done i well ∷ [];
    are = ran.are;
    given = ran.given;
    given_are = ran.given_are;
    reads = h.reads ++ more;
    reads_are = adds_then h.reads more entry.host.reads x.reads y.reads h.reads_are adds;
    stopped = record {
      begun = (run_is_begun u (events ++ Done i well ∷ []) (run_goes_on u events (Done i well) h.ended.run h.ended.may_come)).0;
      given_closure = ran.given_closure;
      at_work = ran.at_work;
      sound = is.sound;
      none_older = ran.none_older;
      once = is.once;
      leave = is.leave;
      cut = is.cut;
    };
    part = event_lines u.build.steps events;
    adds = h.written;
    written = written_at stop;
    too_big = too_big_at t stop is.too_big;
  }

  -- the update is under way after the end
  stands_after : (p : Output) (t : Sights) (more : List Read) → AddsReads more x.reads y.reads → HasRun u entry (moment y p) (events ++ Done i well ∷ []) new.now → LeavesNothing u (events ++ Done i well ∷ []) new.now []
      → IsUnderWay u (events ++ Done i well ∷ []) h.first (h.reads ++ more) new t → AreTrueLooks u (events ++ Done i well ∷ []) new t run.looks → Adds (event_lines u.build.steps (events ++ Done i well ∷ [])) entry.out.written p.written
      → StandsInRun u entry (moment y p) t run.looks new (events ++ Done i well ∷ [])
  stands_after p t more adds ran gone under looks written = record {
    ran = ran;
    gone = gone;
    first = h.first;
    reads = h.reads ++ more;
    reads_are = adds_then h.reads more entry.host.reads x.reads y.reads h.reads_are adds;
    under_way = under;
    true_looks = looks;
    written = written;
  }

  counted_still : (t : Sights) → IsCounted events (record run { sights = t })
  counted_still t = record { follows = h.counted.follows; updated = h.counted.updated }

-- ---- a good end

module _ (plan : Plan) (made : Made) (i : ℕ) (x y : Outside) (o : Output) (run : Run) (t : Sights) (consistent : IfSome y.disk IsConsistent) (only : ChangesOnlyLog x y) where
  pub noted_told : MadeTold plan run.looks i x run.sights y t (Ok true) → SettleTells plan made i true (moment x o) run (moment y o) (record run { sights = t }) (Ok true)
  noted_told told = both_at (ChangesOnlyAt log_path) (SettlesAt plan made i true (moment x o) run (moment y o) (record run { sights = t }) (Ok true)) x.disk y.disk only.files (λ old new is_old is_new at u entry events here tells h.
      let so = subst₂ (λ a b. MadeTold plan run.looks i (record x { disk = a }) run.sights (record y { disk = b }) t (Ok true)) is_old is_new told u events h.first h.reads here.by tells h.ended h.true_looks in
      let change = log_allowed u (events ++ Done i true ∷ []) h.first old new at (subst (λ d. IfSome d IsConsistent) is_new consistent) in
      let same : event_lines u.build.steps (events ++ Done i true ∷ []) ≡ event_lines u.build.steps events = lines_follow u.build.steps events (Done i true ∷ []) ∙ append-nil (event_lines u.build.steps events) in (
        refl,
        stands_after u i true entry x y o run old new events h only.children o t so.more so.adds (ran_still u i true entry x y o run old new events h only.children o change)
            (left_with_fewer u (events ++ Done i true ∷ []) old.now new.now h.ended.apart (λ path not_log none. at.others path not_log ∙ none) (nothing_left_after_good_end u events old.now [] i h.gone)) so.after.1 so.after.2
            (subst (λ text. Adds text entry.out.written o.written) (sym same) h.written),
        counted_still u i true entry x y o run old new events h only.children t,
      ))

  pub note_stop_told : (stop : FilesStop) → MadeTold plan run.looks i x run.sights y t (Err stop) → SettleTells plan made i true (moment x o) run (moment y o) (record run { sights = t }) (Err (stops.Files stop))
  note_stop_told stop told = both_at (ChangesOnlyAt log_path) (SettlesAt plan made i true (moment x o) run (moment y o) (record run { sights = t }) (Err (stops.Files stop))) x.disk y.disk only.files (λ old new is_old is_new at u entry events here tells h.
      let so = subst₂ (λ a b. MadeTold plan run.looks i (record x { disk = a }) run.sights (record y { disk = b }) t (Err stop)) is_old is_new told u events h.first h.reads here.by tells h.ended h.true_looks in
      let change = log_allowed u (events ++ Done i true ∷ []) h.first old new at (subst (λ d. IfSome d IsConsistent) is_new consistent) in
      halted_at_files u i true entry x y o run old new events h only.children t so.more so.adds (ran_still u i true entry x y o run old new events h only.children o change) stop so.after)

-- ---- a bad end

module _ (plan : Plan) (made : Made) (i : ℕ) (x y : Outside) (o : Output) (run : Run) (t : Sights) (children : y.children ≡ x.children) (fewer : BothTold StandsNoMore x.disk y.disk) where
  pub clear_stop_told : (stop : FilesStop) → ClearTold plan run.looks i x run.sights y t (Err stop) → SettleTells plan made i false (moment x o) run (moment y o) (record run { sights = t }) (Err (stops.Files stop))
  clear_stop_told stop told = both_at StandsNoMore (SettlesAt plan made i false (moment x o) run (moment y o) (record run { sights = t }) (Err (stops.Files stop))) x.disk y.disk fewer (λ old new is_old is_new none u entry events here tells h.
      let (change, so) = subst₂ (λ a b. ClearTold plan run.looks i (record x { disk = a }) run.sights (record y { disk = b }) t (Err stop)) is_old is_new told u events h.first h.reads here.by tells h.ended h.true_looks in
      halted_at_files u i false entry x y o run old new events h children t so.more so.adds (ran_still u i false entry x y o run old new events h children o change) stop so.after)

  module _ (step : Step) (at : step_at plan.steps i ≡ Some step) (p : Output) (told : ClearTold plan run.looks i x run.sights y t (Ok tt)) where
    line_is : (steps : List Step) → step_at steps i ≡ Some step → event_line steps (Done i false) ≡ failed_line step
    line_is steps here = ap (said_of failed_line) here

    pub failed_told : p ≡ with_written (failed_line step) o → SettleTells plan made i false (moment x o) run (moment y p) (record run { sights = t }) (Ok false)
    failed_told said = both_at StandsNoMore (SettlesAt plan made i false (moment x o) run (moment y p) (record run { sights = t }) (Ok false)) x.disk y.disk fewer (λ old new is_old is_new none u entry events here tells h.
        let steps = u.build.steps in
        let at_u : step_at steps i ≡ Some step = ap (λ (s : List Step). step_at s i) here.by.steps ∙ at in
        let (change, so) = subst₂ (λ a b. ClearTold plan run.looks i (record x { disk = a }) run.sights (record y { disk = b }) t (Ok tt)) is_old is_new told u events h.first h.reads here.by tells h.ended h.true_looks in
        let gone = nothing_left_after_bad_end u events new.now [] i (left_with_fewer u events old.now new.now h.ended.apart none h.gone) (λ other path makes. so.after.0 other path (subst (λ (s : List Step). Makes s i other path) here.by.steps makes)) (λ other here. refl) in
        let lines : event_lines steps (events ++ Done i false ∷ []) ≡ event_lines steps events ++ failed_line step =
        lines_follow steps events (Done i false ∷ []) ∙ ap (λ text. event_lines steps events ++ text) (append-nil (event_line steps (Done i false)) ∙ line_is steps at_u) in (
          refl,
          stands_after u i false entry x y o run old new events h children p t so.more so.adds (ran_still u i false entry x y o run old new events h children p change) gone so.after.1 so.after.2
              (subst (λ text. Adds text entry.out.written p.written) (sym lines) (adds_both (event_lines steps events) (failed_line step) entry.out.written o.written p.written h.written (ap (λ (out : Output). out.written) said))),
          counted_still u i false entry x y o run old new events h children t,
        ))

    -- the line was not written, or in part
    halted_at_line : (u : Update) (entry : Moment) (events : List ChildEvent) (old new : Disk) (h : HasHeardInRun u i false entry (moment x o) run old events) → step_at u.build.steps i ≡ Some step → IsAllowedChange u (events ++ Done i false ∷ []) old new → (more : List Read) → AddsReads more x.reads y.reads
        → IsUnderWay u (events ++ Done i false ∷ []) h.first (h.reads ++ more) new t → (stop : UpdateStop) → ((part : List ℕ) → StopsWithLog u (events ++ Done i false ∷ []) new.now part → StopWritten u (events ++ Done i false ∷ []) new.now stop part) → StopTooBig u (events ++ Done i false ∷ []) new.now t.facts stop → AddsPart (failed_line step) o.written p.written
        → HasHalted u entry (moment y p) t.facts new stop
    halted_at_line u entry events old new h at_u change more adds under stop so_written too_big said =
        let ran = ran_still u i false entry x y o run old new events h children p change in
        let steps = u.build.steps in
        let part = event_lines steps events ++ said.part in
        let stops_at : StopsAtEvent steps (events ++ Done i false ∷ []) part = record {
          front = events;
          event = Done i false;
          rest = [];
          whole = refl;
          only_ends = tt;
          has_line = λ none. failed_line_some step (sym (line_is steps at_u) ∙ none);
          part = said.part;
          begins = (said.rest, line_is steps at_u ∙ said.whole);
          lines = refl;
        } in
        record {
          events = events ++ Done i false ∷ [];
          are = ran.are;
          given = ran.given;
          given_are = ran.given_are;
          reads = h.reads ++ more;
          reads_are = adds_then h.reads more entry.host.reads x.reads y.reads h.reads_are adds;
          stopped = may_stop u (events ++ Done i false ∷ []) h.first (h.reads ++ more) new t ran.given y.children.running under ran.given_closure ran.at_work ran.none_older;
          part = part;
          adds = adds_both (event_lines steps events) said.part entry.out.written o.written p.written h.written said.adds;
          written = so_written part (inl (stops_at, going_cut u (events ++ Done i false ∷ []) h.first (h.reads ++ more) new t.journal (is_going u (events ++ Done i false ∷ []) h.first (h.reads ++ more) new t under)));
          too_big = too_big;
        }

    pub line_stop_told : (fault : IoFault) → Says {T = Unit {0}} (failed_line step) o p (Err fault) → SettleTells plan made i false (moment x o) run (moment y p) (record run { sights = t }) (Err (sink_stop_of fault))
    line_stop_told fault said = both_at StandsNoMore (SettlesAt plan made i false (moment x o) run (moment y p) (record run { sights = t }) (Err (sink_stop_of fault))) x.disk y.disk fewer (λ old new is_old is_new none u entry events here tells h.
        let (change, so) = subst₂ (λ a b. ClearTold plan run.looks i (record x { disk = a }) run.sights (record y { disk = b }) t (Ok tt)) is_old is_new told u events h.first h.reads here.by tells h.ended h.true_looks in
        by_fault u entry events old new h (ap (λ (s : List Step). step_at s i) here.by.steps ∙ at) change so.more so.adds so.after.1 fault said)
      where
        by_fault : (u : Update) (entry : Moment) (events : List ChildEvent) (old new : Disk) (h : HasHeardInRun u i false entry (moment x o) run old events) → step_at u.build.steps i ≡ Some step → IsAllowedChange u (events ++ Done i false ∷ []) old new → (more : List Read) → AddsReads more x.reads y.reads
            → IsUnderWay u (events ++ Done i false ∷ []) h.first (h.reads ++ more) new t → (f : IoFault) → Says {T = Unit {0}} (failed_line step) o p (Err f) → HasHalted u entry (moment y p) t.facts new (sink_stop_of f)
        by_fault u entry events old new h at_u change more adds under io.Failed (failed, part, may) = halted_at_line u entry events old new h at_u change more adds under stops.Sink (λ text stopped. stopped) tt part
        by_fault u entry events old new h at_u change more adds under io.OutOfMemory (same, part, may) = halted_at_line u entry events old new h at_u change more adds under (stops.Files files.OutOfMemory) (λ text stopped. inr stopped) tt part

-- what is told of a result is told of the same one
pub settles_with : (plan : Plan) (made : Made) (i : ℕ) (well : Bool) (before : Moment) (run : Run) (after : Moment) (later : Run) (r s : Result Bool UpdateStop) → r ≡ s → SettleTells plan made i well before run after later s → SettleTells plan made i well before run after later r
settles_with plan made i well before run after later r s e told = subst (SettleTells plan made i well before run after later) (sym e) told

-- nothing is told where no file is visible
pub unseen_told : (plan : Plan) (made : Made) (i : ℕ) (well : Bool) (before : Moment) (run : Run) (after : Moment) (later : Run) (r : Result Bool UpdateStop) → before.host.disk ≡ None → after.host.disk ≡ None → SettleTells plan made i well before run after later r
unseen_told plan made i well before run after later r none unseen = go before.host.disk after.host.disk none unseen
  where
    go : (x y : Option Disk) → x ≡ None → y ≡ None → BothTold (SettlesAt plan made i well before run after later r) x y
    go None None e f = tt
    go None (Some new) e f = absurd (let h : Some new ≡ None = f in cc)
    go (Some old) y e f = absurd (let h : Some old ≡ None = e in cc)
