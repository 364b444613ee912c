-- What looks tell of an update between two events, where the files are visible.
use Rattle.std.proofs.Common.{◌≡◌, inl, List, [], ◌++◌, Some, Result, Ok, Err, refl, sym, ap, subst, ◌∙◌}
use Rattle.std.specs.Prelude.{IfSome}
use Rattle.b2_host.specs.declared.children.ChildEvent.{ChildEvent}
use Rattle.b2_host.specs.Disks.{Disk, Folder, IsConsistent}
use Rattle.b2_host.specs.ChildProcesses.{Family}
use Rattle.b2_host.specs.Outside.{Read}
use Rattle.b2_host.specs.LogChanges.{ChangesOnlyLog, ChangesOnlyAt}
use Rattle.b2_host.specs.FileCalls.{log_path}
use Rattle.b2_host.specs.Output.{Output}
use Rattle.b2_host.specs.ReadsAdded.{AddsReads, adds_then}
use Rattle.b2_plan.specs.declared.plan.Plan.{Plan}
use Rattle.b2_plan.specs.Plans.{Apart, Makes}
use Rattle.b2_log.specs.declared.line.LogLine.{LogLine}
use Rattle.b2_runs.specs.Staleness.{Update}
use Rattle.b2_runs.specs.Soundness.{AreAtWork, IsAllowedChange}
use Rattle.b2_runs.specs.Outcomes.{LeavesNothing}
use Rattle.b2_runs.specs.Moments.{Moment}
use Rattle.b2_runs.specs.Reports.{event_lines}
use Rattle.b2_runs.proofs.BegunUpToStart.{run_is_begun}
use Rattle.b2_runs.proofs.DiskStaysSound.{log_is_allowed}
use Rattle.b2_runs.proofs.LinesFollow.{all_is_told}
use Rattle.b2_runs.proofs.OutputsAreNewer.{none_older_after_change}
use Rattle.b2_facts.specs.declared.stop.FilesStop.{FilesStop}
use Rattle.b2_facts.specs.declared.stop.FilesStop.TheVariants as files
use Rattle.b2_facts.specs.Facts.{Knowledge}
use Rattle.b2_drain.specs.Drains.{Made}
use Rattle.b2_reach.specs.declared.sights.Sights.{Sights}
use Rattle.b2_looks.specs.declared.looks.Looks.{Looks}
use Rattle.b2_looks.specs.Looks.{Follows}
use Rattle.b2_looks.specs.UnderWay.{IsStopOf, IsHalted, LookTold, IsUnderWay, AreTrueLooks}
use Rattle.b2_update.specs.declared.run.Run.{Run}
use Rattle.b2_update.specs.declared.stop.UpdateStop.TheVariants as stops
use Rattle.b2_update.specs.InRun.{HasRun, IsInRun, HasHalted, StopWritten, StopTooBig, Tells}
use Rattle.b2_update.proofs.LooksGoOn.{looked}
use Rattle.b2_update.proofs.UpdateStandsAtEntry.{told_by, grown}
use Rattle.b2_update.proofs.UpdateIsBegun.{at_both}

-- nothing was started or ended, and nothing written
pub record LooksOnly (here there : Moment) : Type 0 where
  pub only_log : ChangesOnlyLog here.host there.host
  pub out : there.out ≡ here.out

-- what has run stays so as the log's file changes
ran_looked : (u : Update) (entry here there : Moment) (events : List ChildEvent) (disk later : Disk) → Apart u.build.steps u.build.roots
    → (first : List LogLine) (reads : List Read) (s : Sights) → IsUnderWay u events first reads disk s → IsAllowedChange u events disk later
    → LooksOnly here there → HasRun u entry here events disk.now → HasRun u entry there events later.now
ran_looked u entry here there events disk later apart first reads s under change only ran =
    let same = only.only_log.children in
    record {
      are = ap (λ (f : Family). f.events) same ∙ ran.are;
      given = ran.given;
      given_are = subst (λ (f : Family). IfSome entry.host.children.given (λ list. f.given ≡ Some (list ++ ran.given))) (sym same) ran.given_are;
      given_closure = ran.given_closure;
      at_work = subst (λ (f : Family). AreAtWork u events f.running) (sym same) ran.at_work;
      none_older = none_older_after_change u events disk later apart (run_is_begun u events under.run).0 change ran.none_older;
    }

-- files that are gone stay gone where only the log's file has changed
gone_looked : (u : Update) (events : List ChildEvent) (disk later : Disk) → Apart u.build.steps u.build.roots → ChangesOnlyAt log_path disk later
    → LeavesNothing u events disk.now [] → LeavesNothing u events later.now []
gone_looked u events disk later apart only gone = record {
  files = λ i step path bad makes. only.others path (λ is_log. apart.not_log i step (subst (Makes u.build.steps i step) is_log makes)) ∙ gone.files i step path bad makes;
  records = λ i step bad at. refl;
}

log_changed : (u : Update) (events : List ChildEvent) (disk later : Disk) → IsConsistent later → ChangesOnlyAt log_path disk later → IsAllowedChange u events disk later
log_changed u events disk later consistent only = log_is_allowed u events disk later consistent (λ path not_log. only.others path not_log) (grown log_path disk later only)

written_at : (u : Update) (events : List ChildEvent) (now : Folder) (stop : FilesStop) → StopWritten u events now (stops.Files stop) (event_lines u.build.steps events)
written_at u events now files.Host = all_is_told u.build.steps events
written_at u events now files.OutOfMemory = inl (all_is_told u.build.steps events)
written_at u events now (files.TooBig number size) = all_is_told u.build.steps events

too_big_at : (u : Update) (events : List ChildEvent) (disk : Disk) (f : Knowledge) (stop : FilesStop) → IsStopOf u events disk f stop → StopTooBig u events disk.now f (stops.Files stop)
too_big_at u events disk f files.Host is = tt
too_big_at u events disk f files.OutOfMemory is = tt
too_big_at u events disk f (files.TooBig number size) is = is

module _ (plan : Plan) (made : Made) (here there : Moment) (run : Run) (l : Looks) (s : Sights) (only : LooksOnly here there) where
  looked_ok : (u : Update) (entry : Moment) (events : List ChildEvent) (disk later : Disk) (r : Result (Unit {0}) FilesStop) → ChangesOnlyAt log_path disk later
      → Follows events l → (is : IsInRun u entry here run disk events)
      → (more : List Read) → AddsReads more here.host.reads there.host.reads → IsUnderWay u events is.stands.first (is.stands.reads ++ more) later s → AreTrueLooks u events later s l
      → IsInRun u entry there (looked run l s) later events
  looked_ok u entry events disk later r changed follows is more adds under looks =
      let apart = under.apart in
      let change = log_changed u events disk later under.sight.consistent changed in
      record {
        stands = record {
          ran = ran_looked u entry here there events disk later apart is.stands.first is.stands.reads run.sights is.stands.under_way change only is.stands.ran;
          gone = gone_looked u events disk later apart changed is.stands.gone;
          first = is.stands.first;
          reads = is.stands.reads ++ more;
          reads_are = adds_then is.stands.reads more entry.host.reads here.host.reads there.host.reads is.stands.reads_are adds;
          under_way = under;
          true_looks = looks;
          written = ap (λ (o : Output). o.written) only.out ∙ is.stands.written;
        };
        counted = record { follows = follows; updated = is.counted.updated };
      }

  looked_err : (u : Update) (entry : Moment) (events : List ChildEvent) (disk later : Disk) (stop : FilesStop) → ChangesOnlyAt log_path disk later
      → (is : IsInRun u entry here run disk events)
      → (more : List Read) → AddsReads more here.host.reads there.host.reads → IsHalted u events (is.stands.reads ++ more) later s.facts stop
      → HasHalted u entry there s.facts later (stops.Files stop)
  looked_err u entry events disk later stop changed is more adds halted =
      let under = is.stands.under_way in
      let change = log_changed u events disk later halted.sound.keeps changed in
      let ran = ran_looked u entry here there events disk later under.apart is.stands.first is.stands.reads run.sights under change only is.stands.ran in
      record {
        events = events;
        are = ran.are;
        given = ran.given;
        given_are = ran.given_are;
        reads = is.stands.reads ++ more;
        reads_are = adds_then is.stands.reads more entry.host.reads here.host.reads there.host.reads is.stands.reads_are adds;
        stopped = record {
          begun = (run_is_begun u events under.run).0;
          given_closure = ran.given_closure;
          at_work = ran.at_work;
          sound = halted.sound;
          none_older = ran.none_older;
          once = halted.once;
          leave = halted.leave;
          cut = halted.cut;
        };
        part = event_lines u.build.steps events;
        adds = ap (λ (o : Output). o.written) only.out ∙ is.stands.written;
        written = written_at u events later.now stop;
        too_big = too_big_at u events later s.facts stop halted.too_big;
      }

  pub looks_tell_ok : (x : Unit {0}) → ((events : List ChildEvent) → Follows events run.looks → Follows events l)
      → LookTold plan here.host run.looks run.sights there.host l s (Ok x) → Tells plan made here run there (looked run l s) (Ok x)
  looks_tell_ok x follows told = told_by _ _ here.host.disk there.host.disk told (λ disk later at_here at_there look u entry events by distinct is.
      let goes = look u events is.stands.first is.stands.reads by.by distinct is.counted.follows is.stands.under_way is.stands.true_looks in (
        events,
        looked_ok u entry events disk later (Ok x) (at_both (ChangesOnlyAt log_path) here.host.disk there.host.disk disk later only.only_log.files at_here at_there)
            (follows events is.counted.follows) is goes.more goes.adds goes.after.0 goes.after.1,
      ))

  pub looks_tell_err : (stop : FilesStop) → LookTold {T = Unit {0}} plan here.host run.looks run.sights there.host l s (Err stop)
      → Tells {T = Unit {0}} plan made here run there (looked run l s) (Err (stops.Files stop))
  looks_tell_err stop told = told_by _ _ here.host.disk there.host.disk told (λ disk later at_here at_there look u entry events by distinct is.
      let goes = look u events is.stands.first is.stands.reads by.by distinct is.counted.follows is.stands.under_way is.stands.true_looks in
      looked_err u entry events disk later stop (at_both (ChangesOnlyAt log_path) here.host.disk there.host.disk disk later only.only_log.files at_here at_there)
      is goes.more goes.adds goes.after)
