-- An update that is between two events stops where a call of the host failed, or no memory was left.
use Rattle.std.specs.Prelude.{⊤}
use Rattle.std.proofs.Common.{◌≡◌, ℕ, inl, List, [], ◌++◌, Option, Some, IfSome, sym, ap, subst, ◌∙◌, append-nil}
use Rattle.b2_host.specs.declared.children.ChildEvent.{ChildEvent}
use Rattle.b2_host.specs.Disks.{Folder, Disk}
use Rattle.b2_host.specs.ChildProcesses.{Given, Family}
use Rattle.b2_host.specs.Outside.{Read}
use Rattle.b2_host.specs.ReadsAdded.{AddsReads}
use Rattle.b2_log.specs.declared.line.LogLine.{LogLine}
use Rattle.b2_runs.specs.Staleness.{Update}
use Rattle.b2_runs.specs.Moments.{Moment}
use Rattle.b2_runs.specs.Soundness.{AreAtWork}
use Rattle.b2_runs.specs.Reports.{event_lines}
use Rattle.b2_runs.specs.LogCourses.{IsLogCut, IsLogCut.between}
use Rattle.b2_runs.proofs.BegunUpToStart.{run_is_begun}
use Rattle.b2_runs.proofs.LinesFollow.{all_is_told}
use Rattle.b2_facts.specs.declared.stop.FilesStop.TheVariants as files
use Rattle.b2_facts.specs.Facts.{Knowledge}
use Rattle.b2_reach.specs.declared.sights.Sights.{Sights}
use Rattle.b2_looks.specs.declared.looks.Looks.{Looks}
use Rattle.b2_looks.specs.UnderWay.{IsUnderWay}
use Rattle.b2_endings.specs.Writings.{Adds}
use Rattle.b2_update.specs.declared.run.Run.{Run}
use Rattle.b2_update.specs.declared.stop.UpdateStop.{UpdateStop}
use Rattle.b2_update.specs.declared.stop.UpdateStop.TheVariants as stops
use Rattle.b2_update.specs.InRun.{HasRun, StandsInRun, IsInRun, StopWritten, StopTooBig, HasHalted}

-- between these moments no child started or ended, no read was answered and nothing was written
pub record StandsStill (here there : Moment) : Type 0 where
  pub children : there.host.children ≡ here.host.children
  pub reads : there.host.reads ≡ here.host.reads
  pub written : there.out.written ≡ here.out.written

-- the update stopped at a call of the host that failed, or out of memory
abbrev pub IsOfCall : UpdateStop → Type 0
IsOfCall (stops.Files files.Host) = ⊤
IsOfCall (stops.Files files.OutOfMemory) = ⊤
IsOfCall (stops.Files (files.TooBig number size)) = ⊥
IsOfCall stops.Sink = ⊥

-- between two events the log's file is one that an update may leave that was cut off
pub log_is_cut : (u : Update) (events : List ChildEvent) (first : List LogLine) (reads : List Read) (disk : Disk) (sights : Sights) → IsUnderWay u events first reads disk sights → IsLogCut u events disk.now
log_is_cut u events first reads disk sights under = between first sights.journal events [] (sym (append-nil events)) under.run tt under.begins under.course under.good under.file

-- what has run still has, where no child has started or ended since
pub ran_still : (u : Update) (entry here there : Moment) (events : List ChildEvent) (now : Folder) → HasRun u entry here events now → there.host.children ≡ here.host.children → HasRun u entry there events now
ran_still u entry here there events now ran same = record {
  are = ap (λ (family : Family). family.events) same ∙ ran.are;
  given = ran.given;
  given_are = given_so entry.host.children.given ran.given_are;
  given_closure = ran.given_closure;
  at_work = subst (AreAtWork u events) (sym (ap (λ (family : Family). family.running) same)) ran.at_work;
  none_older = ran.none_older;
}
  where
    given_so : (before : Option (List Given)) → IfSome before (λ list. here.host.children.given ≡ Some (list ++ ran.given)) → IfSome before (λ list. there.host.children.given ≡ Some (list ++ ran.given))
    given_so before told = subst (λ (family : Family). IfSome before (λ list. family.given ≡ Some (list ++ ran.given))) (sym same) told

-- an update that is under way has stopped, where what was written and a file that is too big are as the stop says
pub run_halts : (u : Update) (entry there : Moment) (events : List ChildEvent) (first : List LogLine) (reads : List Read) (disk : Disk) (sights : Sights) (f : Knowledge) (stop : UpdateStop) (part : List ℕ) → HasRun u entry there events disk.now
    → AddsReads reads entry.host.reads there.host.reads → IsUnderWay u events first reads disk sights → Adds part entry.out.written there.out.written → StopWritten u events disk.now stop part → StopTooBig u events disk.now f stop
    → HasHalted u entry there f disk stop
run_halts u entry there events first reads disk sights f stop part ran reads_are under adds written too_big = record {
  events = events;
  are = ran.are;
  given = ran.given;
  given_are = ran.given_are;
  reads = reads;
  reads_are = reads_are;
  stopped = record {
    begun = (run_is_begun u events under.run).0;
    given_closure = ran.given_closure;
    at_work = ran.at_work;
    sound = under.sound;
    none_older = ran.none_older;
    once = under.once;
    leave = under.leave;
    cut = log_is_cut u events first reads disk sights under;
  };
  part = part;
  adds = adds;
  written = written;
  too_big = too_big;
}

-- so it is between two events
pub stands_halts : (u : Update) (entry here there : Moment) (sights : Sights) (looks : Looks) (f : Knowledge) (disk : Disk) (events : List ChildEvent) (stop : UpdateStop) → StandsInRun u entry here sights looks disk events → StandsStill here there
    → StopWritten u events disk.now stop (event_lines u.build.steps events) → StopTooBig u events disk.now f stop → HasHalted u entry there f disk stop
stands_halts u entry here there sights looks f disk events stop is still written too_big =
    run_halts u entry there events is.first is.reads disk sights f stop (event_lines u.build.steps events) (ran_still u entry here there events disk.now is.ran still.children) (subst (AddsReads is.reads entry.host.reads) (sym still.reads) is.reads_are) is.under_way
    (still.written ∙ is.written) written too_big

-- so it has stopped where a call of the host failed, or no memory was left
pub in_run_halts : (u : Update) (entry here there : Moment) (run : Run) (f : Knowledge) (disk : Disk) (events : List ChildEvent) (stop : UpdateStop) → IsInRun u entry here run disk events → StandsStill here there → IsOfCall stop
    → HasHalted u entry there f disk stop
in_run_halts u entry here there run f disk events (stops.Files files.Host) is still of_call =
    stands_halts u entry here there run.sights run.looks f disk events (stops.Files files.Host) is.stands still (all_is_told u.build.steps events) tt
in_run_halts u entry here there run f disk events (stops.Files files.OutOfMemory) is still of_call =
    stands_halts u entry here there run.sights run.looks f disk events (stops.Files files.OutOfMemory) is.stands still (inl (all_is_told u.build.steps events)) tt
in_run_halts u entry here there run f disk events (stops.Files (files.TooBig number size)) is still of_call = absurd of_call
in_run_halts u entry here there run f disk events stops.Sink is still of_call = absurd of_call
