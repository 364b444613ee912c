-- How an update begins, over a host whose files are visible.
use Rattle.std.proofs.Common.{◌≡◌, ℕ, List, [], ◌∷◌, ◌++◌, Option, Some, None, false, refl, sym, ap, subst, ◌∙◌, append-nil, arith}
use Rattle.std.specs.Prelude.{IfSome}
use Rattle.std.specs.List.{Contains}
use Rattle.std.proofs.lemmas.List.Elements.{Contains-append_left}
use Rattle.b2_host.specs.declared.children.ChildEvent.{ChildEvent}
use Rattle.b2_host.specs.Disks.{Disk, Past, IsConsistent}
use Rattle.b2_host.specs.ChildProcesses.{Family, Given, BothTold}
use Rattle.b2_host.specs.Outside.{Read}
use Rattle.b2_host.specs.OutsideLaws.{only_one}
use Rattle.b2_host.specs.FileCalls.{log_path}
use Rattle.b2_host.specs.LogChanges.{ChangesOnlyAt}
use Rattle.b2_host.specs.ReadsAdded.{AddsReads}
use Rattle.b2_plan.specs.Plans.{Apart}
use Rattle.b2_runs.specs.Logs.{RecordsTrue}
use Rattle.b2_runs.specs.Staleness.{Update, making}
use Rattle.b2_runs.specs.Soundness.{Distinguishes, IsSound, AreAtWork}
use Rattle.b2_runs.specs.FileReads.{ReadsOnce, ReadsLeaveLines}
use Rattle.b2_runs.specs.LogCourses.{IsLogCut}
use Rattle.b2_runs.specs.Moments.{Moment}
use Rattle.b2_runs.proofs.BegunUpToStart.{run_is_begun}
use Rattle.b2_runs.proofs.ChildrenFollowEvents.{at_work_at_entry}
use Rattle.b2_runs.proofs.DiskStaysSound.{sound_at_entry, sound_after_change, log_is_allowed}
use Rattle.b2_runs.proofs.OutputsAreNewer.{none_older_at_entry}
use Rattle.b2_runs.proofs.RecordIsTrue.{distinguishes_less}
use Rattle.b2_facts.specs.Facts.{Knowledge}
use Rattle.b2_endings.specs.Writings.{Adds}
use Rattle.b2_update.specs.declared.stop.UpdateStop.{UpdateStop}
use Rattle.b2_update.specs.InRun.{HasRun, HasHalted, StopWritten, StopTooBig}

-- a relation of two disks that follows from another one, where the disks are named
pub told_by : (Q P : Disk → Disk → Type 0) (x y : Option Disk) → BothTold Q x y
    → ((a b : Disk) → x ≡ Some a → y ≡ Some b → Q a b → P a b) → BothTold P x y
told_by Q P None None told f = tt
told_by Q P None (Some b) told f = absurd told
told_by Q P (Some a) None told f = absurd told
told_by Q P (Some a) (Some b) told f = f a b refl refl told

-- what stood before stands among the past afterwards
pub grown : (path : List ℕ) (before after : Disk) → ChangesOnlyAt path before after → (old : Past) → Contains before.past old → Contains after.past old
grown path before after only old among = subst (λ l. Contains l old) (sym only.past) (Contains-append_left before.past only.more old among)

-- nothing is written yet
pub writes_none : (before after : Option (List ℕ)) → after ≡ before → Adds [] before after
writes_none before after same = subst (Adds [] before) (sym same) (none before)
  where
    none : (so_far : Option (List ℕ)) → Adds [] so_far so_far
    none None = refl
    none (Some text) = ap Some (sym (append-nil text))

-- nothing is given yet
given_none : (before after : Option (List Given)) → after ≡ before → IfSome before (λ list. after ≡ Some (list ++ []))
given_none None after same = tt
given_none (Some list) after same = same ∙ ap Some (sym (append-nil list))

-- a read of the log is no read that is called for
pub log_once : (u : Update) (events : List ChildEvent) (past : List Past) (read : Read) → read.path ≡ log_path → ReadsOnce u events past (read ∷ [])
log_once u events past read at other among outside = absurd (outside (sym (ap (λ (r : Read). r.path) (only_one read other among)) ∙ at))

pub log_leaves : (u : Update) (past : List Past) (read : Read) → ReadsLeaveLines u past (read ∷ [])
log_leaves u past read i j d less within = absurd (omega (arith, less, within))

-- ---- the disk

-- where only the log's file has changed, the disk is sound to an update that begins
pub sound_begins : (u : Update) (disk later : Disk) → Apart u.build.steps u.build.roots → IsConsistent disk → IsConsistent later
    → (u.all ≡ false → RecordsTrue (making u) disk.past u.log) → u.build.folder ≡ disk.now → ChangesOnlyAt log_path disk later
    → Distinguishes u later.past → IsSound u [] later
sound_begins u disk later apart consistent consistent_later records folder only distinct =
    let grows = grown log_path disk later only in
    sound_after_change u [] disk later apart
    (sound_at_entry u disk consistent records (λ path. ap (λ f. f path) folder) (distinguishes_less u disk.past later.past grows distinct))
    (log_is_allowed u [] disk later consistent_later (λ path not_log. only.others path not_log) grows) distinct

-- ---- what has happened

pub ran_none : (u : Update) (entry here : Moment) (later : Disk) → entry.host.children.running ≡ [] → here.host.children ≡ entry.host.children
    → HasRun u entry here [] later.now
ran_none u entry here later idle same = record {
  are = ap (λ (f : Family). f.events) same ∙ sym (append-nil entry.host.children.events);
  given = [];
  given_are = given_none entry.host.children.given here.host.children.given (ap (λ (f : Family). f.given) same);
  given_closure = tt;
  at_work = subst (AreAtWork u []) (sym (ap (λ (f : Family). f.running) same ∙ idle)) (at_work_at_entry u);
  none_older = none_older_at_entry u later.now;
}

-- an update that has stopped before any event
pub halted_begins : (u : Update) (entry here : Moment) (f : Knowledge) (disk later : Disk) (stop : UpdateStop) (reads : List Read)
    → Apart u.build.steps u.build.roots → entry.host.children.running ≡ [] → here.host.children ≡ entry.host.children
    → here.out ≡ entry.out → IsConsistent disk → IsConsistent later → (u.all ≡ false → RecordsTrue (making u) disk.past u.log)
    → u.build.folder ≡ disk.now → ChangesOnlyAt log_path disk later → Distinguishes u later.past
    → AddsReads reads entry.host.reads here.host.reads → ReadsOnce u [] later.past reads → ReadsLeaveLines u later.past reads
    → IsLogCut u [] later.now → StopWritten u [] later.now stop [] → StopTooBig u [] later.now f stop
    → HasHalted u entry here f later stop
halted_begins u entry here f disk later stop reads apart idle same out consistent consistent_later records folder only distinct adds once leave cut written too_big =
    let ran = ran_none u entry here later idle same in
    record {
      events = [];
      are = ran.are;
      given = ran.given;
      given_are = ran.given_are;
      reads = reads;
      reads_are = adds;
      stopped = record {
        begun = (run_is_begun u [] tt).0;
        given_closure = ran.given_closure;
        at_work = ran.at_work;
        sound = sound_begins u disk later apart consistent consistent_later records folder only distinct;
        none_older = ran.none_older;
        once = once;
        leave = leave;
        cut = cut;
      };
      part = [];
      adds = writes_none entry.out.written here.out.written (ap (λ o. o.written) out);
      written = written;
      too_big = too_big;
    }
