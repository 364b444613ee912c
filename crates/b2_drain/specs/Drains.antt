-- What waiting for the children does that an update has left.
use Rattle.std.specs.Prelude.{◌≡◌, ◌⊎◌, ℕ, ◌+◌, ◌<◌, ◌≤◌, List, ◌++◌, length}
use Rattle.std.specs.List.{Contains}
use Rattle.b2_base.specs.Counts.{greatest_count}
use Rattle.b2_host.specs.declared.children.ChildEvent.{ChildEvent}
use Rattle.b2_host.specs.Disks.{Disk}
use Rattle.b2_host.specs.ChildProcesses.{Given, Child, BothTold}
use Rattle.b2_host.specs.Outside.{Outside, Read}
use Rattle.b2_host.specs.FileCalls.{log_path}
use Rattle.b2_host.specs.OutsideLaws.{Keeps}
use Rattle.b2_plan.specs.Plans.{Apart}
use Rattle.b2_runs.specs.Staleness.{Update}
use Rattle.b2_runs.specs.Runs.{IsBegun, OpenEnds, AreGivenClosures}
use Rattle.b2_runs.specs.Soundness.{Distinguishes, IsSound, IsAllowedChange, AreAtWork}
use Rattle.b2_runs.specs.PlanChildren.{AreOfOpenSteps}
use Rattle.b2_runs.specs.FileReads.{IsTooBig, ReadsOnce, ReadsLeaveLines}
use Rattle.b2_runs.specs.LogCourses.{IsLogCut}
use Rattle.b2_runs.specs.Afterwards.{NoneDoneOlder}
use Rattle.b2_runs.specs.UpdateAnswers.{WaitFailed}

-- what is made of bytes by the texts of steps
abbrev pub Made : Type 0
Made = List ℕ → List (List ℕ × List ℕ) → List ℕ → List ℕ

-- ---- over every host

-- Each wait was answered, and so many children are left.
pub record AllWaited (rest : ℕ) (before after : Outside) : Type 0 where
  pub faults : after.faults ≡ before.faults
  pub waits : after.failed_waits ≡ before.failed_waits
  pub left : length after.children.running ≡ rest

-- for each child that is left, but for so many, a wait failed, unless the count of failed waits can rise no more
abbrev pub WaitedForAllBut : ℕ → Outside → Outside → Type 0
WaitedForAllBut rest before after = (length after.children.running + before.failed_waits ≤ after.failed_waits + rest) ⊎ (greatest_count ≤ after.failed_waits)

-- All children but so many were waited for: no wait failed, and so many are left; or some did.
abbrev pub WaitedOut : ℕ → Outside → Outside → Type 0
WaitedOut rest before after = AllWaited rest before after ⊎ (WaitFailed before after × WaitedForAllBut rest before after)

-- Only ends came, of steps that were open, and what runs are the children of those that still are.
pub record EndsCame (events : List ChildEvent) (before after : Outside) : Type 0 where
  pub ends : List ChildEvent
  pub came : after.children.events ≡ before.children.events ++ ends
  pub open_ends : OpenEnds events ends
  pub left : AreOfOpenSteps (events ++ ends) after.children.running

-- All that waiting for all children but so many does to a host, whatever ran. At least so many are left, and one more for each
-- wait that failed, for none is tried again.
pub record Drains (rest : ℕ) (before after : Outside) : Type 0 where
  pub waited : WaitedOut rest before after
  pub at_least : rest ≤ length after.children.running
  pub not_again : after.failed_waits + rest ≤ before.failed_waits + length after.children.running
  pub keeps : Keeps before after
  pub reads : after.reads ≡ before.reads
  pub given : after.children.given ≡ before.children.given
  pub fewer : (child : Child) → Contains after.children.running child → Contains before.children.running child
  pub ends : (events : List ChildEvent) → AreOfOpenSteps events before.children.running → EndsCame events before after

-- ---- where the files are visible

-- An update has stopped, and its children may still run. The events are those of an update that was cut off anywhere. Each start
-- was given what it needs, and what runs is at work. The disk is sound, and no output that was made is older than what it was made
-- of. Each read was called for, and has left its line before the next. The log's file is one that may be left by an update that was
-- cut off.
pub record HasStopped (u : Update) (events : List ChildEvent) (given : List Given) (reads : List Read) (running : List Child) (disk : Disk) : Type 0 where
  pub begun : IsBegun u events
  pub given_closure : AreGivenClosures u events given
  pub at_work : AreAtWork u events running
  pub sound : IsSound u events disk
  pub none_older : NoneDoneOlder u events disk.now
  pub once : ReadsOnce u events disk.past reads
  pub leave : ReadsLeaveLines u disk.past reads
  pub cut : IsLogCut u events disk.now

-- An update that has stopped has done so with more ends. Nothing has changed but outputs of steps that ran or failed: the log's
-- file has not, and a file that was too big still is.
pub record StaysStopped (u : Update) (events : List ChildEvent) (given : List Given) (reads : List Read) (before after : Outside) (old new : Disk) : Type 0 where
  pub ends : List ChildEvent
  pub came : after.children.events ≡ before.children.events ++ ends
  pub open_ends : OpenEnds events ends
  pub stopped : HasStopped u (events ++ ends) given reads after.children.running new
  pub changed : IsAllowedChange u events old new
  pub log : new.now log_path ≡ old.now log_path
  pub too_big : (path : List ℕ) (size : ℕ) → IsTooBig u events old.now path size → IsTooBig u (events ++ ends) new.now path size

-- what waiting tells
abbrev pub DrainTold : Made → Outside → Outside → Type 0
DrainTold made before after = BothTold (λ old new. (u : Update) (events : List ChildEvent) (given : List Given) (reads : List Read) → Apart u.build.steps u.build.roots → u.build.made ≡ made → Distinguishes u new.past
    → HasStopped u events given reads before.children.running old → StaysStopped u events given reads before after old new) before.disk after.disk
