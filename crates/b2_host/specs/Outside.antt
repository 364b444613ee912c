use Rattle.std.specs.Prelude.{◌≡◌, ℕ, List, Bool, true, Option, Result, Ok, Err}
use Rattle.b2_host.specs.declared.fault.Failed.{Failed}
use Rattle.b2_host.specs.declared.fault.IoFault.{IoFault}
use Rattle.b2_host.specs.declared.fault.IoFault.TheVariants as faults
use Rattle.b2_host.specs.Disks.{Disk}
use Rattle.b2_host.specs.ChildProcesses.{Family}
use Rattle.b2_base.specs.Counts.{Rose}

-- A read that was answered: its path, and the stamps that the file there and the log had then.
pub record Read : Type 0 where
  pub path : List ℕ
  pub stamp : Option ℕ
  pub log : Option ℕ

-- What may go wrong with a host, as it was told beforehand: that a call fails, and a wait is one; that a wait fails; and
-- that a child ends badly. No call of the traits changes it.
pub record Risks : Type 0 where
  pub may_fail : Bool
  pub wait_may_fail : Bool
  pub may_end_badly : Bool

-- All that a host is to its callers: its files and its reads, where they are visible; its child processes; how often a
-- call failed, and how often a wait did; and what may go wrong.
pub record Outside : Type 0 where
  pub disk : Option Disk
  pub reads : Option (List Read)
  pub children : Family
  pub faults : ℕ
  pub failed_waits : ℕ
  pub risks : Risks

-- The call failed, where one may: the count of faults rose, and nothing else changed.
pub record Fails (before after : Outside) : Type 0 where
  pub may_fail : before.risks.may_fail ≡ true
  pub rose : Rose before.faults after.faults
  pub same : after ≡ record before { faults = after.faults }

-- a call that changes nothing, or fails
abbrev pub Looks : {T : Type 0} → Outside → Outside → Result T Failed → Type 0
Looks before after (Ok x) = after ≡ before
Looks before after (Err e) = Fails before after

-- the same of a call that may also be out of memory
abbrev pub IoLooks : {T : Type 0} → Outside → Outside → Result T IoFault → Type 0
IoLooks before after (Ok x) = after ≡ before
IoLooks before after (Err faults.Failed) = Fails before after
IoLooks before after (Err faults.OutOfMemory) = after ≡ before
