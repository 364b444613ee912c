use Rattle.std.specs.Prelude.{◌≡◌, ℕ, ◌+◌, ◌≤◌, List, Bool, true, false, Result, Ok, Err}
use Rattle.b2_host.specs.declared.fault.Failed.{Failed}
use Rattle.b2_host.specs.declared.fault.IoFault.{IoFault}
use Rattle.b2_host.specs.declared.fault.IoFault.TheVariants as faults
use Rattle.b2_base.specs.Counts.{Rose}
use Rattle.b2_host.specs.ChildProcesses.{ChangesOnlyOutputs, BothTold, Ends, after_start}
use Rattle.b2_host.specs.Outside.{Outside, Fails}

-- the outside with one more child that runs
abbrev pub started : ℕ → List ℕ → List (List ℕ) → List (List ℕ) → Outside → Outside
started step text ins outs before = record before { children = after_start step text ins outs before.disk before.children }

-- a child is started, or none is
abbrev pub Starts : {T : Type 0} → ℕ → List ℕ → List (List ℕ) → List (List ℕ) → Outside → Outside → Result T IoFault → Type 0
Starts step text ins outs before after (Ok x) = after ≡ started step text ins outs before
Starts step text ins outs before after (Err faults.Failed) = Fails before after
Starts step text ins outs before after (Err faults.OutOfMemory) = after ≡ before

-- One of the children that ran has ended, well where none may end badly. All that it and the others did is in the files and
-- the child processes.
pub record Awaits (made : List ℕ → List (List ℕ × List ℕ) → List ℕ → List ℕ) (before : Outside) (step : ℕ) (well : Bool) (after : Outside) : Type 0 where
  pub ended : Ends made before.children before.disk step well after.children after.disk
  pub ends_well : before.risks.may_end_badly ≡ false → well ≡ true
  pub same : after ≡ record before { disk = after.disk; children = after.children }

-- A wait failed, where calls and waits may: both counts rose, that of failed waits by one at most, the same children run, and they
-- may have written on.
pub record AwaitFails (before after : Outside) : Type 0 where
  pub may_fail : before.risks.may_fail ≡ true
  pub wait_may_fail : before.risks.wait_may_fail ≡ true
  pub rose : Rose before.faults after.faults
  pub waits : Rose before.failed_waits after.failed_waits
  pub once : after.failed_waits ≤ before.failed_waits + 1
  pub worked : BothTold (ChangesOnlyOutputs before.children.running) before.disk after.disk
  pub same : after ≡ record before { disk = after.disk; faults = after.faults; failed_waits = after.failed_waits }

abbrev pub Waits : (List ℕ → List (List ℕ × List ℕ) → List ℕ → List ℕ) → Outside → Outside → Result (ℕ × Bool) Failed → Type 0
Waits made before after (Ok done) = Awaits made before done.0 done.1 after
Waits made before after (Err e) = AwaitFails before after
