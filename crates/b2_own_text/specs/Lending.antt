-- What holds of a host while it is lent.
use Rattle.std.specs.Prelude.{◌≡◌, ◌≤◌, ℕ, false}
use Rattle.b2_host.specs.Outside.{Outside}

-- Since a moment no count of failures fell. What may go wrong is the same, and what may not did not.
pub record HasKept (entry now : Outside) : Type 0 where
  pub faults : entry.faults ≤ now.faults
  pub waits : entry.failed_waits ≤ now.failed_waits
  pub risks : now.risks ≡ entry.risks
  pub no_fault : entry.risks.may_fail ≡ false → now.faults ≡ entry.faults
  pub no_failed_wait : entry.risks.wait_may_fail ≡ false → now.failed_waits ≡ entry.failed_waits
