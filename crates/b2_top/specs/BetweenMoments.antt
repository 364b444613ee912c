-- What is told between two moments.
use Rattle.std.specs.Prelude.{◌≡◌, ◌⊎◌, ℕ, List, ◌++◌, Some, IfSome}
use Rattle.b2_base.specs.Counts.{Rose}
use Rattle.b2_host.specs.Disks.{Disk}
use Rattle.b2_host.specs.Outside.{Outside}
use Rattle.b2_host.specs.Output.{Output, with_written}
use Rattle.b2_runs.specs.Moments.{Moment}
use Rattle.b2_top.specs.Reports.{fault_report}
use Rattle.b2_top.specs.Writing.{FailsIn}

-- neither count of faults has changed
pub record CountsStay (before after : Moment) : Type 0 where
  pub host : after.host.faults ≡ before.host.faults
  pub sink : after.out.faults ≡ before.out.faults

-- The host failed: its count rose. That of the sink was still as at entry when the report of the fault began, which some
-- lines of ECHO may begin. From then on this report was written, or a beginning of it, where the sink failed too.
-- Whether it failed before the host did, in those lines, is not told.
pub record HostFailedBeforeReport (before after : Moment) : Type 0 where
  pub host : Rose before.host.faults after.host.faults
  pub out : Output
  pub sink : out.faults ≡ before.out.faults
  pub echoes : List (List ℕ)
  pub told : (after.out ≡ with_written (fault_report echoes) out) ⊎ FailsIn (fault_report echoes) out after.out

-- nothing was started, and no file has changed
pub record StaysStill (before after : Outside) : Type 0 where
  pub disk : after.disk ≡ before.disk
  pub children : after.children ≡ before.children

-- bytes of which this holds were written, where bytes are visible
abbrev pub Wrote : Output → Output → (List ℕ → Type 0) → Type 0
Wrote before after Holds =
    IfSome before.written (λ so_far. (written : List ℕ) × (after.written ≡ Some (so_far ++ written)) × Holds written)

-- this holds of the bytes that were written between two moments, where files and bytes are visible
abbrev pub WrittenTold : Moment → Moment → (Disk → List ℕ → Type 0) → Type 0
WrittenTold before after Holds = IfSome before.host.disk (λ disk. Wrote before.out after.out (Holds disk))
