-- The plan that files and free words come to, or why there is none. The free words are those of a command, if it was asked for.
use Rattle.std.specs.Prelude.{◌≡◌, ◌⊎◌, ℕ, List, [], ◌++◌, Option, Some, None, Ok}
use Rattle.b2_base.specs.Counts.{Rose}
use Rattle.b2_base.specs.Bytes.{IsFrontOf}
use Rattle.b2_host.specs.Disks.{Disk}
use Rattle.b2_host.specs.Output.{Output}
use Rattle.b2_command_line.specs.Words.{Word}
use Rattle.b2_generate.specs.Planning.{Planned}
use Rattle.b2_prepare.specs.Meaning.{Means}
use Rattle.b2_runs.specs.Reports.{host_fault_line}
use Rattle.b2_runs.specs.UpdateAnswers.{SinkFailed}
use Rattle.b2_refusals.specs.declared.fault.Fault.{Fault}
use Rattle.b2_refusals.specs.Lines.{usage_line}
use Rattle.b2_top.specs.RefusalCauses.{HasCause}
use Rattle.b2_top.specs.Reports.{refusal_report}

-- Such a command was asked for, and the files and its free words come to a plan.
pub record HasFreePlan (free : Option (List Word)) (disk : Disk) : Type 0 where
  pub words : List Word
  pub asked : free ≡ Some words
  pub echoes : List Word
  pub planned : Planned
  pub means : Means disk None words echoes (Ok planned)

-- Such a command was asked for, and the files and its free words come to this fault, after these lines of ECHO.
pub record HasNoFreePlan (free : Option (List Word)) (disk : Disk) (echoes : List Word) (fault : Fault) : Type 0 where
  pub words : List Word
  pub asked : free ≡ Some words
  pub cause : HasCause disk words echoes fault

-- There is no plan for this cause, and its line was written.
pub record IsFreeRefused (free : Option (List Word)) (disk : Disk) (fault : Fault) (written : List ℕ) : Type 0 where
  pub echoes : List Word
  pub cause : HasNoFreePlan free disk echoes fault
  pub report : written ≡ refusal_report echoes [] fault

-- ---- what is written before a fault

-- The line of a fault of the host was written after lines of a report, or a beginning of it, where the sink failed too.
pub record EndsWithFault (IsFront : List ℕ → Type 0) (sink sink_after : Output) (written : List ℕ) : Type 0 where
  pub front : List ℕ
  pub is_front : IsFront front
  pub ended : ((written ≡ front ++ host_fault_line) × (sink_after.faults ≡ sink.faults))
      ⊎ (SinkFailed sink sink_after × IsFrontOf written (front ++ host_fault_line))

-- A beginning was written: of the usage line, where no such command was asked for; of a whole report; or of a refusal with its cause.
pub data BeginsFreeReport (free : Option (List Word)) (disk : Disk) (IsWhole : List ℕ → Type 0) (written : List ℕ) : Type 0 where
  usage : free ≡ None → IsFrontOf written usage_line → BeginsFreeReport free disk IsWhole written
  whole : (text : List ℕ) → IsWhole text → IsFrontOf written text → BeginsFreeReport free disk IsWhole written
  refused : (fault : Fault) (text : List ℕ) → IsFreeRefused free disk fault text → IsFrontOf written text
      → BeginsFreeReport free disk IsWhole written

-- A beginning was written where memory ran out: maybe nothing, or a beginning of the line of a fault of the host after its lines.
pub data BeginsSomeFree (free : Option (List Word)) (disk : Disk) (IsWhole IsFront : List ℕ → Type 0) (host host_after : ℕ)
    (written : List ℕ) : Type 0 where
  nothing : written ≡ [] → BeginsSomeFree free disk IsWhole IsFront host host_after written
  report : BeginsFreeReport free disk IsWhole written → BeginsSomeFree free disk IsWhole IsFront host host_after written
  host_fault : (front : List ℕ) → Rose host host_after → IsFront front → IsFrontOf written (front ++ host_fault_line)
      → BeginsSomeFree free disk IsWhole IsFront host host_after written
