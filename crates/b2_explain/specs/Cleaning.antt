-- What cleaning removes, and what it leaves.
use Rattle.std.specs.Prelude.{◌≡◌, ◌≢◌, ◌⊎◌, ⊤, ℕ, false, List, [], ◌∷◌, ◌++◌, length, take, is_some, Some, None, Result, Ok, Err, if◌then◌else◌}
use Rattle.std.specs.List.{flat_map}
use Rattle.std.specs.Option.{IfSome}
use Rattle.b2_base.specs.Bytes.{IsFrontOf}
use Rattle.b2_host.specs.Disks.{Folder, Disk, put}
use Rattle.b2_host.specs.ChildProcesses.{BothTold}
use Rattle.b2_host.specs.Outside.{Outside}
use Rattle.b2_host.specs.Output.{Output}
use Rattle.b2_host.specs.FileCalls.{log_path}
use Rattle.b2_plan.specs.declared.step.Step.{Step}
use Rattle.b2_plan.specs.Plans.{step_at, Makes}
use Rattle.b2_log.specs.declared.line.LogLine.{LogLine}
use Rattle.b2_log.specs.declared.line.LogLine.TheVariants as lines
use Rattle.b2_log.specs.Lines.{log_bytes}
use Rattle.b2_log.specs.Finding.{find_record}
use Rattle.b2_runs.specs.Logs.{Making}
use Rattle.b2_runs.specs.LogFiles.{IsLogIn, IsTrueOn}
use Rattle.b2_runs.specs.LogCourses.{Opening.to_cut, FirstLines, held_bytes, log_file, left_file}
use Rattle.b2_explain.specs.declared.fault.CleanFault.{CleanFault}
use Rattle.b2_explain.specs.declared.fault.CleanFault.TheVariants as faults
use Rattle.b2_explain.specs.Lines.{removed_line}

-- ---- what is removed and dropped

-- those of the paths at which a file stands, in order, each once
abbrev pub standing : Folder → List (List ℕ) → List (List ℕ)
standing folder [] = []
standing folder (path ∷ more) = if is_some (folder path) then path ∷ standing (put path None folder) more else standing folder more

-- what is removed of a step: its outputs that stand, and nothing of a notfile step
abbrev pub removed_of : Folder → Step → List (List ℕ)
removed_of folder step = if step.notfile then [] else standing folder step.outs

-- what is removed, in order
abbrev pub removals : Folder → List Step → List (List ℕ)
removals folder steps = flat_map (removed_of folder) steps

-- the log after a step was cleaned: a drop more, where it has a record for the step's outputs
abbrev pub with_drop : Step → List LogLine → List LogLine
with_drop step log = if is_some (find_record step.outs log) then log ++ lines.Drop step.outs ∷ [] else log

-- the log after steps were cleaned, one after another
abbrev pub after_drops : List LogLine → List Step → List LogLine
after_drops log [] = log
after_drops log (step ∷ steps) = after_drops (with_drop step log) steps

-- the path is one that cleaning may remove: an output of a step that is no notfile step
abbrev pub IsToClean : List Step → List ℕ → Type 0
IsToClean steps path = (i : ℕ) × (step : Step) × Makes steps i step path × (step.notfile ≡ false)

-- ---- what is left

-- Whatever came of it: the log is true if it was; of the other files at most outputs are gone, and all else is as it was.
pub record MayBeCleaned (steps : List Step) (before after : Disk) : Type 0 where
  pub true_log : (m : Making) → IsTrueOn m before → IsTrueOn m after
  pub others : (path : List ℕ) → path ≢ log_path → (IsToClean steps path → ⊥) → after.now path ≡ before.now path
  pub outputs : (path : List ℕ) → path ≢ log_path → (after.now path ≡ before.now path) ⊎ (after.now path ≡ None)

-- All steps were cleaned: none of what was to be removed stands, and the log tells no record of a step's outputs. Its file has the
-- lines that it was opened with, and the drops.
pub record IsCleaned (steps : List Step) (before after : Disk) : Type 0 where
  pub gone : (path : List ℕ) → IsToClean steps path → after.now path ≡ None
  pub no_record : (log : List LogLine) → IsLogIn after.now log → (i : ℕ) (step : Step) → step_at steps i ≡ Some step
      → find_record step.outs log ≡ None
  pub first : List LogLine
  pub opened : FirstLines to_cut (held_bytes (log_file before.now)) first
  pub file : log_file after.now ≡ left_file (log_file before.now) (log_bytes (after_drops first steps))

-- what cleaning leaves, by its result: with Ok it is complete, and so many files were removed
abbrev pub CleanedBy : List Step → Disk → Disk → Result ℕ CleanFault → Type 0
CleanedBy steps before after (Ok count) = IsCleaned steps before after × (count ≡ length (removals before.now steps))
CleanedBy steps before after (Err fault) = ⊤

-- what cleaning leaves, where files are visible
abbrev pub CleanTold : List Step → Outside → Outside → Result ℕ CleanFault → Type 0
CleanTold steps before after result =
    BothTold (λ old new. MayBeCleaned steps old new × CleanedBy steps old new result) before.disk after.disk

-- ---- what is written

-- the lines of what is removed
abbrev pub removal_lines : Folder → List Step → List ℕ
removal_lines folder steps = flat_map removed_line (removals folder steps)

-- the lines of some first ones of these removals, each whole
abbrev pub AreFirstLines : List (List ℕ) → List ℕ → Type 0
AreFirstLines paths written = (count : ℕ) × (written ≡ flat_map removed_line (take count paths))

-- With Ok a line was written of each file that was removed. A sink that failed may have cut a line off. With another fault the lines
-- that were written are whole.
abbrev pub IsWrittenBy : List Step → Folder → Result ℕ CleanFault → List ℕ → Type 0
IsWrittenBy steps folder (Ok count) written = written ≡ removal_lines folder steps
IsWrittenBy steps folder (Err faults.Host) written = AreFirstLines (removals folder steps) written
IsWrittenBy steps folder (Err faults.Sink) written = IsFrontOf written (removal_lines folder steps)
IsWrittenBy steps folder (Err faults.OutOfMemory) written = AreFirstLines (removals folder steps) written

-- what cleaning writes, where files and bytes are visible
abbrev pub CleanWritten : List Step → Outside → Output → Output → Result ℕ CleanFault → Type 0
CleanWritten steps before sink sink_after result = IfSome before.disk (λ disk. IfSome sink.written (λ so_far. (written : List ℕ)
    × (sink_after.written ≡ Some (so_far ++ written)) × IsWrittenBy steps disk.now result written))
