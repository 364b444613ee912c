-- What the single calls of cleaning do. `x` and `y` are the host before and after, `before` and `after` the sink.
use Rattle.std.specs.Prelude.{◌≡◌, ◌≢◌, ◌⊎◌, ⊤, ℕ, ◌+◌, ◌<◌, Bool, true, false, List, [], ◌∷◌, ◌++◌, length, Option, Some, None, Result, Ok, Err, if◌then◌else◌}
use Rattle.std.specs.List.{Contains, flat_map, AllByRecursion}
use Rattle.std.specs.Option.{IfSome}
use Rattle.b2_base.specs.Bytes.{IsFrontOf}
use Rattle.b2_host.specs.Disks.{Folder, Disk}
use Rattle.b2_host.specs.ChildProcesses.{BothTold}
use Rattle.b2_host.specs.Outside.{Outside}
use Rattle.b2_host.specs.OutsideLaws.{Keeps}
use Rattle.b2_host.specs.Output.{Output}
use Rattle.b2_host.specs.OutputLaws.{OutKeeps}
use Rattle.b2_host.specs.LogChanges.{ChangesOnlyLog}
use Rattle.b2_host.specs.FileCalls.{log_path}
use Rattle.b2_plan.specs.declared.step.Step.{Step}
use Rattle.b2_log.specs.declared.line.LogLine.{LogLine}
use Rattle.b2_log.specs.declared.line.LogLine.TheVariants as lines
use Rattle.b2_log.specs.Good.{IsGood}
use Rattle.b2_journal.specs.Notes.{HasLines, IsNoteCut}
use Rattle.b2_explain.specs.declared.fault.CleanFault.{CleanFault}
use Rattle.b2_explain.specs.declared.fault.CleanFault.TheVariants as faults
use Rattle.b2_explain.specs.Faults.{CleanCounts}
use Rattle.b2_explain.specs.Lines.{removed_line}
use Rattle.b2_explain.specs.Cleaning.{standing, removals, with_drop, after_drops, AreFirstLines}

-- ---- what is written

-- with Ok the bytes are the lines of these removals; where the sink failed a beginning of them, and else the first lines, whole
abbrev pub IsUpTo : {T : Type 0} → List (List ℕ) → Result T CleanFault → List ℕ → Type 0
IsUpTo paths (Ok x) text = text ≡ flat_map removed_line paths
IsUpTo paths (Err faults.Host) text = AreFirstLines paths text
IsUpTo paths (Err faults.Sink) text = IsFrontOf text (flat_map removed_line paths)
IsUpTo paths (Err faults.OutOfMemory) text = AreFirstLines paths text

-- the lines of these removals were written, or some first ones of them, where bytes are visible
abbrev pub Wrote : {T : Type 0} → List (List ℕ) → Output → Output → Result T CleanFault → Type 0
Wrote paths before after result =
    IfSome before.written (λ so_far. (text : List ℕ) × (after.written ≡ Some (so_far ++ text)) × IsUpTo paths result text)

-- The line of an output that was removed is written, or a beginning of it. The count of the sink rose where it failed.
pub record WritesLine (path : List ℕ) (before after : Output) (result : Result (Unit {0}) CleanFault) : Type 0 where
  pub counts : (x : Outside) → CleanCounts x before x after result
  pub wrote : Wrote (path ∷ []) before after result
  pub keeps : OutKeeps before after

-- ---- removals

-- the outputs of a step that are cleaned: none of a notfile step
abbrev pub outs_to_clean : Step → List (List ℕ)
outs_to_clean step = if step.notfile then [] else step.outs

-- no file has changed but some of those at these paths, which are gone; what stood is not forgotten
pub record TakesAway (paths : List (List ℕ)) (before after : Disk) : Type 0 where
  pub others : (path : List ℕ) → (Contains paths path → ⊥) → after.now path ≡ before.now path
  pub gone : (path : List ℕ) → (after.now path ≡ before.now path) ⊎ (after.now path ≡ None)
  pub past : after.past ≡ before.past

-- with Ok none of the files stands, and there are so many more than before as stood
abbrev pub TakenAway : List (List ℕ) → ℕ → Disk → Disk → Result ℕ CleanFault → Type 0
TakenAway paths count before after (Ok total) =
    ((path : List ℕ) → Contains paths path → after.now path ≡ None) × (total ≡ count + length (standing before.now paths))
TakenAway paths count before after (Err fault) = ⊤

-- Of these outputs those that stand are removed, in order, and the line of each is written. The result tells how many there are,
-- beside those before.
pub record RemovesSome (paths : List (List ℕ)) (count : ℕ) (x : Outside) (before : Output) (y : Outside) (after : Output)
    (result : Result ℕ CleanFault) : Type 0 where
  pub counts : CleanCounts x before y after result
  pub rest : y ≡ record x { disk = y.disk; faults = y.faults }
  pub files : BothTold (λ old new. TakesAway paths old new × TakenAway paths count old new result) x.disk y.disk
  pub wrote : IfSome x.disk (λ disk. Wrote (standing disk.now paths) before after result)
  pub keeps : Keeps x y
  pub out_keeps : OutKeeps before after

-- one more where a file was removed
abbrev pub one_if : Bool → ℕ
one_if true = 1
one_if false = 0

-- with Ok the file is gone, and the answer is whether it stood
abbrev pub OneTaken : List ℕ → Disk → Disk → Result Bool CleanFault → Type 0
OneTaken path before after (Ok stood) = (after.now path ≡ None) × (one_if stood ≡ length (standing before.now (path ∷ [])))
OneTaken path before after (Err fault) = ⊤

-- the same of one output
pub record RemovesOne (path : List ℕ) (x : Outside) (before : Output) (y : Outside) (after : Output)
    (result : Result Bool CleanFault) : Type 0 where
  pub counts : CleanCounts x before y after result
  pub rest : y ≡ record x { disk = y.disk; faults = y.faults }
  pub files : BothTold (λ old new. TakesAway (path ∷ []) old new × OneTaken path old new result) x.disk y.disk
  pub wrote : IfSome x.disk (λ disk. Wrote (standing disk.now (path ∷ [])) before after result)
  pub keeps : Keeps x y
  pub out_keeps : OutKeeps before after

-- ---- drops

-- With Ok the log's file has the lines with the drop. A host that failed left the file as it was, or with a front of the drop.
abbrev pub DropTold : Option (List ℕ) → Step → List LogLine → Folder → Folder → List LogLine → Result (Unit {0}) CleanFault → Type 0
DropTold entry step log before after more (Ok x) = (more ≡ with_drop step log) × HasLines entry after more
DropTold entry step log before after more (Err faults.Host) = IsNoteCut before after log (lines.Drop step.outs)
DropTold entry step log before after more (Err faults.Sink) = ⊥
DropTold entry step log before after more (Err faults.OutOfMemory) = HasLines entry after log

-- Where the log has a record for the step's outputs a drop is noted. Nothing changes but the log's file.
pub record DropsRecord (step : Step) (x : Outside) (log : List LogLine) (y : Outside) (more : List LogLine)
    (result : Result (Unit {0}) CleanFault) : Type 0 where
  pub only_log : ChangesOnlyLog x y
  pub unread : y.reads ≡ x.reads
  pub good : AllByRecursion IsGood log → AllByRecursion IsGood more
  pub counts : (out : Output) → CleanCounts x out y out result
  pub told : BothTold (λ old new. (entry : Option (List ℕ)) → HasLines entry old.now log → DropTold entry step log old.now new.now more result) x.disk y.disk

-- ---- steps

-- the outputs of steps that are cleaned
abbrev pub all_to_clean : List Step → List (List ℕ)
all_to_clean steps = flat_map outs_to_clean steps

-- Each step has an output, none is the log, and none that is cleaned is one of two steps.
pub record HaveOwnOuts (steps : List Step) : Type 0 where
  pub some_out : (step : Step) → Contains steps step → 0 < length step.outs
  pub not_log : (step : Step) → Contains steps step → Contains step.outs log_path → ⊥
  pub one_maker : (front rest : List Step) (step : Step) (path : List ℕ) → steps ≡ front ++ step ∷ rest
      → Contains (all_to_clean front) path → Contains step.outs path → ⊥

-- the log's file has the lines after the drops of some first steps, which are good, or the note of one more drop failed
pub data HasFirstDrops (entry : Option (List ℕ)) (log : List LogLine) (steps : List Step) (now : Folder) : Type 0 where
  whole : (front rest : List Step) → steps ≡ front ++ rest → AllByRecursion IsGood (after_drops log front)
      → HasLines entry now (after_drops log front) → HasFirstDrops entry log steps now
  torn : (front rest : List Step) (step : Step) (before : Folder) → steps ≡ front ++ step ∷ rest
      → AllByRecursion IsGood (after_drops log front) → HasLines entry before (after_drops log front)
      → IsNoteCut before now (after_drops log front) (lines.Drop step.outs) → HasFirstDrops entry log steps now

-- with Ok none of these outputs stands, and so many files were removed, beside those before
abbrev pub StepsTaken : List Step → ℕ → Disk → Disk → Result ℕ CleanFault → Type 0
StepsTaken steps count before after (Ok total) =
    ((path : List ℕ) → Contains (all_to_clean steps) path → after.now path ≡ None)
    × (total ≡ count + length (removals before.now steps))
StepsTaken steps count before after (Err fault) = ⊤

-- With Ok the log's file has all drops. Otherwise it has those of some first steps.
abbrev pub AllDropped : List Step → Option (List ℕ) → List LogLine → Disk → List LogLine → Result ℕ CleanFault → Type 0
AllDropped steps entry log after more (Ok total) = (more ≡ after_drops log steps) × HasLines entry after.now more
AllDropped steps entry log after more (Err fault) = HasFirstDrops entry log steps after.now

-- Of files but the log's at most these outputs are gone. Where the log's file had these lines, which are good, it has the drops that
-- the steps call for, or some first ones of them.
pub record CleanedSteps (steps : List Step) (count : ℕ) (log : List LogLine) (before after : Disk) (more : List LogLine)
    (result : Result ℕ CleanFault) : Type 0 where
  pub others : (path : List ℕ) → path ≢ log_path → (Contains (all_to_clean steps) path → ⊥) → after.now path ≡ before.now path
  pub gone : (path : List ℕ) → path ≢ log_path → (after.now path ≡ before.now path) ⊎ (after.now path ≡ None)
  pub taken : StepsTaken steps count before after result
  pub drops : (entry : Option (List ℕ)) → HasLines entry before.now log → AllByRecursion IsGood log
      → AllDropped steps entry log after more result

-- What cleaning of steps has come to, beside so many files that were removed before. Whether a fault cut the work off or not, nothing
-- but the log and these outputs has changed.
pub record CleansMore (steps : List Step) (count : ℕ) (x : Outside) (before : Output) (log : List LogLine) (y : Outside)
    (after : Output) (more : List LogLine) (result : Result ℕ CleanFault) : Type 0 where
  pub counts : CleanCounts x before y after result
  pub children : y.children ≡ x.children
  pub good : AllByRecursion IsGood log → AllByRecursion IsGood more
  pub files : BothTold (λ old new. CleanedSteps steps count log old new more result) x.disk y.disk
  pub wrote : IfSome x.disk (λ disk. Wrote (removals disk.now steps) before after result)
  pub keeps : Keeps x y
  pub out_keeps : OutKeeps before after
