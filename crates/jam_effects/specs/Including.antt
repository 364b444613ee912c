-- The file of an include.
use Rattle.std.specs.Prelude.{◌≡◌, ◌⊎◌, Bool, true, false, Option, Result, Ok, Err, IfErr}
use Rattle.std.specs.Option.{IfSome}
use Rattle.b2_base.specs.Segments.{path_from}
use Rattle.b2_host.specs.Disks.{Disk}
use Rattle.b2_host.specs.Outside.{Outside}
use Rattle.b2_host.specs.OutsideLaws.{Keeps}
use Rattle.jam_grammar.specs.declared.tree.Tree.{Tree}
use Rattle.jam_grammar.specs.Trees.{StmtTrees, whole_tree}
use Rattle.jam_journal.specs.Tables.{Text}
use Rattle.jam_scope.specs.Worlds.{World, Worlds}
use Rattle.jam_scope.specs.Changes.{changed, freeze_roots}
use Rattle.jam_meaning.specs.Faults.{Spot, Cause, include, lex, syntax_at, too_big}
use Rattle.jam_meaning.specs.Settings.{Reading, is_missing, is_too_big, has_no_tokens, has_no_tree, is_file, IsReading}
use Rattle.jam_meaning.specs.Includes.{is_in_roots, in_file}
use Rattle.jam_effects.specs.declared.including.IncludedFile.{IncludedFile}
use Rattle.jam_effects.specs.declared.fault.EvalFault.{EvalFault}
use Rattle.jam_effects.specs.declared.fault.EvalFault.TheVariants as faults
use Rattle.jam_effects.specs.Causes.{IsFault, HoldsNoMemory}
use Rattle.jam_effects.specs.Does.{Counts}

-- the statements of a file that reads so, or where and why there are none
abbrev pub read_of : Reading → Text → Spot → Result StmtTrees (Spot × Cause)
read_of is_missing path spot = Err (spot, include path)
read_of (is_too_big size) path spot = Err (in_file path spot, too_big path size)
read_of (has_no_tokens fault) path spot = Err (in_file path spot, lex fault)
read_of (has_no_tree line found) path spot = Err (in_file path spot, syntax_at line found)
read_of (is_file tree) path spot = Ok tree

-- a file below an output root counts as missing
abbrev pub file_of : Bool → Reading → Text → Spot → Result StmtTrees (Spot × Cause)
file_of true reading path spot = Err (spot, include path)
file_of false reading path spot = read_of reading path spot

-- the fault is that of the answer, unless memory ran out
abbrev pub IsReadFault : Result StmtTrees (Spot × Cause) → EvalFault → Type 0
IsReadFault answer faults.Host = ⊥
IsReadFault answer faults.OutOfMemory = Unit {0}
IsReadFault answer (faults.At file line why) = (cause : Spot × Cause) × (answer ≡ Err cause) × IsFault cause.0 cause.1 (faults.At file line why)

-- the result is the answer
abbrev pub IsTreeOf : Result StmtTrees (Spot × Cause) → Result Tree EvalFault → Type 0
IsTreeOf answer (Ok tree) = answer ≡ Ok (whole_tree tree)
IsTreeOf answer (Err e) = IsReadFault answer e

-- The result is the answer, with the path of the file; nothing is said where the host failed.
abbrev pub IsFileOf : Result StmtTrees (Spot × Cause) → Text → Result IncludedFile EvalFault → Type 0
IsFileOf answer path (Ok file) = (file.path ≡ path) × (answer ≡ Ok (whole_tree file.tree))
IsFileOf answer path (Err faults.Host) = Unit {0}
IsFileOf answer path (Err faults.OutOfMemory) = Unit {0}
IsFileOf answer path (Err (faults.At file line why)) = IsReadFault answer (faults.At file line why)

-- where files are visible, the result is that of each way in which the file reads
abbrev pub FileTold : Option Disk → Bool → Text → Spot → Result IncludedFile EvalFault → Type 0
FileTold disk below path spot result = IfSome disk (λ d. (reading : Reading) → IsReading d.now path reading → IsFileOf (file_of below reading path spot) path result)

-- the same of the file of a name, which stands in the directory of the project
abbrev pub IncludeTold : Option Disk → World → Text → Spot → Result IncludedFile EvalFault → Type 0
IncludeTold disk w name spot result = FileTold disk (is_in_roots w (path_from w.place name)) (path_from w.place name) spot result

-- No output root is added from then on; where memory ran out, this may not be so yet.
abbrev pub IsFrozen : Worlds → Worlds → Result IncludedFile EvalFault → Type 0
IsFrozen before after (Ok file) = after ≡ changed freeze_roots before
IsFrozen before after (Err faults.Host) = after ≡ changed freeze_roots before
IsFrozen before after (Err faults.OutOfMemory) = (after ≡ before) ⊎ (after ≡ changed freeze_roots before)
IsFrozen before after (Err (faults.At file line why)) = after ≡ changed freeze_roots before

-- A call that looks at files leaves them and the child processes; a fault of the host comes only where their count rose, and
-- where memory ran out, the fault says that alone.
pub record Looked {A : Type 0} (before after : Outside) (result : Result A EvalFault) : Type 0 where
  pub disk : after.disk ≡ before.disk
  pub children : after.children ≡ before.children
  pub keeps : Keeps before after
  pub counts : Counts result before after
  pub whole : IfErr result HoldsNoMemory
