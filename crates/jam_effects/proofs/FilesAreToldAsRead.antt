-- What reading the file of an include tells of it.
use Rattle.std.proofs.Common.{◌≡◌, Bool, true, false, List, Option, Some, None, Result, Err, sym, ap, ◌∙◌, subst}
use Rattle.std.specs.List.{list_any}
use Rattle.std.specs.Option.{IfSome}
use Rattle.b2_base.specs.Below.{is_below}
use Rattle.b2_host.specs.Disks.{Disk}
use Rattle.jam_grammar.specs.Trees.{StmtTrees}
use Rattle.jam_journal.specs.Tables.{Text}
use Rattle.jam_scope.specs.Worlds.{Worlds}
use Rattle.jam_scope.specs.Changes.{changed, freeze_roots}
use Rattle.jam_meaning.specs.Faults.{Spot, Cause, include}
use Rattle.jam_meaning.specs.Settings.{Reading, IsReading}
use Rattle.jam_meaning.specs.Includes.{is_in_roots}
use Rattle.jam_values.proofs.OneReading.{one_reading}
use Rattle.jam_effects.specs.declared.fault.EvalFault.{EvalFault}
use Rattle.jam_effects.specs.declared.fault.EvalFault.TheVariants as fault
use Rattle.jam_effects.specs.declared.including.IncludedFile.{IncludedFile}
use Rattle.jam_effects.specs.Causes.{IsFault}
use Rattle.jam_effects.specs.Including.{read_of, file_of, IsReadFault, IsFileOf, FileTold}

-- the fault of a file that cannot be read
pub read_fault : (answer : Result StmtTrees (Spot × Cause)) (spot : Spot) (cause : Cause) (e : EvalFault) → answer ≡ Err (spot, cause) → IsFault spot cause e → IsReadFault answer e
read_fault answer spot cause fault.Host is h = absurd h
read_fault answer spot cause fault.OutOfMemory is h = tt
read_fault answer spot cause (fault.At path line why) is h = ((spot, cause), is, h)

pub file_fault : (answer : Result StmtTrees (Spot × Cause)) (path : Text) (e : EvalFault) → IsReadFault answer e → IsFileOf answer path (Err e)
file_fault answer path fault.Host h = tt
file_fault answer path fault.OutOfMemory h = tt
file_fault answer path (fault.At file line why) h = h

-- freezing the roots leaves those that are there
pub below_roots : (path : Text) (before after : Worlds) (roots : List Text) (holds is : Bool) → after ≡ changed freeze_roots before → roots ≡ after.now.roots → holds ≡ list_any (λ root. is_below path root) roots → holds ≡ is
    → is_in_roots before.now path ≡ is
below_roots path before after roots holds is frozen same e f =
    ap (λ (dirs : List Text). list_any (λ root. is_below path root) dirs) (sym (same ∙ ap (λ (ws : Worlds). ws.now.roots) frozen)) ∙ sym e ∙ f

-- a file below a root
pub told_below : (disk : Option Disk) (path : Text) (below : Bool) (spot : Spot) (e : EvalFault) → below ≡ true → IsFault spot (include path) e → FileTold disk below path spot (Err e)
told_below None path below spot e yes_ h = tt
told_below (Some d) path below spot e yes_ h = λ reading is.
    file_fault (file_of below reading path spot) path e (read_fault (file_of below reading path spot) spot (include path) e (ap (λ b. file_of b reading path spot) yes_) h)

-- one that was read
pub told_read : (disk : Option Disk) (path : Text) (below : Bool) (here : Reading) (spot : Spot) (result : Result IncludedFile EvalFault) → below ≡ false → IfSome disk (λ d. IsReading d.now path here)
    → IsFileOf (read_of here path spot) path result → FileTold disk below path spot result
told_read None path below here spot result no_ so h = tt
told_read (Some d) path below here spot result no_ so h = λ reading is.
    subst (λ b. IsFileOf (file_of b reading path spot) path result) (sym no_)
    (subst (λ r. IsFileOf (read_of r path spot) path result) (one_reading d.now path here reading so is) h)
