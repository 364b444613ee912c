-- What the functions for native rules promise of their answers.
use Rattle.std.specs.Prelude.{◌≡◌, Option, None, Result, Ok, Err, IfSome}
use Rattle.b2_host.specs.Outside.{Outside}
use Rattle.jam_patterns.specs.declared.native_fault.NativeFault.{NativeFault}
use Rattle.jam_journal.specs.Tables.{Text}
use Rattle.jam_scope.specs.Worlds.{Worlds}
use Rattle.jam_meaning.specs.declared.native_answer.NativeStep.{NativeStep}
use Rattle.jam_meaning.specs.declared.native_answer.NativeError.{NativeError}
use Rattle.jam_meaning.specs.declared.native_answer.NativeError.TheVariants as errors
use Rattle.jam_meaning.specs.Faults.{refused_by}
use Rattle.jam_meaning.specs.Settings.{Sight, IsSight, answers, refuses, of_native, of_arity}
use Rattle.jam_meaning.specs.NativeCalls.{IsMeant, StaysKept, refused_of, LooksAt, KeepsFrames, PutsPart, PutsPartly}
use Rattle.jam_natives.specs.Keeping.{Kept}
use Rattle.jam_natives.specs.Rows.{Answer}

-- a rule that looks at its lists and the world alone
abbrev pub IsRead : Result NativeStep NativeError → (Option Text → Result NativeStep NativeFault) → Type 0
IsRead (Ok step) meant = meant None ≡ Ok step
IsRead (Err (errors.Fault cause)) meant = meant (refused_by cause) ≡ Err cause
IsRead (Err errors.Arity) meant = ⊥
IsRead (Err errors.Host) meant = ⊥
IsRead (Err errors.OutOfMemory) meant = Unit {0}

-- a rule that changes the world, whatever is kept
abbrev pub IsPut : Result NativeStep NativeError → (Worlds → Kept → Answer) → Worlds → Worlds → Type 0
IsPut (Ok step) meant before after = (kept : Kept) → meant before kept ≡ answers step after kept
IsPut (Err (errors.Fault cause)) meant before after = (refused_by cause ≡ None) × ((kept : Kept) → meant before kept ≡ refuses (of_native cause) after kept)
IsPut (Err errors.Arity) meant before after = (kept : Kept) → meant before kept ≡ refuses of_arity after kept
IsPut (Err errors.Host) meant before after = ⊥
IsPut (Err errors.OutOfMemory) meant before after = PutsPart before.now after.now

-- a rule that keeps something, and may add output roots
abbrev pub IsDeclared : Result NativeStep NativeError → (Worlds → Kept → Answer) → Worlds → Worlds → Kept → Kept → Type 0
IsDeclared (Ok step) meant before after kept now = (meant before kept ≡ answers step after now) × KeepsFrames before after
IsDeclared (Err (errors.Fault cause)) meant before after kept now = ⊥
IsDeclared (Err errors.Arity) meant before after kept now = ⊥
IsDeclared (Err errors.Host) meant before after kept now = ⊥
IsDeclared (Err errors.OutOfMemory) meant before after kept now = (after ≡ before) × (now ≡ kept)

-- all that is promised of a call
pub record IsAnswered (meant : Sight → Option Text → Answer) (result : Result NativeStep NativeError) (before after : Worlds) (kept now : Kept) (o later : Outside) : Type 0 where
  pub told : IfSome o.disk (λ disk. (sight : Sight) → IsSight sight → sight.folder ≡ disk.now → IsMeant (meant sight (refused_of result)) result after now)
  pub keeps : StaysKept result kept now
  pub frames : KeepsFrames before after
  pub part : PutsPartly result before.now after.now
  pub outside : LooksAt o later result

-- the same of what is meant in a world, with what is kept
abbrev pub IsAnsweredBy : (Sight → Option Text → Worlds → Kept → Answer) → Result NativeStep NativeError → Worlds → Worlds → Kept → Kept → Outside → Outside → Type 0
IsAnsweredBy meant result before after kept now o later = IsAnswered (λ sight refused. meant sight refused before kept) result before after kept now o later
