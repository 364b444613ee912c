-- What the recording of calls promises.
use Rattle.std.specs.Prelude.{◌≡◌, Option, Result, Ok, Err, IfSome}
use Rattle.b2_host.specs.Outside.{Outside}
use Rattle.jam_journal.specs.Tables.{Text}
use Rattle.jam_scope.specs.Worlds.{Worlds}
use Rattle.jam_meaning.specs.declared.native_answer.NativeStep.{NativeStep}
use Rattle.jam_meaning.specs.declared.native_answer.NativeError.{NativeError}
use Rattle.jam_meaning.specs.declared.native_answer.NativeError.TheVariants as errors
use Rattle.jam_meaning.specs.Settings.{Sight, IsSight, Told, answers, refuses, of_arity}
use Rattle.jam_meaning.specs.NativeCalls.{IsMeant, StaysKept, refused_of, LooksAt, KeepsFrames, PutsPartly}
use Rattle.jam_natives.specs.Seeing as jam
use Rattle.jam_graph.specs.declared.natives.GraphNatives.{GraphNatives}
use Rattle.jam_graph.specs.Graphs.{GraphKept}

abbrev pub kept_of : GraphNatives → GraphKept
kept_of natives = record { jam = jam.kept_of natives.jam; said = natives.said }

-- a call that looks at its lists alone, and changes no world
abbrev pub IsSaid : (Worlds → GraphKept → Told NativeStep GraphKept) → Result NativeStep NativeError → GraphKept → GraphKept → Type 0
IsSaid meant (Ok step) kept now = (ws : Worlds) → meant ws kept ≡ answers step ws now
IsSaid meant (Err (errors.Fault cause)) kept now = ⊥
IsSaid meant (Err errors.Arity) kept now = (ws : Worlds) → meant ws kept ≡ refuses of_arity ws now
IsSaid meant (Err errors.Host) kept now = ⊥
IsSaid meant (Err errors.OutOfMemory) kept now = now ≡ kept

-- all that is promised of a call
pub record IsAnswered (meant : Sight → Option Text → Told NativeStep GraphKept) (result : Result NativeStep NativeError) (before after : Worlds) (kept now : GraphKept) (o later : Outside) : Type 0 where
  pub told : IfSome o.disk (λ disk. (sight : Sight) → IsSight sight → sight.folder ≡ disk.now → IsMeant (meant sight (refused_of result)) result after now)
  pub keeps : StaysKept result kept now
  pub frames : KeepsFrames before after
  pub part : PutsPartly result before.now after.now
  pub outside : LooksAt o later result

-- the same of what is meant in a world, with what is kept
abbrev pub IsCalled : (Sight → Option Text → Worlds → GraphKept → Told NativeStep GraphKept) → Result NativeStep NativeError → Worlds → Worlds → GraphKept → GraphKept → Outside → Outside → Type 0
IsCalled meant result before after kept now o later = IsAnswered (λ sight refused. meant sight refused before kept) result before after kept now o later
