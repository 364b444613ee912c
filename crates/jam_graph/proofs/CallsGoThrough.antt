-- Calls of names that are no rules of a graph go through to the native rules, and calls of these rules look at no world.
use Rattle.std.proofs.Common.{◌≡◌, ℕ, false, cond, List, Option, Some, None, Result, Ok, Err, sym, ap, subst}
use Rattle.std.specs.Option.{IfSome}
use Rattle.b2_host.specs.Disks.{Disk}
use Rattle.b2_host.specs.Outside.{Outside}
use Rattle.jam_journal.specs.Tables.{Text}
use Rattle.jam_journal.specs.Scopes.{Value}
use Rattle.jam_scope.specs.Worlds.{Worlds}
use Rattle.jam_meaning.specs.declared.native_answer.NativeStep.{NativeStep}
use Rattle.jam_meaning.specs.declared.native_answer.NativeStep.TheVariants as steps
use Rattle.jam_meaning.specs.declared.native_answer.NativeError.{NativeError}
use Rattle.jam_meaning.specs.declared.native_answer.NativeError.TheVariants as errors
use Rattle.jam_meaning.specs.Settings.{Sight, IsSight, Told, answers}
use Rattle.jam_meaning.specs.NativeCalls.{IsMeant, StaysKept, refused_of, LooksAt, KeepsFrames, PutsPartly, IsMeantFor}
use Rattle.jam_natives.specs.Keeping.{Kept}
use Rattle.jam_natives.specs.Rules.{is_declaring}
use Rattle.jam_natives.specs.Rows.{jam_meaning}
use Rattle.jam_graph.specs.Graphs.{GraphKept, beside, other_call}
use Rattle.jam_graph.specs.Calling.{IsCalled}

module _ {A : Type 0} where
  -- what is answered beside the record is what is meant beside it
  pub meant_beside : (kept : GraphKept) (told : Told A Kept) (result : Result A NativeError) (later : Worlds) (now : Kept) → IsMeant told result later now → IsMeant (beside kept told) result later (record kept { jam = now })
  meant_beside kept told (Ok answer) later now e = ap (beside kept) e
  meant_beside kept told (Err (errors.Fault fault)) later now e = ap (beside kept) e
  meant_beside kept told (Err errors.Arity) later now e = ap (beside kept) e
  meant_beside kept told (Err errors.Host) later now e = tt
  meant_beside kept told (Err errors.OutOfMemory) later now e = tt

  pub stays_beside : (kept : GraphKept) (result : Result A NativeError) (now : Kept) → StaysKept result kept.jam now → StaysKept result kept (record kept { jam = now })
  stays_beside kept (Ok answer) now e = tt
  stays_beside kept (Err (errors.Fault fault)) now e = tt
  stays_beside kept (Err errors.Arity) now e = tt
  stays_beside kept (Err errors.Host) now e = ap (λ (jam : Kept). record kept { jam = jam }) e
  stays_beside kept (Err errors.OutOfMemory) now e = ap (λ (jam : Kept). record kept { jam = jam }) e

if_some : {X : Type 0} (P Q : X → Type 0) (o : Option X) → ((x : X) → P x → Q x) → IfSome o P → IfSome o Q
if_some P Q None f h = tt
if_some P Q (Some x) f h = f x h

-- a call that goes through
pub goes_through : (name : Text) (lists : List Value) (line : ℕ) (before after : Worlds) (kept : GraphKept) (now : Kept) (o later : Outside) (result : Result NativeStep NativeError)
    → is_declaring name ≡ false
    → IfSome o.disk (λ (disk : Disk). IsMeantFor jam_meaning name lists line disk.now before kept.jam result after now)
    → StaysKept result kept.jam now → KeepsFrames before after → PutsPartly result before.now after.now → LooksAt o later result
    → IsCalled (other_call name lists line) result before after kept (record kept { jam = now }) o later
goes_through name lists line before after kept now o later result plain told stays frames part outside = record {
  told = if_some Told_ Meant_ o.disk (λ disk h sight right same. through sight (h sight right same)) told;
  keeps = stays_beside kept result now stays;
  frames = frames;
  part = part;
  outside = outside;
}
  where
    Told_ : Disk → Type 0
    Told_ disk = IsMeantFor jam_meaning name lists line disk.now before kept.jam result after now

    Meant_ : Disk → Type 0
    Meant_ disk = (sight : Sight) → IsSight sight → sight.folder ≡ disk.now → IsMeant (other_call name lists line sight (refused_of result) before kept) result after (record kept { jam = now })

    through : (sight : Sight) → IsMeant (jam_meaning.call name lists line sight (refused_of result) before kept.jam) result after now → IsMeant (other_call name lists line sight (refused_of result) before kept) result after (record kept { jam = now })
    through sight h =
        subst (λ b. IsMeant (cond b (answers steps.Unknown before kept) (beside kept (jam_meaning.call name lists line sight (refused_of result) before kept.jam))) result after (record kept { jam = now }))
        (sym plain) (meant_beside kept (jam_meaning.call name lists line sight (refused_of result) before kept.jam) result after now h)
