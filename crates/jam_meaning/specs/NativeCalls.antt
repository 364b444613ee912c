-- What a call of natives answers, and what it may change.
use Rattle.std.specs.Prelude.{◌≡◌, ℕ, Bool, true, false, List, ◌++◌, Option, Some, None, is_some, Result, Ok, Err}
use Rattle.std.specs.Option.{IfSome}
use Rattle.std.specs.FinMap as map
use Rattle.b2_host.specs.Disks.{Folder, Disk}
use Rattle.b2_host.specs.Outside.{Outside, Fails}
use Rattle.jam_journal.specs.Tables.{Text, Key}
use Rattle.jam_journal.specs.Scopes.{Value}
use Rattle.jam_scope.specs.declared.notes.StepNotes.{StepNotes}
use Rattle.jam_scope.specs.Rules.{Rule}
use Rattle.jam_scope.specs.Worlds.{World, Worlds}
use Rattle.jam_meaning.specs.declared.native_answer.NativeStep.{NativeStep}
use Rattle.jam_meaning.specs.declared.native_answer.NativeError.{NativeError}
use Rattle.jam_meaning.specs.declared.native_answer.NativeError.TheVariants as errors
use Rattle.jam_meaning.specs.Faults.{refused_by}
use Rattle.jam_meaning.specs.Settings.{Sight, IsSight, Told, answers, refuses, of_native, of_arity, Meaning}

module _ {A R : Type 0} where
  -- the answer is what is told of the call, with the worlds and what is kept after it; nothing is told of faults of the host and
  -- out of memory
  abbrev pub IsMeant : Told A R → Result A NativeError → Worlds → R → Type 0
  IsMeant told (Ok answer) worlds kept = told ≡ answers answer worlds kept
  IsMeant told (Err (errors.Fault fault)) worlds kept = told ≡ refuses (of_native fault) worlds kept
  IsMeant told (Err errors.Arity) worlds kept = told ≡ refuses of_arity worlds kept
  IsMeant told (Err errors.Host) worlds kept = Unit {0}
  IsMeant told (Err errors.OutOfMemory) worlds kept = Unit {0}

  -- what is kept is as before where the host failed or no memory was left
  abbrev pub StaysKept : Result A NativeError → R → R → Type 0
  StaysKept (Ok answer) kept now = Unit {0}
  StaysKept (Err (errors.Fault fault)) kept now = Unit {0}
  StaysKept (Err errors.Arity) kept now = Unit {0}
  StaysKept (Err errors.Host) kept now = now ≡ kept
  StaysKept (Err errors.OutOfMemory) kept now = now ≡ kept

module _ {A : Type 0} where
  -- the pattern that was refused although it reads as one
  abbrev pub refused_of : Result A NativeError → Option Text
  refused_of (Ok answer) = None
  refused_of (Err (errors.Fault fault)) = refused_by fault
  refused_of (Err errors.Arity) = None
  refused_of (Err errors.Host) = None
  refused_of (Err errors.OutOfMemory) = None

  -- The outside is as before, but for the count of failed calls, which rises where the answer is Host and nowhere else.
  abbrev pub LooksAt : Outside → Outside → Result A NativeError → Type 0
  LooksAt before after (Ok answer) = after ≡ before
  LooksAt before after (Err (errors.Fault fault)) = after ≡ before
  LooksAt before after (Err errors.Arity) = after ≡ before
  LooksAt before after (Err errors.Host) = Fails before after
  LooksAt before after (Err errors.OutOfMemory) = after ≡ before

module _ {R : Type 0} where
  -- A native rule answers what is meant, for all that can be said of what is seen where these files stand. A pattern that is
  -- refused although it reads as one is known from the answer.
  abbrev pub IsMeantFor : Meaning R → Text → List Value → ℕ → Folder → Worlds → R → Result NativeStep NativeError → Worlds → R → Type 0
  IsMeantFor m name given line folder worlds kept result later now =
      (sight : Sight) → IsSight sight → sight.folder ≡ folder → IsMeant (m.call name given line sight (refused_of result) worlds kept) result later now

  -- where the meaning and the files are told, a call of a native rule answers what is meant
  abbrev pub CallsAsMeant : Option (Meaning R) → Option Disk → Text → List Value → ℕ → Worlds → R → Result NativeStep NativeError → Worlds → R → Type 0
  CallsAsMeant meaning files name given line worlds kept result later now =
      (m : Meaning R) → meaning ≡ Some m → IfSome files (λ disk. IsMeantFor m name given line disk.now worlds kept result later now)

  -- where the meaning is told, so does the telling of a call of a name that has actions
  abbrev pub ActsAsMeant : Option (Meaning R) → Text → List Value → ℕ → Worlds → R → Result Bool NativeError → Worlds → R → Type 0
  ActsAsMeant meaning name given line worlds kept result later now =
      (m : Meaning R) → meaning ≡ Some m → IsMeant (m.acted name given line worlds kept) result later now

-- the frames, the marked worlds and whether a step is open are as before
pub record KeepsFrames (before after : Worlds) : Type 0 where
  pub frames : after.now.scopes.frames ≡ before.now.scopes.frames
  pub marked : after.marked ≡ before.marked
  pub step : is_some after.now.step ≡ is_some before.now.step

-- the same step is open, or none, with further inputs at the end alone
abbrev pub HasMoreInputs : Option StepNotes → Option StepNotes → Type 0
HasMoreInputs None None = Unit {0}
HasMoreInputs None (Some later) = ⊥
HasMoreInputs (Some notes) None = ⊥
HasMoreInputs (Some notes) (Some later) = (more : List Text) × (later ≡ record notes { depends = notes.depends ++ more })

-- A part of what one call puts into a world stands there: rules that stood somewhere, and further inputs of the step. No rule
-- is gone, and all else is as before.
pub record PutsPart (before after : World) : Type 0 where
  pub rest : after ≡ record before { rules = after.rules; step = after.step }
  pub rules : (key : Key) (rule : Rule) → map.get after.rules key ≡ Some rule → (from : Key) × (map.get before.rules from ≡ Some rule)
  pub none_gone : (key : Key) → is_some (map.get before.rules key) ≡ true → is_some (map.get after.rules key) ≡ true
  pub inputs : HasMoreInputs before.step after.step

-- after out of memory no more than a part is put
abbrev pub PutsPartly : {A : Type 0} → Result A NativeError → World → World → Type 0
PutsPartly (Ok answer) before after = Unit {0}
PutsPartly (Err (errors.Fault fault)) before after = Unit {0}
PutsPartly (Err errors.Arity) before after = Unit {0}
PutsPartly (Err errors.Host) before after = Unit {0}
PutsPartly (Err errors.OutOfMemory) before after = PutsPart before after

-- a call that is not recorded changes nothing
abbrev pub DeclinesWhole : {R : Type 0} → Bool → Worlds → R → Worlds → R → Type 0
DeclinesWhole true worlds kept later now = Unit {0}
DeclinesWhole false worlds kept later now = (later ≡ worlds) × (now ≡ kept)
