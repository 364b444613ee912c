use Rattle.std.specs.Prelude.{◌≡◌, ℕ, ◌<◌, List, [], ◌∷◌, ◌++◌, Bool, true, Option, Some, None, remove, slice_get, ⊤}
use Rattle.std.specs.Option.{option_map}
use Rattle.std.specs.List.{Contains, filter_map}
use Rattle.b2_host.specs.declared.children.ChildEvent.{ChildEvent}
use Rattle.b2_host.specs.declared.children.ChildEvent.TheVariants as events
use Rattle.b2_host.specs.Disks.{File, Folder, Disk, Past}

-- What a child was given at its start: the bytes are those of its inputs that stood then, in the order of the inputs.
pub record Given : Type 0 where
  pub step : ℕ
  pub text : List ℕ
  pub ins : List (List ℕ)
  pub outs : List (List ℕ)
  pub held : List (List ℕ × List ℕ)

-- a child process that runs; what it was given is there where the files are visible
pub record Child : Type 0 where
  pub step : ℕ
  pub ins : List (List ℕ)
  pub outs : List (List ℕ)
  pub given : Option Given

-- The child processes: those that run, in order of start; what happened; and, where the files are visible, what each
-- start gave.
pub record Family : Type 0 where
  pub running : List Child
  pub events : List ChildEvent
  pub given : Option (List Given)

-- a path with its bytes, where a file stands there
abbrev pub read_at : Folder → List ℕ → Option (List ℕ × List ℕ)
read_at folder path = option_map (λ file. (path, file.bytes)) (folder path)

-- the inputs that stand, with their bytes
abbrev pub read_all : Folder → List (List ℕ) → List (List ℕ × List ℕ)
read_all folder ins = filter_map (read_at folder) ins

-- what a start gives
abbrev pub given_at : ℕ → List ℕ → List (List ℕ) → List (List ℕ) → Disk → Given
given_at step text ins outs disk = record { step = step; text = text; ins = ins; outs = outs; held = read_all disk.now ins }

-- one more at the end, where both are visible
abbrev pub one_more : {X : Type 0} → Option (List X) → Option X → Option (List X)
one_more None more = None
one_more (Some xs) None = None
one_more (Some xs) (Some x) = Some (xs ++ x ∷ [])

-- one more child runs
abbrev pub after_start : ℕ → List ℕ → List (List ℕ) → List (List ℕ) → Option Disk → Family → Family
after_start step text ins outs disk family =
    let given : Option Given = option_map (given_at step text ins outs) disk in
    record {
      running = family.running ++ record { step = step; ins = ins; outs = outs; given = given } ∷ [];
      events = family.events ++ events.Start step ∷ [];
      given = one_more family.given given;
    }

-- no path of the one list is in the other
abbrev pub AreApart : List (List ℕ) → List (List ℕ) → Type 0
AreApart xs ys = (path : List ℕ) → Contains xs path → Contains ys path → ⊥

-- A child may start beside those that run: it reads and writes nothing that they write, and writes nothing that they read.
pub record MayStart (running : List Child) (ins outs : List (List ℕ)) : Type 0 where
  pub outs_ins : (child : Child) → Contains running child → AreApart outs child.ins
  pub outs_outs : (child : Child) → Contains running child → AreApart outs child.outs
  pub ins_outs : (child : Child) → Contains running child → AreApart ins child.outs

-- the path is an output of a child that runs
pub record IsWritten (running : List Child) (path : List ℕ) : Type 0 where
  pub child : Child
  pub runs : Contains running child
  pub out : Contains child.outs path

-- While these children run, nothing but their outputs changes. All that stood stays among the past, and what stood besides
-- stood at their outputs.
pub record ChangesOnlyOutputs (running : List Child) (before after : Disk) : Type 0 where
  pub others : (path : List ℕ) → (IsWritten running path → ⊥) → after.now path ≡ before.now path
  pub more : List Past
  pub past : after.past ≡ before.past ++ more
  pub written : (old : Past) → Contains more old → IsWritten running old.path

-- the files are visible before and after, and stand to one another so, or neither time
abbrev pub BothTold : (Disk → Disk → Type 0) → Option Disk → Option Disk → Type 0
BothTold P None None = ⊤
BothTold P None (Some after) = ⊥
BothTold P (Some before) None = ⊥
BothTold P (Some before) (Some after) = P before after

-- At each output of the child stands what its text makes of the inputs that it was given, with a stamp above all that stood.
abbrev pub HasMade : (List ℕ → List (List ℕ × List ℕ) → List ℕ → List ℕ) → Child → Disk → Disk → Type 0
HasMade made child before after = (given : Given) → child.given ≡ Some given → (out : List ℕ) → Contains child.outs out
    → (file : File) × (after.now out ≡ Some file) × (file.bytes ≡ made given.text given.held out) × ((old : Past) → Contains before.past old → old.file.stamp < file.stamp)

-- One of those that ran has ended: well, with all that its text makes, or badly.
pub record Ends (made : List ℕ → List (List ℕ × List ℕ) → List ℕ → List ℕ) (old : Family) (before : Option Disk) (step : ℕ) (well : Bool) (new : Family) (after : Option Disk) : Type 0 where
  pub place : ℕ
  pub child : Child
  pub ran : slice_get old.running place ≡ Some child
  pub step_is : child.step ≡ step
  pub running : new.running ≡ remove old.running place
  pub events : new.events ≡ old.events ++ events.Done step well ∷ []
  pub given : new.given ≡ old.given
  pub worked : BothTold (ChangesOnlyOutputs old.running) before after
  pub made_all : well ≡ true → BothTold (HasMade made child) before after
