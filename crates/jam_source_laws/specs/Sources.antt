-- What evaluation sees of files outside the output roots.
use Rattle.std.specs.Prelude.{◌≡◌, ℕ, Bool, true, false, List, codes}
use Rattle.std.specs.List.{Contains, list_any, AllByRecursion}
use Rattle.std.specs.Str.{bytes_eq}
use Rattle.b2_base.specs.Segments.{normal_of}
use Rattle.b2_base.specs.Normal.{IsNormal}
use Rattle.b2_base.specs.Below.{is_below}
use Rattle.b2_host.specs.Disks.{Folder, bytes_at}
use Rattle.jam_journal.specs.Tables.{Text}
use Rattle.jam_journal.specs.Scopes.{Value}
use Rattle.jam_scope.specs.Worlds.{World}
use Rattle.jam_meaning.specs.States.{State}
use Rattle.jam_meaning.specs.Settings.{Told, answers, refuses, Reading, Setting}
use Rattle.jam_meaning.specs.Outcomes.{Outcome, gives, faults}
use Rattle.jam_meaning.specs.RuleCalls.{as_told, native_answer, acted_answer}
use Rattle.jam_natives.specs.Globs.{is_output_dir}

-- a path lies below one of some roots
abbrev pub is_hidden : List Text → Text → Bool
is_hidden roots path = list_any (λ root. is_below path root) roots

-- the output roots are these, where no more can be added
abbrev pub AreSettled : List Text → World → Type 0
AreSettled roots w = w.frozen ≡ true → w.roots ≡ roots

-- the setting over other files, of which these names stand in directories, and which read so
abbrev pub over : {R : Type 0} → Setting R → Folder → (Text → List Text) → (Text → Reading) → Setting R
over setting folder names reading = record setting { sight = record setting.sight { folder = folder; names = names }; reading = reading }

module _ {R : Type 0} (roots : List Text) where
  abbrev pub HasRoots : State R → Type 0
  HasRoots s = AreSettled roots s.worlds.now

  -- the state that an outcome leaves has these roots, after a value and after a fault
  abbrev pub EndsIn : {A : Type 0} → Outcome R A → Type 0
  EndsIn (gives a s) = HasRoots s
  EndsIn (faults fault s) = HasRoots s

  -- so has the state that natives tell
  abbrev pub EndsInTold : {A : Type 0} → State R → Told A R → Type 0
  EndsInTold s (answers a worlds kept) = HasRoots (as_told worlds kept s)
  EndsInTold s (refuses cause worlds kept) = HasRoots (as_told worlds kept s)

  -- where an outcome from a state ends with these roots, the state had them, and the other outcome is the same
  abbrev pub Agree : {A : Type 0} → State R → Outcome R A → Outcome R A → Type 0
  Agree s one two = EndsIn one → HasRoots s × (one ≡ two)

  -- Two settings show the same: each file that is not hidden reads the same; natives that end with these roots began with them, and
  -- answer the same. What is told of a recorded call sees no files, so of it only the first half is asked.
  pub record ShowSame (one two : Setting R) : Type 0 where
    pub reads : (path : Text) → is_hidden roots path ≡ false → one.reading path ≡ two.reading path
    pub native : (name : Text) (given : List Value) (line : ℕ) (s : State R) → EndsInTold s (native_answer one name given line s)
        → HasRoots s × (native_answer one name given line s ≡ native_answer two name given line s)
    pub records : (name : Text) (given : List Value) (line : ℕ) (s : State R) → EndsInTold s (acted_answer one name given line s) → HasRoots s

-- directories that are no output directories have the same names
abbrev pub NamesAgree : List Text → (Text → List Text) → (Text → List Text) → Type 0
NamesAgree roots one two = (text : Text) → is_output_dir roots (normal_of text) ≡ false → one (normal_of text) ≡ two (normal_of text)

-- files that are not hidden have the same bytes, or none
abbrev pub BytesAgree : List Text → Folder → Folder → Type 0
BytesAgree roots one two = (path : Text) → is_hidden roots path ≡ false → bytes_at one path ≡ bytes_at two path

-- a path in normal form that is not the folder itself
pub record IsRoot (root : Text) : Type 0 where
  pub normal : IsNormal root
  pub not_here : bytes_eq root (codes ".") ≡ false

abbrev pub AreRoots : List Text → Type 0
AreRoots = AllByRecursion IsRoot

-- Where no root could be added, none was added and none can be; output roots are what may be one; and none is taken away.
abbrev pub KeepsRoots : World → World → Type 0
KeepsRoots w later = (w.frozen ≡ true → (later.frozen ≡ true) × (later.roots ≡ w.roots)) × (AreRoots w.roots → AreRoots later.roots)
    × ((root : Text) → Contains w.roots root → Contains later.roots root)

abbrev pub RootsStay : {R : Type 0} → State R → State R → Type 0
RootsStay s later = KeepsRoots s.worlds.now later.worlds.now
