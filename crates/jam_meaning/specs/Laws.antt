-- Laws of evaluation.
use Rattle.std.specs.Prelude.{◌≡◌, ℕ, ◌+◌, ◌≤◌, ◌⊎◌, List, Option, None, is_some, map as each}
use Rattle.jam_grammar.specs.Trees.{StmtTrees}
use Rattle.jam_journal.specs.Tables.{Text}
use Rattle.jam_journal.specs.Scopes.{Value, Frame}
use Rattle.jam_meaning.specs.Faults.{turns, Spot}
use Rattle.jam_meaning.specs.States.{State}
use Rattle.jam_meaning.specs.Settings.{Sight, IsSight, Meaning, Reading, Setting, IsSetting}
use Rattle.jam_meaning.specs.Outcomes.{Outcome, gives, faults}
use Rattle.jam_meaning.specs.NativeCalls.{KeepsFrames}
use Rattle.jam_meaning.specs.RuleCalls.{native_answer, acted_answer}
use Rattle.jam_meaning.specs.Eval.{run, run_call}
use Rattle.jam_meaning.specs.Rolled.{Job, call_rolled, step_text}
use Rattle.jam_meaning.specs.Kept.{Ends, EndsTold}

-- no more turns are left than before
abbrev pub TurnsFall : {R : Type 0} → State R → State R → Type 0
TurnsFall s later = later.left ≤ s.left

-- turns never rise
abbrev pub FileTurnsFall : Type 0 → Type 0
FileTurnsFall R = (setting : Setting R) (path : Text) (tree : StmtTrees) (s : State R) → Ends TurnsFall s (run setting path tree s)

abbrev pub CallTurnsFall : Type 0 → Type 0
CallTurnsFall R = (setting : Setting R) (name : Text) (lists : List Value) (spot : Spot) (s : State R) → Ends TurnsFall s (run_call setting name lists spot s)

-- the state with so many more turns left
abbrev pub with_more : {R : Type 0} → ℕ → State R → State R
with_more k s = record s { left = s.left + k }

-- with more turns the outcome is the same, with as many more left, unless the turns ran out
abbrev pub IsFewer : {R A : Type 0} → ℕ → ℕ → Outcome R A → Outcome R A → Type 0
IsFewer budget k (gives a s) many = many ≡ gives a (with_more k s)
IsFewer budget k (faults fault s) many = (fault.cause ≡ turns budget) ⊎ (many ≡ faults fault (with_more k s))

-- where no pattern is refused that reads as one, turns decide nothing but whether they run out
abbrev pub FileAsWithMore : Type 0 → Type 0
FileAsWithMore R =
    (setting : Setting R) → setting.refused ≡ None → (k : ℕ) (path : Text) (tree : StmtTrees) (s : State R)
    → IsFewer setting.budget k (run setting path tree s) (run setting path tree (with_more k s))

abbrev pub CallAsWithMore : Type 0 → Type 0
CallAsWithMore R =
    (setting : Setting R) → setting.refused ≡ None → (k : ℕ) (name : Text) (lists : List Value) (spot : Spot) (s : State R)
    → IsFewer setting.budget k (run_call setting name lists spot s) (run_call setting name lists spot (with_more k s))

-- what a frame is, and which names it binds
abbrev pub bound_of : Frame → Text × (Option Text × List Text)
bound_of frame = (frame.owner, (frame.caller, each (λ b. b.0) frame.bindings))

abbrev pub bounds : List Frame → List (Text × (Option Text × List Text))
bounds = each bound_of

-- The frames are those that stood, with the names that they bound; only values may have changed, by assignments. The marked worlds,
-- and whether a step is open, are as before.
abbrev pub SameFrames : {R : Type 0} → State R → State R → Type 0
SameFrames s later =
    (bounds later.worlds.now.scopes.frames ≡ bounds s.worlds.now.scopes.frames)
    × (later.worlds.marked ≡ s.worlds.marked) × (is_some later.worlds.now.step ≡ is_some s.worlds.now.step)

-- natives leave the frames, the marked worlds, and whether a step is open
abbrev pub FramesLeft : {R : Type 0} → State R → State R → Type 0
FramesLeft s later = KeepsFrames s.worlds later.worlds

pub record KeepFrames {R : Type 0} (setting : Setting R) : Type 0 where
  pub native : (name : Text) (given : List Value) (line : ℕ) (s : State R) → EndsTold FramesLeft s (native_answer setting name given line s)
  pub records : (name : Text) (given : List Value) (line : ℕ) (s : State R) → EndsTold FramesLeft s (acted_answer setting name given line s)

-- over natives that leave them, evaluation keeps the frames, the marked worlds, and whether a step is open, also after a fault
abbrev pub FileKeepsFrames : Type 0 → Type 0
FileKeepsFrames R = (setting : Setting R) → KeepFrames setting → (path : Text) (tree : StmtTrees) (s : State R) → Ends SameFrames s (run setting path tree s)

abbrev pub CallKeepsFrames : Type 0 → Type 0
CallKeepsFrames R = (setting : Setting R) → KeepFrames setting → (name : Text) (lists : List Value) (spot : Spot) (s : State R) → Ends SameFrames s (run_call setting name lists spot s)

-- a call that is rolled back, and a step, leave the worlds of entry
abbrev pub SameWorlds : {R : Type 0} → State R → State R → Type 0
SameWorlds s later = later.worlds ≡ s.worlds

abbrev pub RolledKeepsWorlds : Type 0 → Type 0
RolledKeepsWorlds R = (setting : Setting R) (name : Text) (lists : List Value) (s : State R) → Ends SameWorlds s (call_rolled setting name lists s)

abbrev pub StepKeepsWorlds : Type 0 → Type 0
StepKeepsWorlds R = (setting : Setting R) (job : Job) (s : State R) → Ends SameWorlds s (step_text setting job s)

-- what only natives change in a world: the parents, the project's directory, the output roots, the notes of a step; and marked worlds
abbrev pub SameRest : {R : Type 0} → State R → State R → Type 0
SameRest s later =
    (later.worlds.now.parents ≡ s.worlds.now.parents) × (later.worlds.now.place ≡ s.worlds.now.place) × (later.worlds.now.roots ≡ s.worlds.now.roots)
    × (later.worlds.now.step ≡ s.worlds.now.step) × (later.worlds.marked ≡ s.worlds.marked)

-- natives change no world
pub record ChangeNothing {R : Type 0} (setting : Setting R) : Type 0 where
  pub native : (name : Text) (given : List Value) (line : ℕ) (s : State R) → EndsTold SameWorlds s (native_answer setting name given line s)
  pub records : (name : Text) (given : List Value) (line : ℕ) (s : State R) → EndsTold SameWorlds s (acted_answer setting name given line s)

-- over natives that change no world, evaluation changes no more than what assignments, definitions and includes change
abbrev pub FileKeepsRest : Type 0 → Type 0
FileKeepsRest R = (setting : Setting R) → ChangeNothing setting → (path : Text) (tree : StmtTrees) (s : State R) → Ends SameRest s (run setting path tree s)

-- for what is rightly seen of the outside each file reads in some way, so that there is a right setting
abbrev pub SightHasSetting : Type 0 → Type 0
SightHasSetting R =
    (budget : ℕ) (natives : Meaning R) (refused : Option (ℕ × Text)) (sight : Sight) → IsSight sight
    → (reading : Text → Reading) × IsSetting {R = R} (record { budget = budget; natives = natives; sight = sight; reading = reading; refused = refused })

-- the modules above modules are as before
abbrev pub SameParents : {R : Type 0} → State R → State R → Type 0
SameParents s later = later.worlds.now.parents ≡ s.worlds.now.parents

-- natives put no module below another one
pub record KeepParents {R : Type 0} (setting : Setting R) : Type 0 where
  pub native : (name : Text) (given : List Value) (line : ℕ) (s : State R) → EndsTold SameParents s (native_answer setting name given line s)
  pub records : (name : Text) (given : List Value) (line : ℕ) (s : State R) → EndsTold SameParents s (acted_answer setting name given line s)

-- over such natives, evaluation puts none there
abbrev pub FileKeepsParents : Type 0 → Type 0
FileKeepsParents R = (setting : Setting R) → KeepParents setting → (path : Text) (tree : StmtTrees) (s : State R) → Ends SameParents s (run setting path tree s)
