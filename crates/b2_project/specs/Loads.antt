-- What a load gives.
use Rattle.std.specs.Prelude.{◌≡◌, ℕ, List, [], ◌∷◌, codes, Option, Some, None, Result, Ok, Err}
use Rattle.b2_declaring_calls.specs.declared.declaration.Declaration.{Declaration}
use Rattle.b2_declaring_calls.specs.declared.declaration.Declaration.TheVariants as declarations
use Rattle.b2_gcc.specs.BuildText.{command_in, gcc_text}
use Rattle.b2_declared.specs.declared.fault.DeclaringFault.{DeclaringFault}
use Rattle.b2_declared.specs.declared.visit.Call.{Call}
use Rattle.b2_declared.specs.declared.whole.Declared.{Declared}
use Rattle.b2_declared.specs.Carrying.{tables_of}
use Rattle.b2_declared.specs.Declaring.{declared}
use Rattle.jam_journal.specs.Tables.{Text}
use Rattle.jam_meaning.specs.States.{State}
use Rattle.jam_meaning.specs.Settings.{Setting}
use Rattle.jam_natives.specs.Keeping.{Kept}
use Rattle.b2_project_walk.specs.Walks.{Walk, Refusal, declaring, Course, goes_on, refused, RunsText, no_walk, load_root, ComesTo}

-- a project: the whole walk, and what its calls declare; or why the load is refused, with what stands then
pub data Ending : Type 0 where
  loaded : Walk → Declared → Ending
  fails : Refusal → State Kept → Ending

-- the lines that were recorded when it ended
abbrev pub lines_of : Ending → List Text
lines_of (loaded w found) = w.state.kept.echoes
lines_of (fails why s) = s.kept.echoes

-- the calls of the walk are carried out, and then their property texts are read
abbrev pub with_declared : Walk → Result Declared DeclaringFault → Ending
with_declared w (Ok found) = loaded w found
with_declared w (Err fault) = fails (declaring fault) w.state

abbrev pub declare : Walk → Ending
declare w = with_declared w (declared w.visits w.calls)

abbrev pub then_declare : Course → Ending
then_declare (goes_on w) = declare w
then_declare (refused why s) = fails why s

-- ---- the toolset

-- the command of a declaration that brings the toolset in
abbrev pub toolset_of : Option Declaration → Option (Option Text)
toolset_of (Some (declarations.Using command)) = Some command
toolset_of _ = None

-- the calls up to the first one that brings the toolset in, and its command
abbrev pub ends_or_goes_on : Call → Option (Option Text) → Option (List Call × Option Text) → Option (List Call × Option Text)
ends_or_goes_on call (Some command) more = Some (call ∷ [], command)
ends_or_goes_on call None None = None
ends_or_goes_on call None (Some found) = Some (call ∷ found.0, found.1)

abbrev pub up_to_toolset : List Call → Option (List Call × Option Text)
up_to_toolset [] = None
up_to_toolset (call ∷ calls) = ends_or_goes_on call (toolset_of call.declaration) (up_to_toolset calls)

module _ (setting : Setting Kept) where
  -- Where the calls up to the one that brings the toolset in are carried out, its build text runs in the global module, as a file with the
  -- path `gcc`.
  abbrev pub IsToolsetRun : {X : Type 0} → Result X DeclaringFault → Option Text → Walk → Course → Type 0
  IsToolsetRun (Err fault) command w course = course ≡ refused (declaring fault) w.state
  IsToolsetRun (Ok tables) command w course = RunsText setting (codes "gcc") (gcc_text (command_in command)) w course

  abbrev pub IsEquipped : Option (List Call × Option Text) → Walk → Course → Type 0
  IsEquipped None w course = course ≡ goes_on w
  IsEquipped (Some found) w course = IsToolsetRun (tables_of w.visits found.0) found.1 w course

  -- what comes after the whole walk: the toolset's build text, if a call brings the toolset in
  abbrev pub IsAfterWalk : Course → Course → Type 0
  IsAfterWalk (goes_on w) course = IsEquipped (up_to_toolset w.calls) w course
  IsAfterWalk (refused why s) course = course ≡ refused why s

  -- A load with so many turns, by the target words of a request, ends so: the walk from Jamroot on comes to its end, the toolset's build
  -- text runs, and the calls are declared.
  abbrev pub Loads : ℕ → List Text → Ending → Type 0
  Loads left words ending =
      (whole : Course) × ComesTo setting words (load_root setting (no_walk left)) whole
      × (course : Course) × IsAfterWalk whole course × (ending ≡ then_declare course)
