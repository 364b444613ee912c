-- What stands before a request is read: the main targets of the tests, and the world with the build text of their rules.
use Rattle.std.specs.Prelude.{◌≡◌, ◌≢◌, ℕ, List, [], ◌∷◌, ◌++◌, codes, is_some, Option, Some, None, slice_get}
use Rattle.std.specs.List.{flat_map}
use Rattle.std.specs.Str.{chars}
use Rattle.jam_scope.specs.Worlds.{Worlds}
use Rattle.jam_meaning.specs.Laws.{bounds}
use Rattle.jam_meaning.specs.Settings.{Sight, Setting, is_missing}
use Rattle.jam_natives.specs.Keeping.{Kept}
use Rattle.jam_natives.specs.Rows.{jam_meaning}
use Rattle.b2_sight_laws.proofs.EveryMatchIsDecided.{match_told}
use Rattle.b2_declared.specs.declared.place.TestCall.{TestCall}
use Rattle.b2_declared.specs.declared.place.Target.{Target}
use Rattle.b2_declared.specs.declared.whole.Declared.{Declared}
use Rattle.b2_project_walk.specs.Walks.{Walk, Course, goes_on, no_walk, RunsText}
use Rattle.b2_project.specs.declared.project.Project.{Project}
use Rattle.b2_testing_text.specs.Definitions.{definitions, equipped, IsPart}
use Rattle.b2_testing_text.specs.Texts.{testing_text}
use Rattle.b2_testing.specs.Adding.{with_tests, added}

-- the turns of the build text, which calls nothing
abbrev pub text_turns : ℕ
text_turns = 100

-- What it runs with: no file stands, patterns match as they are decided, and nothing is refused.
abbrev pub text_sight : Sight
text_sight = record { folder = λ path. None; names = λ dir. []; matching = λ pattern text. (match_told (chars text) (chars pattern)).0 }

abbrev pub text_setting : Setting Kept
text_setting = record { budget = text_turns; natives = jam_meaning; sight = text_sight; reading = λ path. is_missing; refused = None }

-- a walk without projects, in these worlds
abbrev pub walk_in : Worlds → Walk
walk_in worlds = record (no_walk text_turns) { state = record (no_walk text_turns).state { worlds = worlds } }

-- what the build text leaves of some worlds
pub record IsEquipped (before after : Worlds) : Type 0 where
  pub walk : Walk
  pub runs : RunsText text_setting (codes "gcc") testing_text (walk_in before) (goes_on walk)
  pub left : after ≡ walk.state.worlds

-- the walk after it, in which its definitions are made: each of its eight statements took a turn
abbrev pub walk_after : Worlds → Walk
walk_after before = record (no_walk 92) { state = record (no_walk 92).state { worlds = equipped before } }

-- In some worlds it has one course: it goes on to its end. So no fault comes of it.
pub record HasOneCourse (before : Worlds) : Type 0 where
  pub runs : RunsText text_setting (codes "gcc") testing_text (walk_in before) (goes_on (walk_after before))
  pub alone : (course : Course) → RunsText text_setting (codes "gcc") testing_text (walk_in before) course → course ≡ goes_on (walk_after before)

-- it runs where there is a test
abbrev pub IsEquippedFor : List TestCall → Worlds → Worlds → Type 0
IsEquippedFor [] before after = after ≡ before
IsEquippedFor (test ∷ more) before after = IsEquipped before after

-- What the text never changes in some worlds: the frames, but for the values of names; whether a step is open; and the marks.
pub record StaysOpen (before after : Worlds) : Type 0 where
  pub frames : bounds after.now.scopes.frames ≡ bounds before.now.scopes.frames
  pub step : is_some after.now.step ≡ is_some before.now.step
  pub marked : after.marked ≡ before.marked

-- what a load left and declared, as a request finds it
pub record IsReady (before : Worlds) (found : Declared) (after : Worlds) (made : Declared) : Type 0 where
  pub worlds : IsEquippedFor found.tests before after
  pub declared : made ≡ with_tests found

-- ---- the project

pub record LeavesReady (old new : Project) : Type 0 where
  pub ready : IsReady old.world old.declared new.world new.declared
  pub natives : new.natives ≡ old.natives

-- Memory ran out, which it does only where there is a test: a first part of what the text defines was made, and some of the new main
-- targets stand behind the others, in order. Where one does, the world is what the text leaves. All else is as before.
pub record LeavesPart (old new : Project) : Type 0 where
  pub tested : old.declared.tests ≢ []
  pub some_first : List Target
  pub rest : List Target
  pub first_part : flat_map added old.declared.tests ≡ some_first ++ rest
  pub declared : new.declared ≡ record old.declared { targets = old.declared.targets ++ some_first }
  pub world : IsPart definitions old.world new.world
  pub whole : some_first ≢ [] → IsEquipped old.world new.world
  pub natives : new.natives ≡ old.natives

-- Main targets stand behind the others, in order; or a first part of them, where memory ran out.
abbrev pub AddsTargets : Project → List Target → Project → Type 0
AddsTargets old more new = new ≡ record old { declared = record old.declared { targets = old.declared.targets ++ more } }

pub record AddsPart (old : Project) (more : List Target) (new : Project) : Type 0 where
  pub some_first : List Target
  pub rest : List Target
  pub first_part : more ≡ some_first ++ rest
  pub added : AddsTargets old some_first new

-- what the test at a place becomes
abbrev pub added_by : Option TestCall → List Target
added_by None = []
added_by (Some test) = added test

abbrev pub added_at : ℕ → List TestCall → List Target
added_at place tests = added_by (slice_get tests place)
