-- What the files of a disk and the free words of a command come to.
use Rattle.std.specs.Prelude.{◌≡◌, ℕ, List, ◌++◌, Option, Some, None, Result, Ok, Err}
use Rattle.b2_host.specs.Disks.{Disk}
use Rattle.jam_journal.specs.Tables.{Text}
use Rattle.jam_scope.specs.Worlds.{Worlds}
use Rattle.jam_meaning.specs.Settings.{Setting}
use Rattle.jam_meaning.specs.States.{State}
use Rattle.jam_natives.specs.Keeping.{Kept}
use Rattle.jam_effects.specs.declared.fault.EvalFault.{EvalFault}
use Rattle.b2_props.specs.Sets.{Pair}
use Rattle.b2_props.specs.declared.request_fault.RequestFault.{RequestFault}
use Rattle.b2_props.specs.Words.{target_words}
use Rattle.b2_props.specs.Requests.{request_sets, request_fault}
use Rattle.b2_declared.specs.declared.whole.Declared.{Declared}
use Rattle.b2_project_walk.specs.Walks.{Walk, Refusal as LoadRefusal}
use Rattle.b2_project.specs.Loads.{Ending, loaded, fails, lines_of, Loads}
use Rattle.b2_alternatives.specs.declared.fault.ChoiceFault.TheVariants.{Eval}
use Rattle.b2_making.specs.Faults.{eval}
use Rattle.b2_generate.specs.Faults.{Fault, not_chosen, not_made}
use Rattle.b2_generate.specs.LoadedProjects.{LoadedProject}
use Rattle.b2_generate.specs.Planning.{Planned, Plans}
use Rattle.b2_own_text.specs.Questions.{with_fault, IsRefused}
use Rattle.b2_own_text.specs.declared.question.Question.{Question}
use Rattle.b2_own_text.specs.DiskViews.{setting_of}
use Rattle.b2_own_text.specs.Worlds.{answers_in}
use Rattle.b2_testing.specs.Adding.{with_tests}
use Rattle.b2_testing.specs.Readying.{IsEquippedFor}
use Rattle.b2_testing.specs.Requested.{requested}

-- why there is no plan: a refusal of the load, of the request, or of generation
pub data Refusal : Type 0 where
  of_load : LoadRefusal → Refusal
  of_request : RequestFault → Refusal
  of_generation : Fault EvalFault → Refusal

-- the turns that all files of a load share
abbrev pub load_turns : ℕ
load_turns = 1000000

-- What a load over a disk is given: the files and patterns as they are seen, its own turns, and what is refused.
abbrev pub load_setting : Disk → Option (ℕ × Text) → Setting Kept
load_setting disk refused = record (setting_of disk) { budget = load_turns; refused = refused }

-- a loaded project, with the answers of its own text in the worlds that the load left
abbrev pub project_of : Disk → Worlds → Declared → LoadedProject EvalFault
project_of disk worlds found = record { declared = found; roots = worlds.now.roots; answers = answers_in (setting_of disk) found.places worlds }

-- the same, where one question of its own text ends with this fault
abbrev pub project_with : Disk → Worlds → Declared → Question → EvalFault → LoadedProject EvalFault
project_with disk worlds found question fault =
    record (project_of disk worlds found) { answers = with_fault question fault (answers_in (setting_of disk) found.places worlds) }

-- The projects that words name are loaded, and these are all lines of ECHO of the load.
pub record HasLoaded (disk : Disk) (words lines : List Text) : Type 0 where
  pub walk : Walk
  pub found : Declared
  pub loads : Loads (load_setting disk None) load_turns words (loaded walk found)
  pub echoes : lines ≡ walk.state.kept.echoes

-- The lines begin those that the load of these words records to its end.
abbrev pub BeginLoad : Disk → List Text → List Text → Type 0
BeginLoad disk words lines = (ending : Ending) → Loads (load_setting disk None) load_turns words ending → (more : List Text) × (lines_of ending ≡ lines ++ more)

-- the refusal of generation that is a fault of the project's own text
pub data IsOfText (fault : EvalFault) : Fault EvalFault → Type 0 where
  not_returned : IsOfText fault (not_chosen (Eval fault))
  not_written : IsOfText fault (not_made (eval fault))

-- A pattern is refused in generation, although it reads as one: a question of the project's own text ends with this fault, which names
-- the pattern; and where it does so, and every other question is answered by evaluation in which no pattern is refused, the fault is
-- the outcome of generation.
pub record Refuses (disk : Disk) (worlds : Worlds) (found : Declared) (sets : List (List Pair)) (targets : List Text) (fault : EvalFault) : Type 0 where
  pub question : Question
  pub refused : IsRefused found.places worlds disk question fault
  pub why : Fault EvalFault
  pub of_text : IsOfText fault why
  pub plans : Plans (project_with disk worlds found question fault) sets targets (Err why)

-- so it is after these lines of ECHO, for words that are a request, over the project with its tests
pub record IsRefusedInGeneration (disk : Disk) (words lines : List Text) (fault : EvalFault) : Type 0 where
  pub walk : Walk
  pub found : Declared
  pub worlds : Worlds
  pub loads : Loads (load_setting disk None) load_turns words (loaded walk found)
  pub equipped : IsEquippedFor found.tests walk.state.worlds worlds
  pub asked : request_fault found.registry words ≡ None
  pub refuses : Refuses disk worlds (with_tests found) (request_sets found.registry words) (target_words found.registry words) fault
  pub echoes : lines ≡ walk.state.kept.echoes

-- The tests that a request with this plan asks for, in the order of its rows, each with the step that makes its marker.
pub record AsksTests (disk : Disk) (words : List Text) (plan : Planned) (tests : List (List ℕ × ℕ)) : Type 0 where
  pub walk : Walk
  pub found : Declared
  pub loads : Loads (load_setting disk None) load_turns words (loaded walk found)
  pub are : tests ≡ requested found plan.rows plan.steps plan.wanted

-- The files of a disk and the free words of a command come to lines of ECHO, and to a plan or the first refusal: that of the load, to
-- which all words are given; else that of the request, which is read by the features that were loaded; else that of generation. The
-- main targets of the tests stand behind those that were loaded; where there is a test, the build text of the rules that make markers
-- has run in the worlds that the load left. `refused` is the call of a project file, by the turns left in it, of which a pattern is
-- refused though it reads as one, if there is such a call.
module _ (disk : Disk) (refused : Option (ℕ × Text)) (words : List Text) where
  abbrev pub Ends : Ending → Type 0
  Ends = Loads (load_setting disk refused) load_turns words

  -- generation over what was loaded with its tests, in these worlds
  abbrev pub Generates : Worlds → Declared → Result Planned (Fault EvalFault) → Type 0
  Generates worlds found = Plans (project_of disk worlds (with_tests found)) (request_sets found.registry words) (target_words found.registry words)

  pub data Means : List Text → Result Planned Refusal → Type 0 where
    not_loaded : (why : LoadRefusal) (s : State Kept) → Ends (fails why s) → Means s.kept.echoes (Err (of_load why))
    not_asked : (w : Walk) (found : Declared) (why : RequestFault) → Ends (loaded w found) → request_fault found.registry words ≡ Some why →
        Means w.state.kept.echoes (Err (of_request why))
    not_planned : (w : Walk) (found : Declared) (worlds : Worlds) (why : Fault EvalFault) → Ends (loaded w found) →
        IsEquippedFor found.tests w.state.worlds worlds → request_fault found.registry words ≡ None →
        Generates worlds found (Err why) → Means w.state.kept.echoes (Err (of_generation why))
    planned : (w : Walk) (found : Declared) (worlds : Worlds) (plan : Planned) → Ends (loaded w found) →
        IsEquippedFor found.tests w.state.worlds worlds → request_fault found.registry words ≡ None →
        Generates worlds found (Ok plan) → Means w.state.kept.echoes (Ok plan)
