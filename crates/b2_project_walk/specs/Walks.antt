-- Which projects a load visits, and what it does there.
use Rattle.std.specs.Prelude.{◌≡◌, ℕ, List, [], ◌∷◌, ◌++◌, drop, length, map as each, Option, Some, None, if◌then◌else◌}
use Rattle.std.specs.List.{flat_map}
use Rattle.b2_declaring_calls.specs.Directories.{directories}
use Rattle.b2_declared.specs.declared.fault.DeclaringFault.{DeclaringFault}
use Rattle.b2_declared.specs.declared.visit.Visit.{Visit}
use Rattle.b2_declared.specs.declared.visit.Call.{Call}
use Rattle.jam_grammar.specs.Trees.{StmtTrees}
use Rattle.jam_journal.specs.Tables.{Text}
use Rattle.jam_lexer.specs.declared.fault.LexFault.{LexFault}
use Rattle.jam_scope.specs.Worlds.{World}
use Rattle.jam_scope.specs.Changes.{first_worlds, set_parent, set_place, freeze_roots}
use Rattle.jam_meaning.specs.Faults.{Fault}
use Rattle.jam_meaning.specs.States.{State, with_world}
use Rattle.jam_meaning.specs.Settings.{Reading, is_missing, is_too_big, has_no_tokens, has_no_tree, is_file, Setting}
use Rattle.jam_meaning.specs.Outcomes.{Outcome, gives, faults, in_module}
use Rattle.jam_meaning.specs.Eval.{run}
use Rattle.jam_natives.specs.Keeping.{Kept}
use Rattle.jam_values.specs.FileReadings.{ReadsAny}
use Rattle.b2_project_walk.specs.RecordedCalls.{call_of, names_of}
use Rattle.b2_project_walk.specs.Directories.{way_to, project_files, seen, first_file, is_visited, first_new, visit_of, module_above}
use Rattle.b2_base.specs.Segments.{here}

-- The walk so far: the projects that were visited, in order; the calls of declaring rules that their files made, in order; the
-- directories that these calls name, in order; and the world, the turns that are left, and what the natives keep.
pub record Walk : Type 0 where
  pub visits : List Visit
  pub calls : List Call
  pub named : List Text
  pub state : State Kept

-- nothing was visited, and so many turns are left
abbrev pub no_walk : ℕ → Walk
no_walk left = record { visits = []; calls = []; named = []; state = record { worlds = first_worlds; left = left; kept = record { decls = []; echoes = [] } } }

-- why a load is refused
pub data Refusal : Type 0 where
  no_jamroot : Refusal
  no_jamfile : Text → Refusal
  too_big : Text → ℕ → Refusal
  lex : Text → LexFault → Refusal
  syntax_at : Text → ℕ → Text → Refusal
  eval : Fault → Refusal
  declaring : DeclaringFault → Refusal

-- a walk goes on, or the load is refused, with what stands then
pub data Course : Type 0 where
  goes_on : Walk → Course
  refused : Refusal → State Kept → Course

-- what stands then
abbrev pub state_in : Course → State Kept
state_in (goes_on w) = w.state
state_in (refused why s) = s

abbrev pub and_then : Course → (Walk → Course) → Course
and_then (goes_on w) next = next w
and_then (refused why s) next = refused why s

-- ---- what a file adds

-- the calls that were recorded after some others
abbrev pub new_calls : ℕ → Kept → Kept → List Call
new_calls project before after = each (call_of project) (drop (length before.decls) after.decls)

-- The walk with a further project, whose file has ended: its calls, and what they name, come last. No output root is added from then on.
abbrev pub with_project : Visit → List Call → Walk → State Kept → Walk
with_project visit calls w s = record {
  visits = w.visits ++ visit ∷ [];
  calls = w.calls ++ calls;
  named = w.named ++ flat_map (λ call. names_of visit.dir call.declaration) calls;
  state = with_world freeze_roots s;
}

abbrev pub visited : Visit → Walk → State Kept → Walk
visited visit w s = with_project visit (new_calls (length w.visits) w.state.kept s.kept) w s

-- a module is put below that of the parent, if there is one
abbrev pub put_below : Text → Option Text → World → World
put_below owner None w = w
put_below owner (Some above) w = set_parent owner above w

-- the world in which a project's file begins: its directory is the place
abbrev pub prepared : Visit → Option Text → World → World
prepared visit above w = set_place visit.dir (put_below visit.«module» above w)

-- the walk that follows from an evaluation, or its fault
abbrev pub after_run : Outcome Kept (Unit {0}) → (State Kept → Walk) → Course
after_run (gives ended s) next = goes_on (next s)
after_run (faults fault s) next = refused (eval fault) s

-- what follows from how a file reads: nothing where it is missing
abbrev pub after_reading : Text → Reading → Walk → (StmtTrees → Course) → Course
after_reading path is_missing w next = goes_on w
after_reading path (is_too_big size) w next = refused (too_big path size) w.state
after_reading path (has_no_tokens fault) w next = refused (lex path fault) w.state
after_reading path (has_no_tree line found) w next = refused (syntax_at path line found) w.state
after_reading path (is_file tree) w next = next tree

-- the load is refused so, unless a directory was visited
abbrev pub unless_visited : Text → Refusal → Walk → Course
unless_visited dir why w = if is_visited dir w.visits then goes_on w else refused why w.state

-- the next directory: the first one that was named and not visited, where those that target words name come last
abbrev pub due : List Text → Walk → Option Text
due words w = first_new w.visits (w.named ++ directories here words)

module _ (setting : Setting Kept) where
  -- ---- one project

  -- its file runs in its module
  abbrev pub run_project : Visit → Option Text → StmtTrees → State Kept → Outcome Kept (Unit {0})
  run_project visit above tree s = in_module visit.«module» (λ s₁. run setting visit.file tree s₁) (with_world (prepared visit above) s)

  abbrev pub visit_file : Visit → Reading → Walk → Course
  visit_file visit reading w =
      after_reading visit.file reading w (λ tree. after_run (run_project visit (module_above visit w.visits) tree w.state) (visited visit w))

  -- a directory with a project file is visited, once; one without is passed over
  abbrev pub visit_found : Text → Text × Reading → Walk → Course
  visit_found dir found w = visit_file (visit_of dir found.0 w.visits) found.1 w

  abbrev pub visit : Text → Walk → Course
  visit dir w =
      if is_visited dir w.visits then goes_on w else visit_found dir (first_file (seen w.state.worlds.now setting.reading) (project_files dir)) w

  abbrev pub visit_all : List Text → Walk → Course
  visit_all [] w = goes_on w
  visit_all (dir ∷ dirs) w = and_then (visit dir w) (λ next. visit_all dirs next)

  -- ---- a text beside the files of projects

  -- it runs in the global module, as a file with this path
  abbrev pub run_text : Text → Reading → Walk → Course
  run_text path reading w = after_reading path reading w (λ tree. after_run (run setting path tree w.state) (λ s. record w { state = s }))

  -- what comes of its bytes
  abbrev pub RunsText : Text → List ℕ → Walk → Course → Type 0
  RunsText path bytes w course = (reading : Reading) × ReadsAny bytes reading × (course ≡ run_text path reading w)

  -- ---- all projects

  -- a directory is loaded: all on the way to it are visited, and then it has to be one of them
  abbrev pub load_dir : Text → Walk → Course
  load_dir dir w = and_then (visit_all (way_to dir) w) (λ next. unless_visited dir (no_jamfile dir) next)

  -- Jamroot is loaded
  abbrev pub load_root : Walk → Course
  load_root w = and_then (visit here w) (λ next. unless_visited here no_jamroot next)

  module _ (words : List Text) where
    -- where a walk comes to: it is refused, or it is at its end, or the directory that is due is loaded and the walk goes on
    pub data ComesTo : Course → Course → Type 0 where
      is_refused : (why : Refusal) (s : State Kept) → ComesTo (refused why s) (refused why s)
      is_whole : (w : Walk) → due words w ≡ None → ComesTo (goes_on w) (goes_on w)
      leads_on : (w : Walk) (dir : Text) (last : Course) → due words w ≡ Some dir → ComesTo (load_dir dir w) last → ComesTo (goes_on w) last
