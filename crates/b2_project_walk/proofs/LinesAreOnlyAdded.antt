-- What a load records comes after the lines that were recorded before it.
use Rattle.std.proofs.Common.{◌≡◌, Bool, true, false, List, [], ◌∷◌, ◌++◌, Option, refl, sym, ap, ◌∙◌}
use Rattle.std.specs.Prelude.{if◌then◌else◌}
use Rattle.std.proofs.lemmas.List.{append_assoc, append-nil}
use Rattle.b2_base.specs.Segments.{here}
use Rattle.b2_declared.specs.declared.visit.Visit.{Visit}
use Rattle.jam_grammar.specs.Trees.{StmtTrees}
use Rattle.jam_journal.specs.Tables.{Text}
use Rattle.jam_journal.specs.Scopes.{enter}
use Rattle.jam_meaning.specs.Settings.{Told, answers, refuses, Setting, Reading, is_missing, is_too_big, has_no_tokens, has_no_tree, is_file}
use Rattle.jam_meaning.specs.States.{State, with_world, with_scopes}
use Rattle.jam_meaning.specs.Outcomes.{Outcome, gives, faults}
use Rattle.jam_meaning.specs.RuleCalls.{native_answer, acted_answer}
use Rattle.jam_meaning.specs.Eval.{run}
use Rattle.jam_meaning.specs.Kept.{Ends, EndsTold, OnlyAdds}
use Rattle.jam_meaning.proofs.RecordsOnlyGrow.{close_begins, begins_from, run_begins}
use Rattle.jam_natives.specs.Keeping.{Kept}
use Rattle.jam_natives.specs.Rows.{jam_meaning}
use Rattle.b2_project_walk.specs.Directories.{way_to, is_visited, visit_of, module_above, project_files, seen, first_file}
use Rattle.b2_project_walk.specs.Walks.{Walk, Refusal, no_jamroot, no_jamfile, Course, goes_on, refused, state_in, and_then, prepared, visited, after_run, run_project, visit_file, visit_found, visit, visit_all, unless_visited, load_dir, load_root, run_text, ComesTo, is_refused, is_whole, leads_on}
use Rattle.b2_project_walk.specs.Laws.{KeepsRecord, AddsLines}
use Rattle.b2_project_walk.proofs.NativesKeepTheRecord.{record_kept}

pub lines_same : (s : State Kept) → AddsLines s s
lines_same s = ([], sym (append-nil s.kept.echoes))

pub lines_then : (a b c : State Kept) → AddsLines a b → AddsLines b c → AddsLines a c
lines_then a b c (one, first) (two, second) = (one ++ two, second ∙ ap (λ (es : List Text). es ++ two) first ∙ append_assoc a.kept.echoes one two)

lines_told : {A : Type 0} (told : Told A Kept) (s : State Kept) → EndsTold KeepsRecord s told → EndsTold AddsLines s told
lines_told (answers a worlds kept) s (more, decls, echoes) = (more.echoes, echoes)
lines_told (refuses cause worlds kept) s (more, decls, echoes) = (more.echoes, echoes)

-- the native rules only add lines
pub only_lines : (setting : Setting Kept) → setting.natives ≡ jam_meaning → OnlyAdds setting (λ (kept : Kept). kept.echoes)
only_lines setting is = (let all = record_kept setting is in record {
  called = λ name given line s. lines_told (native_answer setting name given line s) s (all.native name given line s);
  acted = λ name given line s. lines_told (acted_answer setting name given line s) s (all.records name given line s);
})

-- ---- one part after another

pub then_adds : (s : State Kept) (course : Course) (next : Walk → Course) → AddsLines s (state_in course) → ((w : Walk) → AddsLines w.state (state_in (next w))) → AddsLines s (state_in (and_then course next))
then_adds s (goes_on w) next h more = lines_then s w.state (state_in (next w)) h (more w)
then_adds s (refused why last) next h more = h

choice_adds : (s : State Kept) (b : Bool) (first second : Course) → AddsLines s (state_in first) → AddsLines s (state_in second) → AddsLines s (state_in (if b then first else second))
choice_adds s true first second one two = one
choice_adds s false first second one two = two

-- an evaluation, after which a walk stands with what natives keep then
pub ran_adds : (s : State Kept) (o : Outcome Kept (Unit {0})) (next : State Kept → Walk) → ((later : State Kept) → (next later).state.kept ≡ later.kept) → Ends AddsLines s o → AddsLines s (state_in (after_run o next))
ran_adds s (gives ended later) next same (more, is) = (more, ap (λ (k : Kept). k.echoes) (same later) ∙ is)
ran_adds s (faults fault later) next same h = h

module _ (setting : Setting Kept) (natives : setting.natives ≡ jam_meaning) where
  project_adds : (v : Visit) (above : Option Text) (tree : StmtTrees) (s : State Kept) → Ends AddsLines s (run_project setting v above tree s)
  project_adds v above tree s =
      let begun : State Kept = with_scopes (enter v.«module») (with_world (prepared v above) s) in
      let ran = run setting v.file tree begun in
      close_begins setting ran s (begins_from setting ran begun s refl (run_begins setting v.file tree begun)) (λ kept. kept.echoes) (only_lines setting natives)

  file_adds : (v : Visit) (reading : Reading) (w : Walk) → AddsLines w.state (state_in (visit_file setting v reading w))
  file_adds v is_missing w = lines_same w.state
  file_adds v (is_too_big size) w = lines_same w.state
  file_adds v (has_no_tokens fault) w = lines_same w.state
  file_adds v (has_no_tree line found) w = lines_same w.state
  file_adds v (is_file tree) w =
      ran_adds w.state (run_project setting v (module_above v w.visits) tree w.state) (visited v w) (λ later. refl) (project_adds v (module_above v w.visits) tree w.state)

  pub visit_adds : (dir : Text) (w : Walk) → AddsLines w.state (state_in (visit setting dir w))
  visit_adds dir w =
      let found = first_file (seen w.state.worlds.now setting.reading) (project_files dir) in
      choice_adds w.state (is_visited dir w.visits) (goes_on w) (visit_found setting dir found w) (lines_same w.state) (file_adds (visit_of dir found.0 w.visits) found.1 w)

  pub all_add : (dirs : List Text) (w : Walk) → AddsLines w.state (state_in (visit_all setting dirs w))
  all_add [] w = lines_same w.state
  all_add (dir ∷ dirs) w = then_adds w.state (visit setting dir w) (λ next. visit_all setting dirs next) (visit_adds dir w) (λ next. all_add dirs next)

  pub needed_adds : (dir : Text) (why : Refusal) (w : Walk) → AddsLines w.state (state_in (unless_visited dir why w))
  needed_adds dir why w = choice_adds w.state (is_visited dir w.visits) (goes_on w) (refused why w.state) (lines_same w.state) (lines_same w.state)

  dir_adds : (dir : Text) (w : Walk) → AddsLines w.state (state_in (load_dir setting dir w))
  dir_adds dir w = then_adds w.state (visit_all setting (way_to dir) w) (λ next. unless_visited dir (no_jamfile dir) next) (all_add (way_to dir) w) (λ next. needed_adds dir (no_jamfile dir) next)

  -- to its end a walk only adds lines
  pub course_adds : (words : List Text) (from last : Course) → ComesTo setting words from last → AddsLines (state_in from) (state_in last)
  course_adds words _ _ (is_refused why s) = lines_same s
  course_adds words _ _ (is_whole w none) = lines_same w.state
  course_adds words _ last (leads_on w dir _ due more) =
      lines_then w.state (state_in (load_dir setting dir w)) (state_in last) (dir_adds dir w) (course_adds words (load_dir setting dir w) last more)

  -- so does a text beside the files of projects
  pub text_adds : (path : Text) (reading : Reading) (w : Walk) → AddsLines w.state (state_in (run_text setting path reading w))
  text_adds path is_missing w = lines_same w.state
  text_adds path (is_too_big size) w = lines_same w.state
  text_adds path (has_no_tokens fault) w = lines_same w.state
  text_adds path (has_no_tree line found) w = lines_same w.state
  text_adds path (is_file tree) w =
      ran_adds w.state (run setting path tree w.state) (λ s. record w { state = s }) (λ later. refl) (run_begins setting path tree w.state (λ kept. kept.echoes) (only_lines setting natives))
