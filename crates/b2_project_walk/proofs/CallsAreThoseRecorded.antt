-- Each part of a walk adds the calls of a file as its natives tell them, for the law that `calls_are_recorded`.
use Rattle.std.proofs.Common.{◌≡◌, ℕ, Bool, true, false, List, [], ◌∷◌, ◌++◌, length, drop, ◌+◌, Option, refl, sym, ap, ◌∙◌, subst, arith}
use Rattle.std.specs.Prelude.{if◌then◌else◌, map as each}
use Rattle.std.proofs.Math.Seq.{drop-append_seam}
use Rattle.std.proofs.lemmas.List.{length-append, length-map}
use Rattle.b2_declared.specs.declared.visit.Visit.{Visit}
use Rattle.b2_declared.specs.declared.visit.Call.{Call}
use Rattle.jam_grammar.specs.Trees.{StmtTrees}
use Rattle.jam_journal.specs.Tables.{Text}
use Rattle.jam_journal.specs.Scopes.{enter}
use Rattle.jam_meaning.specs.Eval.{run}
use Rattle.jam_meaning.specs.Kept.{Ends}
use Rattle.jam_meaning.specs.Outcomes.{Outcome, gives, faults, close_frame}
use Rattle.jam_meaning.specs.Settings.{Setting, Reading, is_missing, is_too_big, has_no_tokens, has_no_tree, is_file}
use Rattle.jam_meaning.specs.States.{State, with_world, with_scopes}
use Rattle.jam_natives.specs.declared.decl.Decl.{Decl}
use Rattle.jam_natives.specs.Keeping.{Kept}
use Rattle.jam_natives.specs.Rows.{jam_meaning}
use Rattle.b2_project_walk.specs.Directories.{way_to, project_files, seen, first_file, is_visited, visit_of, module_above}
use Rattle.b2_base.specs.Segments.{here}
use Rattle.b2_project_walk.specs.Laws.{KeepsRecord, FilesKeepRecord, read_as, AreRecorded}
use Rattle.b2_project_walk.specs.Walks.{Walk, Refusal, no_jamroot, no_jamfile, Course, goes_on, refused, and_then, prepared, run_project, after_run, visited, visit_file, visit_found, visit, visit_all, unless_visited, load_dir, load_root, no_walk, ComesTo, is_refused, is_whole, leads_on}
use Rattle.b2_project_walk.specs.RecordedCalls.{call_of}

-- ---- calls read one after another

read_more : (ps : List ℕ) (ds : List Decl) (qs : List ℕ) (es : List Decl) → length ps ≡ length ds → read_as (ps ++ qs) (ds ++ es) ≡ read_as ps ds ++ read_as qs es
read_more [] [] qs es same = refl
read_more [] (d ∷ ds) qs es same = cc
read_more (p ∷ ps) [] qs es same = cc
read_more (p ∷ ps) (d ∷ ds) qs es same = ap (λ (calls : List Call). call_of p d ∷ calls) (read_more ps ds qs es (let e : length ps ≡ length ds = omega (arith, same) in e))

read_of : (p : ℕ) (es : List Decl) → read_as (each (λ _. p) es) es ≡ each (call_of p) es
read_of p [] = refl
read_of p (e ∷ es) = ap (λ (calls : List Call). call_of p e ∷ calls) (read_of p es)

-- with the calls of a further project
recorded_more : (p : ℕ) (before after more : List Decl) (calls : List Call) → after ≡ before ++ more → AreRecorded before calls
    → AreRecorded after (calls ++ each (call_of p) (drop (length before) after))
recorded_more p before after more calls is h =
    subst (λ (ds : List Decl). AreRecorded ds (calls ++ each (call_of p) (drop (length before) ds))) (sym is) record {
      projects = h.projects ++ each (λ _. p) more;
      each_one = length-append h.projects (each (λ _. p) more) ∙ ap (λ n. n + length (each (λ _. p) more)) h.each_one ∙ ap (λ n. length before + n) (length-map more (λ _. p)) ∙ sym (length-append before more);
      read = ap (λ (ds : List Decl). calls ++ each (call_of p) ds) (drop-append_seam before more) ∙ ap (λ (cs : List Call). cs ++ each (call_of p) more) h.read
          ∙ ap (λ (cs : List Call). read_as h.projects before ++ cs) (sym (read_of p more)) ∙ sym (read_more h.projects before (each (λ _. p) more) more h.each_one);
    }

-- ---- courses

abbrev pub IsRecorded : Course → Type 0
IsRecorded (goes_on w) = AreRecorded w.state.kept.decls w.calls
IsRecorded (refused why s) = Unit {0}

then_recorded : (c : Course) (next : Walk → Course) → IsRecorded c → ((w : Walk) → IsRecorded (goes_on w) → IsRecorded (next w)) → IsRecorded (and_then c next)
then_recorded (goes_on w) next h f = f w h
then_recorded (refused why s) next h f = tt

choice_recorded : (b : Bool) (first second : Course) → IsRecorded first → IsRecorded second → IsRecorded (if b then first else second)
choice_recorded true first second one two = one
choice_recorded false first second one two = two

ran_recorded : (s : State Kept) (o : Outcome Kept (Unit {0})) (next : State Kept → Walk) → Ends KeepsRecord s o → ((later : State Kept) → KeepsRecord s later → IsRecorded (goes_on (next later)))
    → IsRecorded (after_run o next)
ran_recorded s (gives ended later) next h f = f later h
ran_recorded s (faults fault later) next h f = tt

closed_record : (s begun : State Kept) (o : Outcome Kept (Unit {0})) → begun.kept ≡ s.kept → Ends KeepsRecord begun o → Ends KeepsRecord s (close_frame o)
closed_record s begun (gives u later) is (more, decls, echoes) = (more, decls ∙ ap (λ k. k.decls ++ more.decls) is, echoes ∙ ap (λ k. k.echoes ++ more.echoes) is)
closed_record s begun (faults fault later) is (more, decls, echoes) = (more, decls ∙ ap (λ k. k.decls ++ more.decls) is, echoes ∙ ap (λ k. k.echoes ++ more.echoes) is)

module _ (law : FilesKeepRecord) (setting : Setting Kept) (natives : setting.natives ≡ jam_meaning) where
  project_keeps : (visit : Visit) (above : Option Text) (tree : StmtTrees) (s : State Kept) → Ends KeepsRecord s (run_project setting visit above tree s)
  project_keeps visit above tree s =
      let begun : State Kept = with_scopes (enter visit.«module») (with_world (prepared visit above) s) in
      closed_record s begun (run setting visit.file tree begun) refl (law setting natives visit.file tree begun)

  file_recorded : (v : Visit) (reading : Reading) (w : Walk) → IsRecorded (goes_on w) → IsRecorded (visit_file setting v reading w)
  file_recorded v is_missing w h = h
  file_recorded v (is_too_big size) w h = tt
  file_recorded v (has_no_tokens fault) w h = tt
  file_recorded v (has_no_tree line found) w h = tt
  file_recorded v (is_file tree) w h =
      ran_recorded w.state (run_project setting v (module_above v w.visits) tree w.state) (visited v w) (project_keeps v (module_above v w.visits) tree w.state)
      (λ later kept. recorded_more (length w.visits) w.state.kept.decls later.kept.decls kept.0.decls w.calls kept.1 h)

  visit_recorded : (dir : Text) (w : Walk) → IsRecorded (goes_on w) → IsRecorded (visit setting dir w)
  visit_recorded dir w h =
      let found = first_file (seen w.state.worlds.now setting.reading) (project_files dir) in
      choice_recorded (is_visited dir w.visits) (goes_on w) (visit_found setting dir found w) h (file_recorded (visit_of dir found.0 w.visits) found.1 w h)

  all_recorded : (dirs : List Text) (w : Walk) → IsRecorded (goes_on w) → IsRecorded (visit_all setting dirs w)
  all_recorded [] w h = h
  all_recorded (dir ∷ dirs) w h = then_recorded (visit setting dir w) (λ next. visit_all setting dirs next) (visit_recorded dir w h) (λ next g. all_recorded dirs next g)

  needed_recorded : (dir : Text) (why : Refusal) (w : Walk) → IsRecorded (goes_on w) → IsRecorded (unless_visited dir why w)
  needed_recorded dir why w h = choice_recorded (is_visited dir w.visits) (goes_on w) (refused why w.state) h tt

  dir_recorded : (dir : Text) (w : Walk) → IsRecorded (goes_on w) → IsRecorded (load_dir setting dir w)
  dir_recorded dir w h =
      then_recorded (visit_all setting (way_to dir) w) (λ next. unless_visited dir (no_jamfile dir) next) (all_recorded (way_to dir) w h) (λ next g. needed_recorded dir (no_jamfile dir) next g)

  root_recorded : (w : Walk) → IsRecorded (goes_on w) → IsRecorded (load_root setting w)
  root_recorded w h = then_recorded (visit setting here w) (λ next. unless_visited here no_jamroot next) (visit_recorded here w h) (λ next g. needed_recorded here no_jamroot next g)

  course_recorded : (words : List Text) (from last : Course) → ComesTo setting words from last → IsRecorded from → IsRecorded last
  course_recorded words _ _ (is_refused why s) h = tt
  course_recorded words _ _ (is_whole w none) h = h
  course_recorded words _ last (leads_on w dir _ due more) h = course_recorded words (load_dir setting dir w) last more (dir_recorded dir w h)

  pub calls_recorded : (left : ℕ) (words : List Text) (w : Walk) → ComesTo setting words (load_root setting (no_walk left)) (goes_on w) → AreRecorded w.state.kept.decls w.calls
  calls_recorded left words w comes =
      course_recorded words (load_root setting (no_walk left)) (goes_on w) comes (root_recorded (no_walk left) (record { projects = []; each_one = refl; read = refl }))
