-- Walks over two settings that show the same outside the output roots with which they end.
use Rattle.std.proofs.Common.{◌≡◌, ℕ, Bool, true, false, List, [], ◌∷◌, codes, Option, Some, None, Result, Ok, Err, refl, sym, ap, ◌∙◌, subst}
use Rattle.std.specs.Prelude.{if◌then◌else◌}
use Rattle.std.specs.List.{AllByRecursion}
use Rattle.b2_base.specs.Segments.{here}
use Rattle.b2_host.specs.Disks.{Folder}
use Rattle.b2_declared.specs.declared.fault.DeclaringFault.{DeclaringFault}
use Rattle.b2_declared.specs.declared.visit.Visit.{Visit}
use Rattle.b2_declared.specs.declared.visit.Call.{Call}
use Rattle.b2_declared.specs.declared.whole.Declared.{Declared}
use Rattle.b2_declared.specs.Carrying.{tables_of}
use Rattle.b2_declared.specs.Declaring.{declared}
use Rattle.jam_grammar.specs.Trees.{StmtTrees}
use Rattle.jam_journal.specs.Tables.{Text}
use Rattle.jam_journal.specs.Scopes.{enter}
use Rattle.jam_scope.specs.Worlds.{World}
use Rattle.jam_meaning.specs.Includes.{is_in_roots}
use Rattle.jam_meaning.specs.Outcomes.{Outcome, gives, faults}
use Rattle.jam_meaning.specs.Settings.{Reading, is_missing, is_too_big, has_no_tokens, has_no_tree, is_file, Setting}
use Rattle.jam_meaning.specs.States.{State, with_world, with_scopes}
use Rattle.jam_natives.specs.Keeping.{Kept}
use Rattle.jam_natives.specs.Rows.{jam_meaning}
use Rattle.b2_project_walk.specs.Directories.{way_to, project_files, seen, or_next, first_file, is_visited}
use Rattle.b2_project_walk.specs.Walks.{Walk, no_walk, Refusal, no_jamroot, no_jamfile, Course, goes_on, refused, and_then, visited, prepared, after_run, after_reading, run_project, visit_file, visit_found, visit, visit_all, run_text, load_dir, load_root, ComesTo, is_refused, is_whole, leads_on}
use Rattle.b2_project_walk.specs.Directories.{visit_of, module_above}
use Rattle.b2_project.specs.Loads.{Ending, loaded, fails, with_declared, then_declare, up_to_toolset, IsToolsetRun, IsEquipped, IsAfterWalk, Loads}
use Rattle.jam_source_laws.specs.Sources.{is_hidden, over, HasRoots, Agree, ShowSame, AreRoots}
use Rattle.jam_source_laws.proofs.EvaluationBySources.{close_agrees, run_agrees}
use Rattle.jam_source_laws.proofs.NativesBySources.{either_same}
use Rattle.b2_source_laws.proofs.RootsStayInWalks.{FrozenCourse, visit_frozen, load_frozen, root_frozen}
use Rattle.b2_source_laws.proofs.JamrootIsSeen.{root_seen}

first_same : (f g : Text → Reading) (paths : List Text) → AllByRecursion (λ path. f path ≡ g path) paths → first_file f paths ≡ first_file g paths
first_same f g [] same = refl
first_same f g (path ∷ paths) same = ap (λ r. or_next path r (first_file f paths)) same.0 ∙ ap (or_next path (g path)) (first_same f g paths same.1)

every : (P : Text → Type 0) → ((path : Text) → P path) → (paths : List Text) → AllByRecursion P paths
every P all [] = tt
every P all (path ∷ paths) = (all path, every P all paths)

module _ (roots : List Text) (setting : Setting Kept) (folder : Folder) (names : Text → List Text) (reading : Text → Reading)
    (natives : setting.natives ≡ jam_meaning) (show : ShowSame roots setting (over setting folder names reading)) where
  abbrev two : Setting Kept
  two = over setting folder names reading

  abbrev pub EndsCourse : Course → Type 0
  EndsCourse (goes_on w) = HasRoots roots w.state
  EndsCourse (refused why s) = HasRoots roots s

  -- where a course from a state ends with the roots, the state had them, and the other course is the same
  abbrev AgreeCourse : State Kept → Course → Course → Type 0
  AgreeCourse s c d = EndsCourse c → HasRoots roots s × (c ≡ d)

  then_agrees : (s : State Kept) (c d : Course) (next other : Walk → Course) → AgreeCourse s c d → FrozenCourse c → ((w : Walk) → w.state.worlds.now.frozen ≡ true → AgreeCourse w.state (next w) (other w))
      → AgreeCourse s (and_then c next) (and_then d other)
  then_agrees s (goes_on w) d next other is frozen more = λ good.
      let rest = more w frozen good in
      let front = is rest.0 in
      (front.0, rest.1 ∙ ap (λ c. and_then c other) front.1)
  then_agrees s (refused why last) d next other is frozen more = λ good. ((is good).0, ap (λ c. and_then c other) (is good).1)

  then_same : (s : State Kept) (c d : Course) (next : Walk → Course) → AgreeCourse s c d → ((w : Walk) → EndsCourse (next w) → HasRoots roots w.state) → AgreeCourse s (and_then c next) (and_then d next)
  then_same s (goes_on w) d next is back = λ good. ((is (back w good)).0, ap (λ c. and_then c next) (is (back w good)).1)
  then_same s (refused why last) d next is back = λ good. ((is good).0, ap (λ c. and_then c next) (is good).1)

  after_agrees : (s : State Kept) (o p : Outcome Kept (Unit {0})) (next : State Kept → Walk) → Agree roots s o p → ((later : State Kept) → HasRoots roots (next later).state → HasRoots roots later)
      → AgreeCourse s (after_run o next) (after_run p next)
  after_agrees s (gives ended later) p next is back = λ good. ((is (back later good)).0, ap (λ o. after_run o next) (is (back later good)).1)
  after_agrees s (faults fault later) p next is back = λ good. ((is good).0, ap (λ o. after_run o next) (is good).1)

  read_agrees : (path : Text) (r : Reading) (w : Walk) (next other : StmtTrees → Course) → ((tree : StmtTrees) → AgreeCourse w.state (next tree) (other tree))
      → AgreeCourse w.state (after_reading path r w next) (after_reading path r w other)
  read_agrees path is_missing w next other more = λ good. (good, refl)
  read_agrees path (is_too_big size) w next other more = λ good. (good, refl)
  read_agrees path (has_no_tokens fault) w next other more = λ good. (good, refl)
  read_agrees path (has_no_tree line found) w next other more = λ good. (good, refl)
  read_agrees path (is_file tree) w next other more = more tree

  -- ---- one project

  unprepared : (visit : Visit) (above : Option Text) (s : State Kept) → HasRoots roots (with_world (prepared visit above) s) → HasRoots roots s
  unprepared visit None s good = good
  unprepared visit (Some above) s good = good

  project_agrees : (visit : Visit) (above : Option Text) (tree : StmtTrees) (s : State Kept) → Agree roots s (run_project setting visit above tree s) (run_project two visit above tree s)
  project_agrees visit above tree s = λ good.
      let begun : State Kept = with_world (prepared visit above) s in
      let one = close_agrees roots setting folder names reading show begun _ _ (run_agrees roots setting folder names reading show visit.file tree (with_scopes (enter visit.«module») begun)) good in
      (unprepared visit above s one.0, one.1)

  file_agrees : (visit : Visit) (r : Reading) (w : Walk) → AgreeCourse w.state (visit_file setting visit r w) (visit_file two visit r w)
  file_agrees visit r w =
      read_agrees visit.file r w _ _ (λ tree. after_agrees w.state _ _ (visited visit w) (project_agrees visit (module_above visit w.visits) tree w.state) (λ later good already. good refl))

  -- where the project files of a directory read the same
  visit_agrees : (dir : Text) (w : Walk)
      → (HasRoots roots w.state → AllByRecursion (λ path. seen w.state.worlds.now setting.reading path ≡ seen w.state.worlds.now reading path) (project_files dir))
      → AgreeCourse w.state (visit setting dir w) (visit two dir w)
  visit_agrees dir w looks = go (is_visited dir w.visits)
    where
      one : Text × Reading
      one = first_file (seen w.state.worlds.now setting.reading) (project_files dir)

      other : Text × Reading
      other = first_file (seen w.state.worlds.now reading) (project_files dir)

      go : (b : Bool) → AgreeCourse w.state (if b then goes_on w else visit_found setting dir one w) (if b then goes_on w else visit_found two dir other w)
      go true = λ good. (good, refl)
      go false = λ good.
          let found = file_agrees (visit_of dir one.0 w.visits) one.1 w good in
          (found.0, found.1 ∙ ap (λ f. visit_found two dir f w) (first_same _ _ _ (looks found.0)))

  seen_same : (w : World) (path : Text) → (is_in_roots w path ≡ false → is_hidden roots path ≡ false) → seen w setting.reading path ≡ seen w reading path
  seen_same w path shows = either_same (is_in_roots w path) is_missing (setting.reading path) (reading path) (λ outside. show.reads path (shows outside))

  -- once no output root can be added
  frozen_agrees : (dir : Text) (w : Walk) → w.state.worlds.now.frozen ≡ true → AgreeCourse w.state (visit setting dir w) (visit two dir w)
  frozen_agrees dir w frozen =
      visit_agrees dir w (λ has. every (λ path. seen w.state.worlds.now setting.reading path ≡ seen w.state.worlds.now reading path)
      (λ path. seen_same w.state.worlds.now path (λ outside. ap (λ rs. is_hidden rs path) (sym (has frozen)) ∙ outside)) (project_files dir))

  -- ---- all projects

  all_agree : (dirs : List Text) (w : Walk) → w.state.worlds.now.frozen ≡ true → AgreeCourse w.state (visit_all setting dirs w) (visit_all two dirs w)
  all_agree [] w frozen = λ good. (good, refl)
  all_agree (dir ∷ dirs) w frozen =
      then_agrees w.state _ _ _ _ (frozen_agrees dir w frozen) (visit_frozen setting natives dir w frozen) (λ next still. all_agree dirs next still)

  unless_back : (b : Bool) (why : Refusal) (w : Walk) → EndsCourse (if b then goes_on w else refused why w.state) → HasRoots roots w.state
  unless_back true why w good = good
  unless_back false why w good = good

  load_agrees : (dir : Text) (w : Walk) → w.state.worlds.now.frozen ≡ true → AgreeCourse w.state (load_dir setting dir w) (load_dir two dir w)
  load_agrees dir w frozen = then_same w.state _ _ _ (all_agree (way_to dir) w frozen) (λ next good. unless_back (is_visited dir next.visits) (no_jamfile dir) next good)

  root_agrees : AreRoots roots → (left : ℕ) → AgreeCourse (no_walk left).state (load_root setting (no_walk left)) (load_root two (no_walk left))
  root_agrees are left =
      then_same (no_walk left).state _ _ _
      (visit_agrees here (no_walk left) (λ has. (
        seen_same (no_walk left).state.worlds.now (codes "Jamroot") (λ outside. (root_seen roots are).0),
        (seen_same (no_walk left).state.worlds.now (codes "Jamroot.jam") (λ outside. (root_seen roots are).1), tt),
      )))
      (λ next good. unless_back (is_visited here next.visits) no_jamroot next good)

  comes_agrees : (words : List Text) (c last : Course) → ComesTo setting words c last → FrozenCourse c → EndsCourse last → EndsCourse c × ComesTo two words c last
  comes_agrees words _ _ (is_refused why s) frozen good = (good, is_refused why s)
  comes_agrees words _ _ (is_whole w none) frozen good = (good, is_whole w none)
  comes_agrees words _ last (leads_on w dir _ is more) frozen good =
      let rest = comes_agrees words (load_dir setting dir w) last more (load_frozen setting natives dir w frozen) good in
      let step = load_agrees dir w frozen rest.0 in
      (step.0, leads_on w dir last is (subst (λ c. ComesTo two words c last) step.1 rest.1))

  -- ---- the toolset

  text_agrees : (path : Text) (r : Reading) (w : Walk) → AgreeCourse w.state (run_text setting path r w) (run_text two path r w)
  text_agrees path r w =
      read_agrees path r w _ _ (λ tree. after_agrees w.state _ _ (λ s. record w { state = s }) (run_agrees roots setting folder names reading show path tree w.state) (λ later good. good))

  toolset_agrees : {X : Type 0} (tables : Result X DeclaringFault) (command : Option Text) (w : Walk) (course : Course) → IsToolsetRun setting tables command w course → EndsCourse course
      → HasRoots roots w.state × IsToolsetRun two tables command w course
  toolset_agrees (Err fault) command w course is good = (subst EndsCourse is good, is)
  toolset_agrees (Ok tables) command w course (r, reads, is) good =
      let one = text_agrees (codes "gcc") r w (subst EndsCourse is good) in
      (one.0, (r, reads, is ∙ one.1))

  equipped_agrees : (found : Option (List Call × Option Text)) (w : Walk) (course : Course) → IsEquipped setting found w course → EndsCourse course → HasRoots roots w.state × IsEquipped two found w course
  equipped_agrees None w course is good = (subst EndsCourse is good, is)
  equipped_agrees (Some found) w course is good = toolset_agrees (tables_of w.visits found.0) found.1 w course is good

  walk_agrees : (whole course : Course) → IsAfterWalk setting whole course → EndsCourse course → EndsCourse whole × IsAfterWalk two whole course
  walk_agrees (goes_on w) course is good = equipped_agrees (up_to_toolset w.calls) w course is good
  walk_agrees (refused why s) course is good = (subst EndsCourse is good, is)

  -- ---- a load

  abbrev pub EndsEnding : Ending → Type 0
  EndsEnding (loaded w found) = HasRoots roots w.state
  EndsEnding (fails why s) = HasRoots roots s

  declared_back : (r : Result Declared DeclaringFault) (w : Walk) → EndsEnding (with_declared w r) → HasRoots roots w.state
  declared_back (Ok found) w good = good
  declared_back (Err fault) w good = good

  then_back : (course : Course) → EndsEnding (then_declare course) → EndsCourse course
  then_back (goes_on w) good = declared_back (declared w.visits w.calls) w good
  then_back (refused why s) good = good

  pub loads_agree : AreRoots roots → (left : ℕ) (words : List Text) (ending : Ending) → Loads setting left words ending → EndsEnding ending → Loads two left words ending
  loads_agree are left words ending (whole, comes, course, after, is) good =
      let walked = walk_agrees whole course after (then_back course (subst EndsEnding is good)) in
      let come = comes_agrees words (load_root setting (no_walk left)) whole comes (root_frozen setting left) walked.0 in
      let begun = root_agrees are left come.0 in
      (whole, subst (λ c. ComesTo two words c whole) begun.1 come.1, course, walked.1, is)
