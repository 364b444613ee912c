-- Frozen output roots stay in a walk, and they are frozen once Jamroot was visited.
use Rattle.std.proofs.Common.{◌≡◌, ℕ, zero, Bool, true, false, List, [], ◌∷◌, codes, Option, Some, None, Result, Ok, Err, refl, sym, subst, arith}
use Rattle.std.specs.Prelude.{if◌then◌else◌}
use Rattle.std.specs.List.{Contains}
use Rattle.b2_base.specs.Segments.{here}
use Rattle.b2_base.proofs.NormalMakesNormalForms.{is_normal_normal}
use Rattle.b2_declared.specs.declared.fault.DeclaringFault.{DeclaringFault}
use Rattle.b2_declared.specs.declared.place.TestCall.{TestCall}
use Rattle.b2_declared.specs.declared.visit.Visit.{Visit}
use Rattle.b2_declared.specs.declared.visit.Call.{Call}
use Rattle.b2_declared.specs.declared.whole.Declared.{Declared}
use Rattle.b2_declared.specs.Carrying.{tables_of}
use Rattle.b2_declared.specs.Declaring.{declared}
use Rattle.jam_grammar.specs.Trees.{StmtTrees}
use Rattle.jam_journal.specs.Tables.{Text}
use Rattle.jam_journal.specs.Scopes.{enter}
use Rattle.jam_scope.specs.Worlds.{World, Worlds}
use Rattle.jam_scope.specs.Changes.{freeze_roots}
use Rattle.jam_scope.specs.Texts.{first_roots}
use Rattle.jam_meaning.specs.Kept.{Ends}
use Rattle.jam_meaning.specs.Outcomes.{Outcome, gives, faults, close_frame}
use Rattle.jam_meaning.specs.Settings.{Reading, is_missing, is_too_big, has_no_tokens, has_no_tree, is_file, Setting}
use Rattle.jam_meaning.specs.States.{State, with_world, with_scopes}
use Rattle.jam_meaning.specs.Eval.{run}
use Rattle.jam_meaning.proofs.KeptByEval.{run_keeps}
use Rattle.jam_natives.specs.Keeping.{Kept}
use Rattle.jam_natives.specs.Rows.{jam_meaning}
use Rattle.b2_project_walk.specs.Directories.{way_to, project_files, seen, first_file, is_visited, visit_of, module_above}
use Rattle.b2_project_walk.specs.Walks.{Walk, no_walk, Refusal, no_jamroot, no_jamfile, Course, goes_on, refused, and_then, visited, prepared, after_run, after_reading, unless_visited, run_project, visit_file, visit_found, visit, visit_all, run_text, load_dir, load_root, ComesTo, is_refused, is_whole, leads_on}
use Rattle.b2_project.specs.Loads.{Ending, loaded, fails, with_declared, then_declare, up_to_toolset, IsToolsetRun, IsEquipped, IsAfterWalk, Loads}
use Rattle.b2_testing.specs.Readying.{text_setting, walk_in, IsEquippedFor}
use Rattle.jam_source_laws.specs.Sources.{IsRoot, AreRoots, KeepsRoots, RootsStay}
use Rattle.jam_source_laws.proofs.RootsStay.{still, roots_then, roots_kept}

-- where a course goes on, no output root can be added
abbrev pub FrozenCourse : Course → Type 0
FrozenCourse (goes_on w) = w.state.worlds.now.frozen ≡ true
FrozenCourse (refused why s) = Unit {0}

abbrev StaysCourse : World → Course → Type 0
StaysCourse from (goes_on w) = KeepsRoots from w.state.worlds.now
StaysCourse from (refused why s) = KeepsRoots from s.worlds.now

frozen_then : (w later : World) → KeepsRoots w later → KeepsRoots w (freeze_roots later)
frozen_then w later h = ((λ frozen. (refl, (h.0 frozen).1)), h.1, h.2)

shift_course : (a b : World) (c : Course) → KeepsRoots a b → StaysCourse b c → StaysCourse a c
shift_course a b (goes_on w) before after = roots_then a b w.state.worlds.now before after
shift_course a b (refused why s) before after = roots_then a b s.worlds.now before after

then_stays : (from : World) (c : Course) (next : Walk → Course) → StaysCourse from c → ((w : Walk) → StaysCourse w.state.worlds.now (next w)) → StaysCourse from (and_then c next)
then_stays from (goes_on w) next is more = shift_course from w.state.worlds.now (next w) is (more w)
then_stays from (refused why s) next is more = is

is_frozen : (from : World) (c : Course) → StaysCourse from c → from.frozen ≡ true → FrozenCourse c
is_frozen from (goes_on w) is frozen = (is.0 frozen).0
is_frozen from (refused why s) is frozen = tt

module _ (setting : Setting Kept) (natives : setting.natives ≡ jam_meaning) where
  closed : (s : State Kept) (o : Outcome Kept (Unit {0})) → Ends RootsStay s o → Ends RootsStay s (close_frame o)
  closed s (gives ended later) h = h
  closed s (faults fault later) h = h

  unprepared : (visit : Visit) (above : Option Text) (s : State Kept) (o : Outcome Kept (Unit {0})) → Ends RootsStay (with_world (prepared visit above) s) o → Ends RootsStay s o
  unprepared visit None s (gives ended later) h = h
  unprepared visit None s (faults fault later) h = h
  unprepared visit (Some above) s (gives ended later) h = h
  unprepared visit (Some above) s (faults fault later) h = h

  entered : (owner : Text) (s : State Kept) (o : Outcome Kept (Unit {0})) → Ends RootsStay (with_scopes (enter owner) s) o → Ends RootsStay s o
  entered owner s (gives ended later) h = h
  entered owner s (faults fault later) h = h

  project_stays : (visit : Visit) (above : Option Text) (tree : StmtTrees) (s : State Kept) → Ends RootsStay s (run_project setting visit above tree s)
  project_stays visit above tree s =
      let begun : State Kept = with_world (prepared visit above) s in
      let ran : Outcome Kept (Unit {0}) = run setting visit.file tree (with_scopes (enter visit.«module») begun) in
      unprepared visit above s (close_frame ran) (closed begun ran (entered visit.«module» begun ran
      (run_keeps setting RootsStay RootsStay (roots_kept setting natives) visit.file tree (with_scopes (enter visit.«module») begun))))

  after_stays : (s : State Kept) (o : Outcome Kept (Unit {0})) (next : State Kept → Walk) → Ends RootsStay s o → ((later : State Kept) → KeepsRoots s.worlds.now later.worlds.now → KeepsRoots s.worlds.now (next later).state.worlds.now)
      → StaysCourse s.worlds.now (after_run o next)
  after_stays s (gives ended later) next h more = more later h
  after_stays s (faults fault later) next h more = h

  read_stays : (path : Text) (r : Reading) (w : Walk) (next : StmtTrees → Course) → ((tree : StmtTrees) → StaysCourse w.state.worlds.now (next tree)) → StaysCourse w.state.worlds.now (after_reading path r w next)
  read_stays path is_missing w next more = still w.state.worlds.now
  read_stays path (is_too_big size) w next more = still w.state.worlds.now
  read_stays path (has_no_tokens fault) w next more = still w.state.worlds.now
  read_stays path (has_no_tree line found) w next more = still w.state.worlds.now
  read_stays path (is_file tree) w next more = more tree

  file_stays : (visit : Visit) (r : Reading) (w : Walk) → StaysCourse w.state.worlds.now (visit_file setting visit r w)
  file_stays visit r w =
      read_stays visit.file r w _ (λ tree. after_stays w.state _ (visited visit w) (project_stays visit (module_above visit w.visits) tree w.state) (λ later h. frozen_then w.state.worlds.now later.worlds.now h))

  either_stays : (b : Bool) (from : World) (c d : Course) → StaysCourse from c → StaysCourse from d → StaysCourse from (if b then c else d)
  either_stays true from c d one two = one
  either_stays false from c d one two = two

  visit_stays : (dir : Text) (w : Walk) → StaysCourse w.state.worlds.now (visit setting dir w)
  visit_stays dir w =
      let found : Text × Reading = first_file (seen w.state.worlds.now setting.reading) (project_files dir) in
      either_stays (is_visited dir w.visits) w.state.worlds.now (goes_on w) (visit_found setting dir found w) (still w.state.worlds.now) (file_stays (visit_of dir found.0 w.visits) found.1 w)

  pub visit_frozen : (dir : Text) (w : Walk) → w.state.worlds.now.frozen ≡ true → FrozenCourse (visit setting dir w)
  visit_frozen dir w frozen = is_frozen w.state.worlds.now (visit setting dir w) (visit_stays dir w) frozen

  all_stay : (dirs : List Text) (w : Walk) → StaysCourse w.state.worlds.now (visit_all setting dirs w)
  all_stay [] w = still w.state.worlds.now
  all_stay (dir ∷ dirs) w = then_stays w.state.worlds.now (visit setting dir w) (λ next. visit_all setting dirs next) (visit_stays dir w) (λ next. all_stay dirs next)

  unless_stays : (dir : Text) (why : Refusal) (w : Walk) → StaysCourse w.state.worlds.now (unless_visited dir why w)
  unless_stays dir why w = either_stays (is_visited dir w.visits) w.state.worlds.now (goes_on w) (refused why w.state) (still w.state.worlds.now) (still w.state.worlds.now)

  load_stays : (dir : Text) (w : Walk) → StaysCourse w.state.worlds.now (load_dir setting dir w)
  load_stays dir w = then_stays w.state.worlds.now (visit_all setting (way_to dir) w) (λ next. unless_visited dir (no_jamfile dir) next) (all_stay (way_to dir) w) (λ next. unless_stays dir (no_jamfile dir) next)

  pub load_frozen : (dir : Text) (w : Walk) → w.state.worlds.now.frozen ≡ true → FrozenCourse (load_dir setting dir w)
  load_frozen dir w frozen = is_frozen w.state.worlds.now (load_dir setting dir w) (load_stays dir w) frozen

  root_stays : (left : ℕ) → StaysCourse (no_walk left).state.worlds.now (load_root setting (no_walk left))
  root_stays left =
      then_stays (no_walk left).state.worlds.now (visit setting here (no_walk left)) (λ next. unless_visited here no_jamroot next) (visit_stays here (no_walk left)) (λ next. unless_stays here no_jamroot next)

  comes_stays : (words : List Text) (from : World) (c last : Course) → ComesTo setting words c last → StaysCourse from c → StaysCourse from last
  comes_stays words from _ _ (is_refused why s) is = is
  comes_stays words from _ _ (is_whole w none) is = is
  comes_stays words from _ last (leads_on w dir _ due more) is =
      comes_stays words from (load_dir setting dir w) last more (shift_course from w.state.worlds.now (load_dir setting dir w) is (load_stays dir w))

  comes_frozen : (words : List Text) (c last : Course) → ComesTo setting words c last → FrozenCourse c → FrozenCourse last
  comes_frozen words _ _ (is_refused why s) frozen = frozen
  comes_frozen words _ _ (is_whole w none) frozen = frozen
  comes_frozen words _ last (leads_on w dir _ due more) frozen = comes_frozen words (load_dir setting dir w) last more (load_frozen dir w frozen)

  -- ---- the toolset

  text_stays : (path : Text) (r : Reading) (w : Walk) → StaysCourse w.state.worlds.now (run_text setting path r w)
  text_stays path r w =
      read_stays path r w _ (λ tree. after_stays w.state _ (λ s. record w { state = s }) (run_keeps setting RootsStay RootsStay (roots_kept setting natives) path tree w.state) (λ later h. h))

  toolset_stays : {X : Type 0} (tables : Result X DeclaringFault) (command : Option Text) (w : Walk) (course : Course) → IsToolsetRun setting tables command w course → StaysCourse w.state.worlds.now course
  toolset_stays (Err fault) command w course is = subst (StaysCourse w.state.worlds.now) (sym is) (still w.state.worlds.now)
  toolset_stays (Ok tables) command w course (r, reads, is) = subst (StaysCourse w.state.worlds.now) (sym is) (text_stays (codes "gcc") r w)

  equipped_stays : (found : Option (List Call × Option Text)) (w : Walk) (course : Course) → IsEquipped setting found w course → StaysCourse w.state.worlds.now course
  equipped_stays None w course is = subst (StaysCourse w.state.worlds.now) (sym is) (still w.state.worlds.now)
  equipped_stays (Some found) w course is = toolset_stays (tables_of w.visits found.0) found.1 w course is

  walk_stays : (from : World) (whole course : Course) → IsAfterWalk setting whole course → StaysCourse from whole → StaysCourse from course
  walk_stays from (goes_on w) course is before = shift_course from w.state.worlds.now course before (equipped_stays (up_to_toolset w.calls) w course is)
  walk_stays from (refused why s) course is before = subst (StaysCourse from) (sym is) before

  walk_frozen : (whole course : Course) → IsAfterWalk setting whole course → FrozenCourse whole → FrozenCourse course
  walk_frozen (goes_on w) course is frozen = is_frozen w.state.worlds.now course (equipped_stays (up_to_toolset w.calls) w course is) frozen
  walk_frozen (refused why s) course is frozen = subst FrozenCourse (sym is) tt

-- ---- Jamroot

unless_frozen : (b : Bool) (why : Refusal) (w : Walk) → w.state.worlds.now.frozen ≡ true → FrozenCourse (if b then goes_on w else refused why w.state)
unless_frozen true why w frozen = frozen
unless_frozen false why w frozen = tt

ran_frozen : (visit : Visit) (left : ℕ) (o : Outcome Kept (Unit {0})) → FrozenCourse (and_then (after_run o (visited visit (no_walk left))) (λ next. unless_visited here no_jamroot next))
ran_frozen visit left (gives ended s) = unless_frozen (is_visited here (visited visit (no_walk left) s).visits) no_jamroot (visited visit (no_walk left) s) refl
ran_frozen visit left (faults fault s) = tt

file_frozen : (setting : Setting Kept) (left : ℕ) (visit : Visit) (r : Reading) → FrozenCourse (and_then (visit_file setting visit r (no_walk left)) (λ next. unless_visited here no_jamroot next))
file_frozen setting left visit is_missing = tt
file_frozen setting left visit (is_too_big size) = tt
file_frozen setting left visit (has_no_tokens fault) = tt
file_frozen setting left visit (has_no_tree line found) = tt
file_frozen setting left visit (is_file tree) = ran_frozen visit left (run_project setting visit (module_above visit []) tree (no_walk left).state)

-- once Jamroot was loaded, no output root can be added
pub root_frozen : (setting : Setting Kept) (left : ℕ) → FrozenCourse (load_root setting (no_walk left))
root_frozen setting left =
    let found : Text × Reading = first_file (seen (no_walk left).state.worlds.now setting.reading) (project_files here) in
    file_frozen setting left (visit_of here found.0 []) found.1

-- the first output roots are what may be one
first_are : AreRoots first_roots
first_are =
    let first : IsRoot (codes "bin") = record { normal = is_normal_normal (codes "bin"); not_here = refl } in
    let second : IsRoot (codes "stage") = record { normal = is_normal_normal (codes "stage"); not_here = refl } in
    let third : IsRoot (codes "dist") = record { normal = is_normal_normal (codes "dist"); not_here = refl } in
    (first, (second, (third, tt)))

-- ---- a load

abbrev IsSettledWalk : Walk → Type 0
IsSettledWalk w = (w.state.worlds.now.frozen ≡ true) × AreRoots w.state.worlds.now.roots × Contains w.state.worlds.now.roots (codes "bin")

abbrev Settled : Ending → Type 0
Settled (loaded w found) = IsSettledWalk w
Settled (fails why s) = Unit {0}

declared_settled : (r : Result Declared DeclaringFault) (w : Walk) → IsSettledWalk w → Settled (with_declared w r)
declared_settled (Ok found) w h = h
declared_settled (Err fault) w h = tt

-- `bin` is the first output root
first_is_bin : Contains first_roots (codes "bin")
first_is_bin = (zero, omega arith, refl)

then_settled : (setting : Setting Kept) (left : ℕ) (course : Course) → StaysCourse (no_walk left).state.worlds.now course → FrozenCourse course → Settled (then_declare course)
then_settled setting left (goes_on w) stays frozen = declared_settled (declared w.visits w.calls) w (frozen, stays.1 first_are, stays.2 (codes "bin") first_is_bin)
then_settled setting left (refused why s) stays frozen = tt

-- a load that ends well leaves frozen output roots, which are what may be one, and `bin` among them
pub load_settles : (setting : Setting Kept) → setting.natives ≡ jam_meaning → (left : ℕ) (words : List Text) (w : Walk) (found : Declared) → Loads setting left words (loaded w found)
    → IsSettledWalk w
load_settles setting natives left words w found (whole, comes, course, after, is) =
    let stays = walk_stays setting natives (no_walk left).state.worlds.now whole course after
    (comes_stays setting natives words (no_walk left).state.worlds.now (load_root setting (no_walk left)) whole comes (root_stays setting natives left)) in
    let frozen = walk_frozen setting natives whole course after (comes_frozen setting natives words (load_root setting (no_walk left)) whole comes (root_frozen setting left)) in
    subst Settled (sym is) (then_settled setting left course stays frozen)

-- ---- tests

-- the worlds that the tests of a project need have the output roots of those before, where these are frozen
pub equipped_keeps : (tests : List TestCall) (before after : Worlds) → IsEquippedFor tests before after → KeepsRoots before.now after.now
equipped_keeps [] before after is = subst (λ (v : Worlds). KeepsRoots before.now v.now) (sym is) (still before.now)
equipped_keeps (test ∷ more) before after h =
    let (reading, reads, is) = h.runs in
    let stays : StaysCourse before.now (goes_on h.walk) = subst (StaysCourse before.now) (sym is) (text_stays text_setting refl (codes "gcc") reading (walk_in before)) in
    subst (λ (v : Worlds). KeepsRoots before.now v.now) (sym h.left) stays

-- so `bin` is among them if it was
pub bin_stays : (tests : List TestCall) (before after : Worlds) → IsEquippedFor tests before after → Contains before.now.roots (codes "bin") → Contains after.now.roots (codes "bin")
bin_stays tests before after h bin = (equipped_keeps tests before after h).2 (codes "bin") bin
