-- A directory that was visited before, lacks a file, or has one that is refused or runs: what each comes to.
use Rattle.std.proofs.Common.{◌≡◌, ◌≤◌, ℕ, Bool, true, false, List, [], ◌∷◌, ◌++◌, length, take, drop, Option, Some, None, Result, Ok, Err, is_some, refl, sym, ap, ◌∙◌, subst, arith}
use Rattle.std.specs.Prelude.{if◌then◌else◌, map as each}
use Rattle.std.specs.List.{flat_map}
use Rattle.std.specs.Option.{IfSome}
use Rattle.std.proofs.lemmas.Option.{same_Some}
use Rattle.std.proofs.lemmas.List.{take-append-le, length-append}
use Rattle.b2_host.specs.Disks.{Folder, Disk}
use Rattle.b2_host.specs.Outside.{Outside}
use Rattle.b2_declared.specs.declared.visit.Visit.{Visit}
use Rattle.jam_grammar.specs.Trees.{StmtTrees}
use Rattle.jam_journal.specs.Tables.{Text, Table}
use Rattle.jam_journal.specs.Scopes.{enter}
use Rattle.jam_lexer.specs.declared.fault.LexFault.{LexFault}
use Rattle.jam_lexer.specs.declared.fault.LexFault.TheVariants as lexing
use Rattle.jam_parser.specs.declared.fault.SyntaxFault.TheVariants as parsing
use Rattle.jam_meaning.specs.Laws.{SameFrames, SameParents}
use Rattle.jam_meaning.specs.Refused.{Refuses, TookTurn}
use Rattle.jam_meaning.specs.Settings.{Setting, Reading, is_missing, is_too_big, has_no_tokens, has_no_tree, is_file}
use Rattle.jam_meaning.specs.States.{State, with_world, with_scopes}
use Rattle.jam_meaning.specs.Outcomes.{Outcome, gives, faults, close_frame}
use Rattle.jam_meaning.specs.Eval.{run}
use Rattle.jam_values.specs.declared.files.FileReading.{FileReading}
use Rattle.jam_values.specs.declared.files.FileReading.TheVariants as readings
use Rattle.jam_values.specs.FileReadings.{reading_of}
use Rattle.jam_natives.specs.Keeping.{Kept}
use Rattle.jam_natives.specs.Rows.{jam_meaning}
use Rattle.jam_natives.specs.Seeing.{kept_of}
use Rattle.jam_effects.specs.declared.fault.EvalFault.{EvalFault}
use Rattle.jam_effects.specs.declared.fault.EvalFault.TheVariants as evaluating
use Rattle.jam_effects.specs.Causes.{refused_by as pattern_refused_by, HoldsNoMemory}
use Rattle.jam_effects.specs.Does.{Faults as EvalFaults, CountsFault as EvalCountsFault}
use Rattle.jam_effects.specs.Machines.{Machine, folder_of, IsSettingOf}
use Rattle.b2_project_walk.specs.declared.fault.LoadFault.{LoadFault}
use Rattle.b2_project_walk.specs.declared.fault.LoadFault.TheVariants as load_faults
use Rattle.b2_project_walk.specs.Directories.{module_above, place_of, is_visited, first_new, visit_of, project_files, seen, first_file}
use Rattle.b2_project_walk.specs.declared.project_file.ProjectFile.{ProjectFile}
use Rattle.b2_project_walk.specs.Finding.{AreReadings, IsFileFound, IsFileOf, Looked, CountsFault, LooksFor}
use Rattle.b2_project_walk.specs.Faults.{refused_by, of_eval, of_lex, of_syntax, IsOfWalk}
use Rattle.b2_project_walk.specs.declared.walk.WalkState.{WalkState}
use Rattle.b2_project_walk.specs.Walking.{walk_of, IsSettingFor, StopsBy, AreVisited, one_more}
use Rattle.b2_project_walk.specs.Laws.{FilesKeepParents, AddsLines}
use Rattle.b2_project_walk.specs.Running.{MayBePut, Runs}
use Rattle.b2_project_walk.specs.Walks.{Walk, lex, too_big, syntax_at, Course, goes_on, state_in, prepared, put_below, new_calls, run_project, with_project, visited, after_run, visit_file, visit_found, visit}
use Rattle.b2_project_walk.specs.RecordedCalls.{call_of, names_of}
use Rattle.b2_project_walk.specs.WalkParts.{Stand, ArePassed, AreInLine, ComeToSame, IsNext, What, runs_tree, found_as, visits_dir, IsAdded, IsGrown, Does}
use Rattle.b2_project_walk.proofs.LinesAreOnlyAdded.{only_lines, ran_adds, visit_adds}
use Rattle.b2_project_walk.proofs.FirstFileThereIsFound.{looked_same, looked_then, counted}
use Rattle.b2_project_walk.proofs.PartsMakeTheLoad.{frames_same, same_by, agrees_from, does_from, setting_later, does_stay}
use Rattle.b2_project_walk.proofs.ModulesStayInLine.{may_be_put, in_line_more}
use Rattle.b2_project_walk.proofs.VisitsGrowByOne.{none_more, parent_before, no_place}
use Rattle.jam_meaning.specs.Kept.{Ends}

-- natives, a world and turns of a stand, as evaluation has them
abbrev pub machine_at : Stand → Machine Kept
machine_at a = record {
  worlds = a.walk.state.worlds;
  left = a.walk.state.left;
  budget = a.budget;
  kept = a.walk.state.kept;
  meaning = Some jam_meaning;
  outside = a.outside;
}

pub setting_of : (setting : Setting Kept) (a : Stand) → IsSettingFor setting a.budget a.outside → IsSettingOf setting (machine_at a)
setting_of setting a right = record { budget = right.budget; natives = ap Some (sym right.natives); folder = right.folder; right = right.right }

-- ---- faults of evaluation

pub refused_same : (e : EvalFault) → refused_by (of_eval e) ≡ pattern_refused_by e
refused_same evaluating.Host = refl
refused_same evaluating.OutOfMemory = refl
refused_same (evaluating.At path line why) = refl

pub counts_eval : (e : EvalFault) (a b : Outside) → EvalCountsFault e a b → CountsFault (of_eval e) a b
counts_eval evaluating.Host a b h = h
counts_eval evaluating.OutOfMemory a b h = tt
counts_eval (evaluating.At path line why) a b h = h

pub whole_eval : (e : EvalFault) → HoldsNoMemory e → IsOfWalk (of_eval e)
whole_eval evaluating.Host h = tt
whole_eval evaluating.OutOfMemory h = tt
whole_eval (evaluating.At path line why) h = (_, refl, h)

pub agrees_eval : (setting : Setting Kept) → setting.natives ≡ jam_meaning → (e : EvalFault) (o : Outcome Kept (Unit {0})) (next : State Kept → Walk) (s : State Kept) → ((later : State Kept) → (next later).state.kept ≡ later.kept)
    → EvalFaults setting e o s → StopsBy (of_eval e) (λ course. after_run o next ≡ course) s
agrees_eval setting natives evaluating.Host o next s same h =
    λ course is. subst (λ c. AddsLines s (state_in c)) is (ran_adds s o next same (h (λ kept. kept.echoes) (only_lines setting natives)))
agrees_eval setting natives evaluating.OutOfMemory o next s same h = tt
agrees_eval setting natives (evaluating.At path line why) o next s same h = ap (λ o₁. after_run o₁ next) h

-- ---- a project whose file runs

abbrev above_in : Visit → Stand → Option Text
above_in visit a = module_above visit a.walk.visits

abbrev pub RunsAt : Visit → StmtTrees → Stand → Stand → Result (Unit {0}) EvalFault → Type 0
RunsAt visit tree a b result =
    Runs (λ setting s. run_project setting visit (above_in visit a) tree s) (MayBePut visit.«module» (above_in visit a) a.walk.state.worlds.now) (machine_at a) (machine_at b) result

not_visited : (found : Option ℕ) → found ≡ None → is_some found ≡ false
not_visited found h = ap is_some h

may_be : (visit : Visit) (a : Stand) → IsNext visit a.walk.visits → AreInLine a.walk → MayBePut visit.«module» (above_in visit a) a.walk.state.worlds.now
may_be visit a next line =
    subst (λ owner. MayBePut owner (above_in visit a) a.walk.state.worlds.now) (sym next.named) (may_be_put a.walk visit.dir visit.parent line (not_visited (place_of visit.dir a.walk.visits) next.new))

pub tree_stopped : (visit : Visit) (tree : StmtTrees) (a b : Stand) (e : EvalFault) → IsNext visit a.walk.visits
    → RunsAt visit tree a b (Err e) → Does (runs_tree visit tree) a b (Err (of_eval e))
tree_stopped visit tree a b e next runs = record {
  told = λ setting right refuses line.
      agrees_eval setting right.natives e (run_project setting visit (above_in visit a) tree a.walk.state) (visited visit a.walk) b.walk.state (λ later. refl)
      (runs.told (may_be visit a next line) setting (setting_of setting a right) (subst (Refuses setting.refused a.walk.state.left b.walk.state.left) (refused_same e) refuses));
  turns = runs.turns;
  budget = runs.budget;
  frames = runs.frames;
  looked = runs.looked;
  counts = counts_eval e a.outside b.outside runs.counts;
  took = subst (λ text. TookTurn text a.walk.state.left b.walk.state.left) (sym (refused_same e)) runs.took;
  whole = whole_eval e runs.whole;
  grown = tt;
}

abbrev parents_of : Outcome Kept (Unit {0}) → Table Text
parents_of (gives u later) = later.worlds.now.parents
parents_of (faults fault later) = later.worlds.now.parents

-- the parents that an evaluation leaves, whose frame is closed
closed_parents : (s later : State Kept) (o : Outcome Kept (Unit {0})) → Ends SameParents s o → close_frame o ≡ gives tt later → later.worlds.now.parents ≡ s.worlds.now.parents
closed_parents s later (gives u l) h e = ap parents_of (sym e) ∙ h
closed_parents s later (faults fault l) h e = ap parents_of (sym e) ∙ h

abbrev begun : Visit → Option Text → State Kept → State Kept
begun visit above s = with_scopes (enter visit.«module») (with_world (prepared visit above) s)

run_parents : FilesKeepParents → (setting : Setting Kept) (visit : Visit) (above : Option Text) (tree : StmtTrees) (s later : State Kept) → setting.natives ≡ jam_meaning
    → run_project setting visit above tree s ≡ gives tt later → later.worlds.now.parents ≡ (put_below visit.«module» above s.worlds.now).parents
run_parents law setting visit above tree s later natives e =
    closed_parents (begun visit above s) later (run setting visit.file tree (begun visit above s)) (law setting natives visit.file tree (begun visit above s)) e

-- the directories that the calls of a further project name
abbrev more_names : Visit → Walk → State Kept → List Text
more_names visit w s = flat_map (λ call. names_of visit.dir call.declaration) (new_calls (length w.visits) w.state.kept s.kept)

-- what is known of the first directories stays so
passed_more : (visit : Visit) (w next : Walk) (s : State Kept) (before after : ℕ) → next ≡ visited visit w s → after ≡ before → ArePassed w.visits before w.named → ArePassed next.visits after next.named
passed_more visit w next s before after walk passed h =
    subst (λ (x : Walk). ArePassed x.visits after x.named) (sym walk) (subst (λ n. ArePassed (w.visits ++ visit ∷ []) n (w.named ++ more_names visit w s)) (sym passed) (record {
      visited = ap (first_new (w.visits ++ visit ∷ [])) (take-append-le before w.named (more_names visit w s) h.short) ∙ none_more w.visits visit (take before w.named) h.visited;
      short = (let e = length-append w.named (more_names visit w s) in let k = h.short in omega (arith, e, k));
    }))

-- the project is one more, with its calls
visited_with : (visit : Visit) (w : Walk) (s : State Kept) → IsNext visit w.visits → AreVisited w.visits w.calls w.named
    → AreVisited (w.visits ++ visit ∷ []) (w.calls ++ new_calls (length w.visits) w.state.kept s.kept) (w.named ++ more_names visit w s)
visited_with visit w s next h =
    subst (λ (v : Visit). AreVisited (w.visits ++ v ∷ []) (w.calls ++ new_calls (length w.visits) w.state.kept s.kept) (w.named ++ more_names visit w s)) (sym next.is)
    (one_more w.visits w.calls w.named visit.dir visit.file (drop (length w.state.kept.decls) s.kept.decls) h (not_visited (place_of visit.dir w.visits) next.new))

-- the project is added after its file has ended
pub tree_ended : FilesKeepParents → (visit : Visit) (tree : StmtTrees) (a b c : Stand) → IsNext visit a.walk.visits
    → RunsAt visit tree a b (Ok tt) → c.walk ≡ visited visit a.walk b.walk.state → c.passed ≡ a.passed → c.budget ≡ b.budget → c.outside ≡ b.outside
    → Does (runs_tree visit tree) a c (Ok tt)
tree_ended law visit tree a b c next runs walk passed budget outside = record {
  told = λ setting right refuses line.
      let ran : run_project setting visit (above_in visit a) tree a.walk.state ≡ gives tt b.walk.state =
      runs.told (may_be visit a next line) setting (setting_of setting a right) (subst (λ left. Refuses setting.refused a.walk.state.left left None) (ap (λ w. w.state.left) walk) refuses) in (
        ap (λ o. after_run o (visited visit a.walk)) ran ∙ ap goes_on (sym walk),
        subst AreInLine (sym walk) (in_line_more a.walk visit (visited visit a.walk b.walk.state) line next.named refl
            (run_parents law setting visit (above_in visit a) tree a.walk.state b.walk.state right.natives ran)),
      );
  turns = (let e = ap (λ w. w.state.left) walk in let t = runs.turns in omega (arith, e, t));
  budget = budget ∙ runs.budget;
  frames = subst (λ w. SameFrames a.walk.state w.state) (sym walk) runs.frames;
  looked = subst (Looked a.outside) (sym outside) runs.looked;
  counts = ap (λ o. o.faults) outside ∙ runs.counts;
  took = tt;
  whole = tt;
  grown = record {
    passed = λ h. passed_more visit a.walk c.walk b.walk.state a.passed c.passed walk passed h;
    visited = λ h. subst (λ w. AreVisited w.visits w.calls w.named) (sym walk) (visited_with visit a.walk b.walk.state next h);
    more = visit ∷ [];
    visits = ap (λ w. w.visits) walk;
  };
}

-- the walk after a project was added to what its file left
pub added : (old ran new : WalkState) (left most : ℕ) (visit : Visit) (before : ℕ) → ran ≡ record old { world = ran.world; natives = ran.natives } → before ≡ length (kept_of old.natives).decls
    → IsAdded visit before ran new → walk_of new left ≡ visited visit (walk_of old most) (walk_of ran left).state
added old ran new left most visit before rest count h =
    h left
    ∙ ap (λ n. with_project visit (each (call_of (length ran.visits)) (drop n (kept_of ran.natives).decls)) (walk_of ran left) (walk_of ran left).state) count
    ∙ ap (λ (w : WalkState). with_project visit (each (call_of (length w.visits)) (drop (length (kept_of old.natives).decls) (kept_of ran.natives).decls)) (walk_of w left) (walk_of ran left).state) rest

-- ---- out of memory, and what comes after a look at the files

pub no_memory : (what : What) (a b : Stand) → b.walk.state.left ≤ a.walk.state.left → b.budget ≡ a.budget → SameFrames a.walk.state b.walk.state → Looked a.outside b.outside → Does what a b (Err load_faults.OutOfMemory)
no_memory what a b turns budget frames looked = record {
  told = λ setting right refuses line. tt;
  turns = turns;
  budget = budget;
  frames = frames;
  looked = looked;
  counts = tt;
  took = tt;
  whole = tt;
  grown = tt;
}

-- the walk stands as before, while the files were looked at
abbrev pub looked_at : Stand → Outside → Stand
looked_at a outside = record a { outside = outside }

grown_from : (result : Result (Unit {0}) LoadFault) (a : Stand) (outside : Outside) (c : Stand) → IsGrown result (looked_at a outside) c → IsGrown result a c
grown_from (Ok u) a outside c h = record { passed = h.passed; visited = h.visited; more = h.more; visits = h.visits }
grown_from (Err e) a outside c h = tt

pub after_look : (what other : What) (a : Stand) (outside : Outside) (c : Stand) (result : Result (Unit {0}) LoadFault) → Looked a.outside outside → outside.faults ≡ a.outside.faults
    → ((setting : Setting Kept) → IsSettingFor setting a.budget a.outside → ComeToSame (other setting a.walk) (what setting a.walk))
    → Does other (looked_at a outside) c result → Does what a c result
after_look what other a outside c result looked same f h = record {
  told = λ setting right refuses line. agrees_from result (what setting a.walk) (other setting a.walk) c.walk (f setting right)
      (h.told setting (setting_later setting a (looked_at a outside) refl looked right) refuses line);
  turns = h.turns;
  budget = h.budget;
  frames = h.frames;
  looked = looked_then a.outside outside c.outside looked h.looked;
  counts = counted result a.outside outside c.outside same h.counts;
  took = h.took;
  whole = h.whole;
  grown = grown_from result a outside c h.grown;
}

-- the search was refused by the outside
pub look_refused : {A : Type 0} (dir : Text) (a : Stand) (outside : Outside) (e : LoadFault) → LooksFor {A = A} (Err e) a.outside outside → Does (visits_dir dir) a (looked_at a outside) (Err e)
look_refused dir a outside load_faults.Host h =
    does_stay (visits_dir dir) a (looked_at a outside) (Err load_faults.Host) (record { walk = refl; passed = refl; budget = refl; looked = h.looked; counts = h.counts; whole = tt; none = refl })
    (λ setting right line course is. subst (λ c. AddsLines a.walk.state (state_in c)) is (visit_adds setting right.natives dir a.walk))
look_refused dir a outside load_faults.OutOfMemory h =
    does_stay (visits_dir dir) a (looked_at a outside) (Err load_faults.OutOfMemory) (record { walk = refl; passed = refl; budget = refl; looked = h.looked; counts = h.counts; whole = tt; none = refl }) (λ setting right line. tt)
look_refused dir a outside load_faults.NoJamroot h = absurd h.fault
look_refused dir a outside (load_faults.NoJamfile other) h = absurd h.fault
look_refused dir a outside (load_faults.TooBig path size) h = absurd h.fault
look_refused dir a outside (load_faults.Lex path fault) h = absurd h.fault
look_refused dir a outside (load_faults.Syntax path fault) h = absurd h.fault
look_refused dir a outside (load_faults.Eval fault) h = absurd h.fault
look_refused dir a outside (load_faults.Declaration path rule line) h = absurd h.fault
look_refused dir a outside (load_faults.Feature path line fault) h = absurd h.fault

-- ---- a project file that does not run

pub file_missing : (dir path : Text) (a : Stand) → Does (found_as dir (path, is_missing)) a a (Ok tt)
file_missing dir path a = does_stay (found_as dir (path, is_missing)) a a (Ok tt) (record { walk = refl; passed = refl; budget = refl; looked = looked_same a.outside; counts = refl; whole = tt; none = refl }) (λ setting right line. (refl, line))

refusal_stays : (what : What) (a : Stand) (fault : LoadFault) → CountsFault fault a.outside a.outside → IsOfWalk fault → refused_by fault ≡ None
    → ((setting : Setting Kept) → StopsBy fault (what setting a.walk) a.walk.state) → Does what a a (Err fault)
refusal_stays what a fault counts whole none told = does_stay what a a (Err fault) (record { walk = refl; passed = refl; budget = refl; looked = looked_same a.outside; counts = counts; whole = whole; none = none }) (λ setting right line. told setting)

pub file_too_big : (dir path : Text) (size : ℕ) (a : Stand) → Does (found_as dir (path, is_too_big size)) a a (Err (load_faults.TooBig path size))
file_too_big dir path size a = refusal_stays (found_as dir (path, is_too_big size)) a (load_faults.TooBig path size) refl (too_big path size, refl) refl (λ setting. refl)

pub file_has_no_tree : (dir path : Text) (line : ℕ) (found : Text) (a : Stand) → Does (found_as dir (path, has_no_tree line found)) a a (Err (load_faults.Syntax path (parsing.At line found)))
file_has_no_tree dir path line found a =
    refusal_stays (found_as dir (path, has_no_tree line found)) a (load_faults.Syntax path (parsing.At line found)) refl (syntax_at path line found, refl) refl (λ setting. refl)

pub no_tree_there : (dir path : Text) (reading : FileReading) (line : ℕ) (found : Text) (e : LoadFault) (a : Stand) → reading ≡ readings.NoTree line found → e ≡ of_syntax path line found
    → Does (found_as dir (path, reading_of reading)) a a (Err e)
no_tree_there dir path reading line found e a is fault =
    subst (λ x. Does (found_as dir (path, reading_of reading)) a a (Err x)) (sym fault)
    (subst (λ r. Does (found_as dir (path, reading_of r)) a a (Err (of_syntax path line found))) (sym is) (file_has_no_tree dir path line found a))

pub file_has_no_tokens : (dir path : Text) (fault : LexFault) (a : Stand) → Does (found_as dir (path, has_no_tokens fault)) a a (Err (of_lex path fault))
file_has_no_tokens dir path (lexing.NotUtf8 at) a =
    refusal_stays (found_as dir (path, has_no_tokens (lexing.NotUtf8 at))) a (load_faults.Lex path (lexing.NotUtf8 at)) refl (lex path (lexing.NotUtf8 at), refl) refl (λ setting. refl)
file_has_no_tokens dir path (lexing.OpenQuote line) a =
    refusal_stays (found_as dir (path, has_no_tokens (lexing.OpenQuote line))) a (load_faults.Lex path (lexing.OpenQuote line)) refl (lex path (lexing.OpenQuote line), refl) refl (λ setting. refl)
file_has_no_tokens dir path (lexing.OpenActions line) a =
    refusal_stays (found_as dir (path, has_no_tokens (lexing.OpenActions line))) a (load_faults.Lex path (lexing.OpenActions line)) refl (lex path (lexing.OpenActions line), refl) refl (λ setting. refl)
file_has_no_tokens dir path lexing.OutOfMemory a = no_memory (found_as dir (path, has_no_tokens lexing.OutOfMemory)) a a (omega arith) refl (frames_same a.walk.state) (looked_same a.outside)

-- ---- a project file that runs

pub is_next : (dir file : Text) (visits : List Visit) → is_visited dir visits ≡ false → IsNext (visit_of dir file visits) visits
is_next dir file visits h = record { is = refl; new = no_place (place_of dir visits) h; named = refl; parent = parent_before dir visits }

pub file_runs : (dir path : Text) (tree : StmtTrees) (a b : Stand) (visit : Visit) (result : Result (Unit {0}) LoadFault) → visit ≡ visit_of dir path a.walk.visits
    → Does (runs_tree visit tree) a b result → Does (found_as dir (path, is_file tree)) a b result
file_runs dir path tree a b visit result is h =
    does_from (found_as dir (path, is_file tree)) (runs_tree (visit_of dir path a.walk.visits) tree) a b result (λ setting right line. (λ course e. e, λ course e. e))
    (subst (λ v. Does (runs_tree v tree) a b result) is h)

-- ---- directories

choose : (b : Bool) (first second : Course) (course : Course) → b ≡ true → first ≡ course → (if b then first else second) ≡ course
choose true first second course h e = e
choose false first second course h e = cc

choose_other : (b : Bool) (first second : Course) (course : Course) → b ≡ false → second ≡ course → (if b then first else second) ≡ course
choose_other true first second course h e = cc
choose_other false first second course h e = e

pub was_visited : (dir : Text) (a : Stand) → is_visited dir a.walk.visits ≡ true → Does (visits_dir dir) a a (Ok tt)
was_visited dir a h = does_stay (visits_dir dir) a a (Ok tt) (record { walk = refl; passed = refl; budget = refl; looked = looked_same a.outside; counts = refl; whole = tt; none = refl })
    (λ setting right line. (choose (is_visited dir a.walk.visits) (goes_on a.walk) _ (goes_on a.walk) h refl, line))

-- ---- a directory, looked for

-- where there is no file, nothing is visited
none_found : (setting : Setting Kept) (dir : Text) (found : Text × Reading) (w : Walk) → found.1 ≡ is_missing → visit_found setting dir found w ≡ goes_on w
none_found setting dir found w h = ap (λ reading. visit_file setting (visit_of dir found.0 w.visits) reading w) h

abbrev found_in : Setting Kept → Text → Walk → Text × Reading
found_in setting dir w = first_file (seen w.state.worlds.now setting.reading) (project_files dir)

pub visit_by : (setting : Setting Kept) (dir : Text) (w : Walk) (course : Course) → is_visited dir w.visits ≡ false → visit_found setting dir (found_in setting dir w) w ≡ course → visit setting dir w ≡ course
visit_by setting dir w course new h = choose_other (is_visited dir w.visits) (goes_on w) (visit_found setting dir (found_in setting dir w) w) course new h

-- what was found of a directory, where the files are visible
abbrev pub IsFoundAt : Text → Stand → Option ProjectFile → Type 0
IsFoundAt dir a found = IsFileOf a.outside.disk a.walk.state.worlds.now dir found

found_for : (disk : Option Disk) (folder : Folder) (P : Disk → Type 0) → folder_of disk ≡ Some folder → IfSome disk P → (d : Disk) × (d.now ≡ folder) × P d
found_for None folder P e h = cc
found_for (Some disk) folder P e h = (disk, same_Some disk.now folder e, h)

is_found : (dir : Text) (a : Stand) (found : Option ProjectFile) (setting : Setting Kept) → IsSettingFor setting a.budget a.outside → IsFoundAt dir a found → IsFileFound found (found_in setting dir a.walk)
is_found dir a found setting right h =
    let (disk, e, told) = found_for a.outside.disk setting.sight.folder _ right.folder h in
    told setting.reading (subst (λ folder. AreReadings folder setting.reading) (sym e) right.right.reads)

pub none_there : (dir : Text) (a : Stand) (outside : Outside) → is_visited dir a.walk.visits ≡ false → Looked a.outside outside → outside.faults ≡ a.outside.faults → IsFoundAt dir a None
    → Does (visits_dir dir) a (looked_at a outside) (Ok tt)
none_there dir a outside new looked same found =
    does_stay (visits_dir dir) a (looked_at a outside) (Ok tt) (record { walk = refl; passed = refl; budget = refl; looked = looked; counts = same; whole = tt; none = refl })
    (λ setting right line. (visit_by setting dir a.walk (goes_on a.walk) new (none_found setting dir (found_in setting dir a.walk) a.walk (is_found dir a None setting right found)), line))

pub file_there : (dir : Text) (a : Stand) (outside : Outside) (c : Stand) (file : ProjectFile) (result : Result (Unit {0}) LoadFault) → is_visited dir a.walk.visits ≡ false → Looked a.outside outside → outside.faults ≡ a.outside.faults
    → IsFoundAt dir a (Some file) → Does (found_as dir (file.path, reading_of file.reading)) (looked_at a outside) c result → Does (visits_dir dir) a c result
file_there dir a outside c file result new looked same found h =
    after_look (visits_dir dir) (found_as dir (file.path, reading_of file.reading)) a outside c result looked same
    (λ setting right.
    same_by (visit setting dir a.walk) (visit_found setting dir (file.path, reading_of file.reading) a.walk)
    (visit_by setting dir a.walk (visit_found setting dir (file.path, reading_of file.reading) a.walk) new (ap (λ f. visit_found setting dir f a.walk) (is_found dir a (Some file) setting right found)))) h
