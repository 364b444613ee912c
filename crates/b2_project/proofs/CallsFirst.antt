-- The calls of a load are those that were recorded first.
use Rattle.std.proofs.Common.{◌≡◌, ℕ, List, [], codes, Option, Some, None, Result, Ok, Err, sym, subst}
use Rattle.std.proofs.lemmas.List.{append-nil}
use Rattle.b2_declared.specs.declared.fault.DeclaringFault.{DeclaringFault}
use Rattle.b2_declared.specs.declared.visit.Call.{Call}
use Rattle.b2_declared.specs.declared.whole.Declared.{Declared}
use Rattle.b2_declared.specs.Carrying.{tables_of}
use Rattle.b2_declared.specs.Declaring.{declared}
use Rattle.jam_journal.specs.Tables.{Text}
use Rattle.jam_meaning.specs.Eval.{run}
use Rattle.jam_meaning.specs.Kept.{Ends}
use Rattle.jam_meaning.specs.Outcomes.{Outcome, gives, faults}
use Rattle.jam_meaning.specs.Settings.{Setting, Reading, is_missing, is_too_big, has_no_tokens, has_no_tree, is_file}
use Rattle.jam_natives.specs.declared.decl.Decl.{Decl}
use Rattle.jam_natives.specs.Keeping.{Kept}
use Rattle.jam_natives.specs.Rows.{jam_meaning}
use Rattle.b2_project_walk.specs.Laws.{KeepsRecord, FilesKeepRecord, AreRecorded, CallsAreRecorded}
use Rattle.b2_project_walk.specs.Walks.{Walk, Course, goes_on, refused, after_run, run_text, no_walk, load_root, ComesTo}
use Rattle.b2_project.specs.Laws.{ComeFirst}
use Rattle.b2_project.specs.Loads.{Ending, loaded, fails, with_declared, then_declare, up_to_toolset, IsToolsetRun, IsEquipped, IsAfterWalk, Loads}

-- nothing was recorded after them
all_of_them : (decls : List Decl) (calls : List Call) → AreRecorded decls calls → ComeFirst decls calls
all_of_them decls calls h = (decls, [], sym (append-nil decls), h)

abbrev FirstIn : Course → Type 0
FirstIn (goes_on w) = ComeFirst w.state.kept.decls w.calls
FirstIn (refused why s) = Unit {0}

ran_after : (u : Walk) (o : Outcome Kept (Unit {0})) → AreRecorded u.state.kept.decls u.calls → Ends KeepsRecord u.state o → FirstIn (after_run o (λ s. record u { state = s }))
ran_after u (gives ended later) h (more, decls, echoes) = (u.state.kept.decls, more.decls, decls, h)
ran_after u (faults fault later) h kept = tt

abbrev FirstOf : Ending → Type 0
FirstOf (loaded w found) = ComeFirst w.state.kept.decls w.calls
FirstOf (fails why s) = Unit {0}

declared_first : (v : Walk) (outcome : Result Declared DeclaringFault) → ComeFirst v.state.kept.decls v.calls → (w : Walk) (found : Declared) → loaded w found ≡ with_declared v outcome
    → ComeFirst w.state.kept.decls w.calls
declared_first v (Ok made) h w found is = subst FirstOf (sym is) h
declared_first v (Err fault) h w found is = cc

module _ (keeps : FilesKeepRecord) (recorded : CallsAreRecorded) (setting : Setting Kept) (natives : setting.natives ≡ jam_meaning) where
  text_after : (path : Text) (reading : Reading) (u : Walk) → AreRecorded u.state.kept.decls u.calls → FirstIn (run_text setting path reading u)
  text_after path is_missing u h = all_of_them u.state.kept.decls u.calls h
  text_after path (is_too_big size) u h = tt
  text_after path (has_no_tokens fault) u h = tt
  text_after path (has_no_tree line found) u h = tt
  text_after path (is_file tree) u h = ran_after u (run setting path tree u.state) h (keeps setting natives path tree u.state)

  toolset_after : {X : Type 0} (tables : Result X DeclaringFault) (command : Option Text) (u : Walk) (course : Course) → AreRecorded u.state.kept.decls u.calls
      → IsToolsetRun setting tables command u course → FirstIn course
  toolset_after (Err fault) command u course h is = subst FirstIn (sym is) tt
  toolset_after (Ok tables) command u course h (reading, reads, is) = subst FirstIn (sym is) (text_after (codes "gcc") reading u h)

  equipped_after : (found : Option (List Call × Option Text)) (u : Walk) (course : Course) → AreRecorded u.state.kept.decls u.calls → IsEquipped setting found u course → FirstIn course
  equipped_after None u course h is = subst FirstIn (sym is) (all_of_them u.state.kept.decls u.calls h)
  equipped_after (Some found) u course h runs = toolset_after (tables_of u.visits found.0) found.1 u course h runs

  walk_after : (left : ℕ) (words : List Text) (whole course : Course) → ComesTo setting words (load_root setting (no_walk left)) whole → IsAfterWalk setting whole course → FirstIn course
  walk_after left words (goes_on u) course walk after = equipped_after (up_to_toolset u.calls) u course (recorded setting natives left words u walk) after
  walk_after left words (refused why s) course walk is = subst FirstIn (sym is) tt

  course_first : (course : Course) → FirstIn course → (w : Walk) (found : Declared) → loaded w found ≡ then_declare course → ComeFirst w.state.kept.decls w.calls
  course_first (goes_on v) h w found is = declared_first v (declared v.visits v.calls) h w found is
  course_first (refused why s) h w found is = cc

  pub calls_first : (left : ℕ) (words : List Text) (w : Walk) (found : Declared) → Loads setting left words (loaded w found) → ComeFirst w.state.kept.decls w.calls
  calls_first left words w found (whole, walk, course, after, is) = course_first course (walk_after left words whole course walk after) w found is
