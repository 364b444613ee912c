-- The walk of a drill visits one project, and no other directory is named.
use Rattle.std.proofs.Common.{◌≡◌, ℕ, zero, suc, ◌+◌, ◌<◌, ◌≤◌, ◌/◌, List, [], ◌∷◌, ◌++◌, length, map, codes, None, refl, sym, ap, ap₂, subst, ◌∙◌, arith}
use Rattle.std.specs.List.{AllByRecursion, flat_map}
use Rattle.std.specs.Option.{option_and_then}
use Rattle.b2_base.specs.Segments.{here}
use Rattle.b2_declaring_calls.specs.Directories.{directory_before, directory_of, directories}
use Rattle.b2_drill.specs.Drills.{source_name, target_name}
use Rattle.b2_drill_load.specs.Evaluated.{decl, decls}
use Rattle.b2_drill_load.proofs.FileRuns.{drill_runs}
use Rattle.b2_drill_text.specs.Trees.{source_list, drill_tree}
use Rattle.b2_drill_project.specs.Project.{drill_call, drill_calls, drill_visit, drill_project}
use Rattle.b2_drill_project.specs.Loaded.{drill_walk}
use Rattle.b2_drill_project.proofs.NamesAreGood.{IsNoSlash, not_cut, target_has_no_slash, source_has_no_slash}
use Rattle.b2_drill_project.proofs.CallsDeclareTargets.{each_call, declares, drill_declares}
use Rattle.b2_declared.specs.declared.visit.Call.{Call}
use Rattle.b2_project.specs.Loads.{loaded, with_declared, toolset_of, ends_or_goes_on, up_to_toolset, IsEquipped, Loads}
use Rattle.b2_project_walk.specs.RecordedCalls.{call_of, names_of}
use Rattle.b2_project_walk.specs.Directories.{first_file, seen}
use Rattle.b2_project_walk.specs.Directories.{or_next}
use Rattle.b2_project_walk.specs.Walks.{Walk, goes_on, no_walk, and_then, after_run, unless_visited, no_jamroot, visited, visit_found, load_root, ComesTo, is_whole}
use Rattle.jam_meaning.specs.Settings.{is_file, Setting}
use Rattle.jam_natives.specs.Keeping.{Kept}
use Rattle.jam_natives.specs.Rows.{jam_meaning}
use Rattle.jam_scope.specs.Changes.{first_world}

-- ---- the calls, as they were recorded

map_append : {A B : Type 0} (f : A → B) (xs ys : List A) → map f (xs ++ ys) ≡ map f xs ++ map f ys
map_append f [] ys = refl
map_append f (x ∷ xs) ys = ap (λ l. f x ∷ l) (map_append f xs ys)

read_so : (i line : ℕ) → call_of 0 (decl i line) ≡ drill_call i line
read_so i line = ap (λ found. record (drill_call i line) { declaration = found }) (declares i)

calls_are : (lines : List ℕ) → map (call_of 0) (decls lines) ≡ drill_calls lines
calls_are [] = refl
calls_are (line ∷ lines) =
    map_append (call_of 0) (decls lines) (decl (length lines) line ∷ []) ∙ ap₂ (λ before last. before ++ last ∷ []) (calls_are lines) (read_so (length lines) line)

-- ---- they name no directory

no_directory : (text : List ℕ) → AllByRecursion (λ byte. IsNoSlash byte) text → directory_of here text ≡ None
no_directory text h = ap (option_and_then (λ parts. directory_before here parts.0)) (not_cut text h)

sources_name_none : (i : ℕ) → i < 2000 → directories here (source_list i) ≡ []
sources_name_none zero small = rw (no_directory (source_name 0) (source_has_no_slash 0 (omega arith))) refl
sources_name_none (suc i) small =
    rw (no_directory (source_name (suc i)) (source_has_no_slash (suc i) (omega (arith, small))), no_directory (target_name (suc i / 2)) (target_has_no_slash (suc i / 2) (omega (arith, small)))) refl

call_names_none : (i line : ℕ) → i < 2000 → names_of here (drill_call i line).declaration ≡ []
call_names_none i line small = ap (λ dirs. dirs ++ []) (sources_name_none i small)

none_named : (calls : List Call) → AllByRecursion (λ (c : Call). names_of here c.declaration ≡ []) calls → flat_map (λ (c : Call). names_of here c.declaration) calls ≡ []
none_named [] h = refl
none_named (c ∷ calls) h = ap₂ (λ dirs more. dirs ++ more) h.0 (none_named calls h.1)

-- ---- they bring no toolset in

no_toolset : (calls : List Call) → AllByRecursion (λ (c : Call). toolset_of c.declaration ≡ None) calls → up_to_toolset calls ≡ None
no_toolset [] h = refl
no_toolset (c ∷ calls) h = ap₂ (ends_or_goes_on c) h.0 (no_toolset calls h.1)

-- ---- the walk

abbrev walk_with : List Call → List (List ℕ) → List ℕ → ℕ → Walk
walk_with calls named lines left = record (drill_walk lines left) { calls = calls; named = named }

walk_is : (lines : List ℕ) (left : ℕ) → length lines ≤ 2000
    → walk_with (map (call_of 0) (decls lines)) (flat_map (λ (c : Call). names_of here c.declaration) (map (call_of 0) (decls lines))) lines left ≡ drill_walk lines left
walk_is lines left small =
    ap (λ calls. walk_with calls (flat_map (λ (c : Call). names_of here c.declaration) calls) lines left) (calls_are lines)
    ∙ ap (λ named. walk_with (drill_calls lines) named lines left)
    (none_named (drill_calls lines) (each_call (λ (c : Call). names_of here c.declaration ≡ []) lines small (λ i line. call_names_none i line)))

module _ (setting : Setting Kept) (line left : ℕ) (lines : List ℕ) (natives : setting.natives ≡ jam_meaning) (reading : setting.reading (codes "Jamroot") ≡ is_file (drill_tree line lines))
    (small : length lines ≤ 2000) where
  abbrev turns : ℕ
  turns = suc (length lines + length lines + left)

  visits_root : load_root setting (no_walk turns) ≡ goes_on (drill_walk lines left)
  visits_root =
      ap (λ r. and_then (visit_found setting here (or_next (codes "Jamroot") r (first_file (seen first_world setting.reading) (codes "Jamroot.jam" ∷ []))) (no_walk turns)) (λ next. unless_visited here no_jamroot next)) reading
      ∙ ap (λ o. and_then (after_run o (visited drill_visit (no_walk turns))) (λ next. unless_visited here no_jamroot next)) (drill_runs setting line left lines natives small)
      ∙ ap goes_on (walk_is lines left small)

  pub drill_loads : Loads setting turns [] (loaded (drill_walk lines left) (drill_project lines))
  drill_loads = (
    goes_on (drill_walk lines left),
    subst (λ from. ComesTo setting [] from (goes_on (drill_walk lines left))) (sym visits_root) (is_whole (drill_walk lines left) refl),
    goes_on (drill_walk lines left),
    subst (λ found. IsEquipped setting found (drill_walk lines left) (goes_on (drill_walk lines left))) (sym (no_toolset (drill_calls lines) (each_call (λ (c : Call). toolset_of c.declaration ≡ None) lines small (λ i line few. refl)))) refl,
    ap (with_declared (drill_walk lines left)) (sym (drill_declares lines small)),
  )
