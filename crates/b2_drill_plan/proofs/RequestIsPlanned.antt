-- The plan of the request of a drill.
use Rattle.std.proofs.Common.{◌≡◌, ℕ, zero, suc, ◌+◌, ◌<◌, ◌≤◌, Bool, true, not, cond, ◌&&◌, List, [], ◌∷◌, ◌++◌, length, filter, map, Ok, refl, sym, ap, ap₂, subst, ◌∙◌, append-nil, arith}
use Rattle.std.specs.Prelude.{◌==◌}
use Rattle.std.specs.List.{flat_map}
use Rattle.b2_drill.specs.Drills.{target_name}
use Rattle.b2_drill_clean.specs.Steps.{output, drill_step, steps, outputs}
use Rattle.b2_drill_load.specs.Texts.{drill_job, drill_answer}
use Rattle.b2_drill_plan.specs.Plan.{IsDrillPlan, IsDrill}
use Rattle.b2_drill_plan.proofs.NamesAreFound.{other_name, filter_append, no_defaults}
use Rattle.b2_drill_plan.proofs.StepsJoinInTurn.{steps_join}
use Rattle.b2_drill_plan.proofs.TargetsAreGenerated.{drill, drill_given, gives}
use Rattle.b2_drill_project.specs.Project.{drill_target, drill_targets, drill_project}
use Rattle.b2_evaluator.specs.Answers.{Answers}
use Rattle.b2_generate.specs.Answers.{Row, Generated}
use Rattle.b2_generate.specs.Generation.{Generates}
use Rattle.b2_generate.specs.LoadedProjects.{LoadedProject}
use Rattle.b2_generate.specs.Planning.{Planned, Answers as Given, all_given, given, planned, Plans}
use Rattle.b2_declared.specs.declared.place.Target.{Target}
use Rattle.b2_plan.specs.declared.step.Step.{Step}
use Rattle.b2_props.specs.Requests.{product}
use Rattle.b2_props.specs.Sets.{firsts, set_of}
use Rattle.b2_references.specs.Names.{Name, is_same, first_names, name_of}
use Rattle.b2_references.specs.References.{is_explicit, projects_under, listed_targets, project_meaning}
use Rattle.b2_references.specs.Requests.{by_feature, choosable, open_values, sets_for, named_by, asked_for, asked}
use Rattle.b2_references.specs.declared.asked.AskedPiece.{AskedPiece}
use Rattle.b2_references.specs.declared.asked.AskedPiece.TheVariants.{Main}
use Rattle.b2_virtual.specs.Joining.{joined}
use Rattle.b2_virtual.specs.declared.entry.Entry.{Entry}

-- ---- so many names from one on

abbrev names_from : ℕ → ℕ → List Name
names_from zero first = []
names_from (suc count) first = (0, target_name first) ∷ names_from count (suc first)

abbrev paths_from : ℕ → ℕ → List (List ℕ)
paths_from zero first = []
paths_from (suc count) first = output first ∷ paths_from count (suc first)

-- one more at the end
one_more : (count first : ℕ) → names_from count first ++ (0, target_name (first + count)) ∷ [] ≡ names_from (suc count) first
one_more zero first = let same : first + 0 ≡ first = omega arith in ap (λ k. (0, target_name k) ∷ []) same
one_more (suc count) first =
    let same : first + suc count ≡ suc first + count = omega arith in
    ap (λ k. (0, target_name first) ∷ (names_from count (suc first) ++ (0, target_name k) ∷ [])) same ∙ ap (λ l. (0, target_name first) ∷ l) (one_more count (suc first))

one_path_more : (count first : ℕ) → paths_from count first ++ output (first + count) ∷ [] ≡ paths_from (suc count) first
one_path_more zero first = let same : first + 0 ≡ first = omega arith in ap (λ k. output k ∷ []) same
one_path_more (suc count) first =
    let same : first + suc count ≡ suc first + count = omega arith in
    ap (λ k. output first ∷ (paths_from count (suc first) ++ output k ∷ [])) same ∙ ap (λ l. output first ∷ l) (one_path_more count (suc first))

paths_are : (n : ℕ) → paths_from n 0 ≡ outputs n
paths_are zero = refl
paths_are (suc n) =
    let same : 0 + n ≡ n = omega arith in
    sym (one_path_more n 0) ∙ ap₂ (λ l k. l ++ output k ∷ []) (paths_are n) same

-- ---- the names of the project

map_append : {A B : Type 0} (f : A → B) (xs ys : List A) → map f (xs ++ ys) ≡ map f xs ++ map f ys
map_append f [] ys = refl
map_append f (x ∷ xs) ys = ap (λ l. f x ∷ l) (map_append f xs ys)

names_are : (lines : List ℕ) → map name_of (drill_targets lines) ≡ names_from (length lines) 0
names_are [] = refl
names_are (line ∷ lines) =
    let same : 0 + length lines ≡ length lines = omega arith in
    map_append name_of (drill_targets lines) (drill_target (length lines) line ∷ [])
    ∙ ap₂ (λ l k. l ++ (0, target_name k) ∷ []) (names_are lines) (sym same)
    ∙ one_more (length lines) 0

-- all are listed
each_append : {X : Type 0} (p : X → Bool) (xs : List X) (y : X) → filter p xs ≡ xs → p y ≡ true → filter p (xs ++ y ∷ []) ≡ xs ++ y ∷ []
each_append p xs y all own = filter_append p xs (y ∷ []) ∙ ap₂ (λ l b. l ++ cond b (y ∷ []) []) all own

all_listed : (d : List ℕ) (lines : List ℕ) → filter (λ (t : Target). t.project == 0 && not (is_explicit (drill_project d) 0 t.name)) (drill_targets lines) ≡ drill_targets lines
all_listed d [] = refl
all_listed d (line ∷ lines) =
    each_append (λ (t : Target). t.project == 0 && not (is_explicit (drill_project d) 0 t.name)) (drill_targets lines) (drill_target (length lines) line) (all_listed d lines) refl

-- no name stands twice
none_same : (count first k : ℕ) → k < first → first + count ≤ 2000 → filter (λ other. not (is_same (0, target_name k) other)) (names_from count first) ≡ names_from count first
none_same zero first k lower few = refl
none_same (suc count) first k lower few =
    ap₂ (λ b l. cond (not b) ((0, target_name first) ∷ l) l) (other_name k first (omega (arith, lower, few)) (omega (arith, few)) (λ e. omega (arith, e, lower)))
    (none_same count (suc first) k (omega (arith, lower)) (omega (arith, few)))

each_once : (count first : ℕ) → first + count ≤ 2000 → first_names (names_from count first) ≡ names_from count first
each_once zero first few = refl
each_once (suc count) first few =
    ap (λ l. (0, target_name first) ∷ filter (λ other. not (is_same (0, target_name first) other)) l) (each_once count (suc first) (omega (arith, few)))
    ∙ ap (λ l. (0, target_name first) ∷ l) (none_same count (suc first) first (omega arith) (omega (arith, few)))

listed_are : (lines : List ℕ) → length lines ≤ 2000 → listed_targets (drill_project lines) 0 ≡ names_from (length lines) 0
unfolding listed_targets
listed_are lines few =
    ap (λ (list : List Target). first_names (map name_of list)) (all_listed lines lines)
    ∙ ap first_names (names_are lines)
    ∙ each_once (length lines) 0 (omega (arith, few))

-- ---- what is asked for

abbrev asks_from : ℕ → ℕ → List AskedPiece
asks_from zero first = []
asks_from (suc count) first = Main (0, target_name first) [] ∷ asks_from count (suc first)

one_set : (i : ℕ) (lines : List ℕ) → i < length lines → length lines ≤ 2000 → asked_for (drill_project lines) [] (0, target_name i) ≡ Main (0, target_name i) [] ∷ []
unfolding sets_for open_values
one_set i lines less few =
    ap (λ defaults. map (Main (0, target_name i)) (map (λ pairs. set_of [] ([] ++ pairs)) (product (by_feature (firsts (choosable [] [] defaults)))))) (no_defaults i lines less few)

asks_are : (count first : ℕ) (lines : List ℕ) → first + count ≤ length lines → length lines ≤ 2000 → flat_map (asked_for (drill_project lines) []) (names_from count first) ≡ asks_from count first
asks_are zero first lines within few = refl
asks_are (suc count) first lines within few =
    ap₂ (λ own more. own ++ more) (one_set first lines (omega (arith, within)) few) (asks_are count (suc first) lines (omega (arith, within)) few)

-- what is asked for by the names of the project
abbrev asked_with : List ℕ → List Name → List AskedPiece
asked_with lines names = (flat_map (asked_for (drill_project lines) []) (names ++ []) ++ []) ++ []

asked_are : (lines : List ℕ) → length lines ≤ 2000 → asked (drill_project lines) ([] ∷ []) [] ≡ asks_from (length lines) 0
unfolding asked named_by project_meaning projects_under
asked_are lines few =
    ap (asked_with lines) (listed_are lines few)
    ∙ ap (λ names. (flat_map (asked_for (drill_project lines) []) names ++ []) ++ []) (append-nil (names_from (length lines) 0))
    ∙ ap (λ asks. (asks ++ []) ++ []) (asks_are (length lines) 0 lines (omega arith) few)
    ∙ append-nil (asks_from (length lines) 0 ++ []) ∙ append-nil (asks_from (length lines) 0)

-- ---- what is given

record AreGiven {E : Type 0} (l : LoadedProject E) (count first n : ℕ) : Type 0 where
  made : List Generated
  answers : Given l (asks_from count first) (steps first) (Ok (made, steps n))
  wanted : flat_map (λ (g : Generated). map (λ (e : Entry). e.path) g.supply.entries) made ≡ paths_from count first

module _ {E : Type 0} (lines : List ℕ) (few : length lines ≤ 2000) (told : Answers E) (tells : (i line : ℕ) → i < length lines → told.step_text (drill_job i line) ≡ Ok (drill_answer i)) where
  are_given : (count first : ℕ) → first + count ≡ length lines → AreGiven (drill lines few told tells) count first (length lines)
  are_given zero first all =
      let same : first ≡ length lines = omega (arith, all) in
      record { made = []; answers = subst (λ k. Given (drill lines few told tells) [] (steps first) (Ok ([], steps k))) same (all_given (steps first)); wanted = refl }
  are_given (suc count) first all =
      let more : AreGiven (drill lines few told tells) count (suc first) (length lines) = are_given count (suc first) (omega (arith, all)) in
      let own : (found : List Row) × Generates (drill lines few told tells) [] (0, target_name first) [] (steps first) (Ok (drill_given lines few told tells first found, joined (steps first) (drill_step first))) =
      gives lines few told tells (suc first) first first [] (omega arith) (omega (arith, all)) (omega arith) (omega (arith, all, few)) (λ k at_most. refl) in
      let after : joined (steps first) (drill_step first) ≡ steps (suc first) = steps_join.anew first (omega (arith, all, few)) in
      record {
        made = drill_given lines few told tells first own.0 ∷ more.made;
        answers =
            given (0, target_name first) [] (asks_from count (suc first)) (steps first) (steps (suc first)) (steps (length lines)) (drill_given lines few told tells first own.0) more.made
            (subst (λ (list : List Step). Generates (drill lines few told tells) [] (0, target_name first) [] (steps first) (Ok (drill_given lines few told tells first own.0, list))) after own.1)
            more.answers;
        wanted = ap (λ paths. output first ∷ paths) more.wanted;
      }

  plans : (plan : Planned) × IsDrillPlan (length lines) plan × Plans (drill lines few told tells) ([] ∷ []) [] (Ok plan)
  plans =
      let all : AreGiven (drill lines few told tells) (length lines) 0 (length lines) = are_given (length lines) 0 (omega arith) in (
        planned (drill lines few told tells) all.made (steps (length lines)),
        record { steps_are = refl; wanted_are = all.wanted ∙ paths_are (length lines); roots_are = refl },
        record {
          outcome = Ok (all.made, steps (length lines));
          answers = subst (λ asks. Given (drill lines few told tells) asks [] (Ok (all.made, steps (length lines)))) (sym (asked_are lines few)) all.answers;
          is = refl;
        },
      )

pub drill_plans : {E : Type 0} (l : LoadedProject E) (lines : List ℕ) → IsDrill lines l → (plan : Planned) × IsDrillPlan (length lines) plan × Plans l ([] ∷ []) [] (Ok plan)
drill_plans {E} l lines d =
    let found : (plan : Planned) × IsDrillPlan (length lines) plan × Plans (drill lines d.few l.answers d.answers) ([] ∷ []) [] (Ok plan) = plans lines d.few l.answers d.answers in
    let same : drill lines d.few l.answers d.answers ≡ l = λ k. record { declared = sym d.declared_is k; roots = sym d.roots_are k; answers = l.answers } in
    (found.0, found.1, subst (λ (x : LoadedProject E). Plans x ([] ∷ []) [] (Ok found.0)) same found.2)
