-- Where `Jamroot` is that of a drill, the files come to the plan of the drill.
use Rattle.std.proofs.Common.{◌≡◌, ℕ, suc, ◌+◌, ◌-◌, ◌<◌, ◌≤◌, List, [], ◌∷◌, length, codes, Option, Ok, refl, ap, subst, arith, append-nil}
use Rattle.b2_drill.specs.Drills.{jamroot}
use Rattle.b2_drill_load.specs.Texts.{drill_job, drill_answer}
use Rattle.b2_drill_load.proofs.StepsHaveTexts.{text_in_copy}
use Rattle.b2_drill_means.specs.Laws.{HasJamroot, ComesToDrill}
use Rattle.b2_drill_plan.specs.Plan.{IsDrillPlan, IsDrill}
use Rattle.b2_drill_plan.proofs.RequestIsPlanned.{drill_plans}
use Rattle.b2_drill_project.specs.Loaded.{drill_walk}
use Rattle.b2_drill_project.specs.Project.{drill_place, drill_targets, drill_project}
use Rattle.b2_drill_project.proofs.WalkFindsOneProject.{drill_loads}
use Rattle.b2_drill_text.specs.Laws.{IsFileOf}
use Rattle.b2_drill_text.specs.Trees.{drill_tree}
use Rattle.b2_drill_text.proofs.FileIsSmall.{drill_is_small}
use Rattle.b2_drill_text.proofs.TokensSpellTheTree.{drill_reads}
use Rattle.b2_prepare.specs.Meaning.{load_setting, load_turns, project_of, planned}
use Rattle.b2_generate.specs.Planning.{Planned, Plans}
use Rattle.b2_host.specs.Disks.{Disk}
use Rattle.b2_own_text.specs.Faults.{answer_of}
use Rattle.b2_declared.specs.declared.place.Target.{Target}
use Rattle.b2_testing.specs.Adding.{with_tests}
use Rattle.b2_own_text.specs.Readings.{reads}
use Rattle.b2_own_text.specs.DiskViews.{setting_of}
use Rattle.b2_own_text.specs.Turns.{turns}
use Rattle.b2_own_text.specs.Worlds.{answers_in}
use Rattle.b2_project.specs.Loads.{loaded, Loads}
use Rattle.jam_meaning.specs.Settings.{is_file, Setting, IsReading}
use Rattle.jam_journal.specs.Tables.{Text}
use Rattle.jam_natives.specs.Keeping.{Kept}
use Rattle.jam_values.specs.FileReadings.{OneReading}

-- the text of a step is answered so, whatever else the setting says
pub text_answered : (setting : Setting Kept) (lines : List ℕ) (left i line : ℕ) → i < 2000
    → (answers_in setting (drill_place ∷ []) (drill_walk lines left).state.worlds).step_text (drill_job i line) ≡ Ok (drill_answer i)
text_answered setting lines left i line small = ap answer_of (text_in_copy setting i line turns (record { decls = []; echoes = [] }) small)

-- no test is declared
pub without_tests : (lines : List ℕ) → with_tests (drill_project lines) ≡ drill_project lines
without_tests lines = ap (λ (targets : List Target). record (drill_project lines) { targets = targets }) (append-nil (drill_targets lines))

-- what is known of the disk
pub record IsLoadedSo (n : ℕ) (disk : Disk) : Type 0 where
  pub lines : List ℕ
  pub left : ℕ
  pub count : length lines ≡ n
  pub loads : (refused : Option (ℕ × Text)) → Loads (load_setting disk refused) load_turns [] (loaded (drill_walk lines left) (drill_project lines))

module _ (one_reading : OneReading) (n : ℕ) (disk : Disk) (few : n ≤ 2000) (stands : HasJamroot n disk) where
  file : IsFileOf n
  file = drill_reads n (omega (arith, few))

  reads_so : IsReading disk.now (codes "Jamroot") (is_file (drill_tree file.line file.lines))
  reads_so = (jamroot n, file.tokens, stands, drill_is_small n few, file.are_tokens, file.reads)

  reading_is : (reads disk.now (codes "Jamroot")).0 ≡ is_file (drill_tree file.line file.lines)
  reading_is = one_reading disk.now (codes "Jamroot") (reads disk.now (codes "Jamroot")).0 (is_file (drill_tree file.line file.lines)) (reads disk.now (codes "Jamroot")).1 reads_so

  abbrev spare : ℕ
  spare = 999999 - (length file.lines + length file.lines)

  turns_are : suc (length file.lines + length file.lines + spare) ≡ load_turns
  turns_are = let count : length file.lines ≡ n = file.count in omega (arith, few, count)

  small : length file.lines ≤ 2000
  small = let count : length file.lines ≡ n = file.count in omega (arith, few, count)

  pub loaded_so : IsLoadedSo n disk
  loaded_so = record {
    lines = file.lines;
    left = spare;
    count = file.count;
    loads = λ refused.
        subst (λ left. Loads (load_setting disk refused) left [] (loaded (drill_walk file.lines spare) (drill_project file.lines))) turns_are
        (drill_loads (load_setting disk refused) file.line spare file.lines refl reading_is small);
  }

  abbrev the_lines : List ℕ
  the_lines = loaded_so.lines

  pub lines_few : length loaded_so.lines ≤ 2000
  lines_few = let count : length loaded_so.lines ≡ n = loaded_so.count in omega (arith, few, count)

  is_drill : IsDrill loaded_so.lines (project_of disk (drill_walk loaded_so.lines loaded_so.left).state.worlds (with_tests (drill_project loaded_so.lines)))
  is_drill = record {
    few = lines_few;
    declared_is = without_tests loaded_so.lines;
    roots_are = refl;
    answers = λ i line less. text_answered (setting_of disk) loaded_so.lines loaded_so.left i line (let most : length loaded_so.lines ≤ 2000 = lines_few in omega (arith, less, most));
  }

  pub comes_to_drill : ComesToDrill n disk
  comes_to_drill =
      let found : (plan : Planned) × IsDrillPlan (length loaded_so.lines) plan × Plans (project_of disk (drill_walk loaded_so.lines loaded_so.left).state.worlds (with_tests (drill_project loaded_so.lines))) ([] ∷ []) [] (Ok plan) =
      drill_plans (project_of disk (drill_walk loaded_so.lines loaded_so.left).state.worlds (with_tests (drill_project loaded_so.lines))) loaded_so.lines is_drill in
      record {
        planned = found.0;
        is_plan = subst (λ k. IsDrillPlan k found.0) loaded_so.count found.1;
        means = λ refused. planned (drill_walk loaded_so.lines loaded_so.left) (drill_project loaded_so.lines) (drill_walk loaded_so.lines loaded_so.left).state.worlds found.0 (loaded_so.loads refused) refl refl found.2;
      }

pub drill_means : OneReading → (n : ℕ) (disk : Disk) → n ≤ 2000 → HasJamroot n disk → ComesToDrill n disk
drill_means one_reading n disk few stands = comes_to_drill one_reading n disk few stands
