-- The statements of the build text of tests run one after another, and leave its definitions.
use Rattle.std.proofs.Common.{◌≡◌, ◌≢◌, ℕ, suc, ◌≤◌, ◌+◌, false, ltb, List, [], ◌∷◌, length, codes, Ok, refl, ap, ◌∙◌, arith}
use Rattle.std.specs.List.{AllByRecursion}
use Rattle.std.proofs.lemmas.Bool.{le-ltb}
use Rattle.jam_expand.specs.Expansions.{expansion}
use Rattle.jam_expand.specs.Limits.{limit, within}
use Rattle.jam_expand.proofs.PlainWordsExpandToThemselves.{plain_expansion}
use Rattle.jam_grammar.specs.Trees.{StmtTrees, NoArgs, Module, NoStmts, StmtAnd}
use Rattle.jam_journal.specs.Tables.{Text}
use Rattle.jam_journal.specs.Scopes.{look, enter}
use Rattle.jam_scope.specs.Worlds.{Worlds}
use Rattle.jam_scope.specs.Changes.{rescoped, module_in}
use Rattle.jam_meaning.specs.Args.{args, args_after}
use Rattle.jam_meaning.specs.Eval.{levels, run}
use Rattle.jam_meaning.specs.Faults.{Spot}
use Rattle.jam_meaning.specs.Forms.{stmts}
use Rattle.jam_meaning.specs.Includes.{file_ended}
use Rattle.jam_meaning.specs.Levels.{Levels}
use Rattle.jam_meaning.specs.Outcomes.{gives, goes_on, then_do, then_go, expanded, close_frame, in_module}
use Rattle.jam_meaning.specs.Settings.{Setting}
use Rattle.jam_meaning.specs.States.{State}
use Rattle.jam_natives.specs.Keeping.{Kept}
use Rattle.b2_base.specs.Lists.{first_of}
use Rattle.b2_testing_text.specs.Trees.{one, testing_tree, command_rule, compile_fail_rule, actions}
use Rattle.b2_testing_text.specs.Definitions.{all_made, equipped, of_block, definitions}
use Rattle.b2_testing_text.specs.Laws.{TextRuns, SixDefinitions}

-- ---- a word that names a module

within_one : (text : Text) → length text ≤ 100 → within (text ∷ []) ≡ Ok (text ∷ [])
within_one text small = let first : ltb limit (0 + (length text + 1)) ≡ false = le-ltb limit (0 + (length text + 1)) (omega (arith, small)) in rw first refl

itself : (names : Text → List Text) (text : Text) → AllByRecursion (λ byte. byte ≢ 36) text → length text ≤ 100 → expansion names text ≡ Ok (text ∷ [])
itself names text plain small = plain_expansion names text plain ∙ within_one text small

one_word : (budget : ℕ) (deep : Levels Kept) (text : Text) (spot : Spot) (s : State Kept) → AllByRecursion (λ byte. byte ≢ 36) text → length text ≤ 100 → args budget deep (one text) spot s ≡ gives (text ∷ []) s
one_word budget deep text spot s plain small =
    ap (λ r. then_do (expanded r spot s) (λ v s₁. then_do (expanded (within v) spot s₁) (λ more s₂. args_after budget deep more NoArgs spot s₂))) (itself (look s.worlds.now.scopes) text plain small)
    ∙ ap (λ r. then_do (expanded r spot s) (λ more s₂. args_after budget deep more NoArgs spot s₂)) (within_one text small)

-- ---- the statements

abbrev path : Text
path = codes "gcc"

abbrev at : Worlds → ℕ → Kept → State Kept
at worlds left kept = record { worlds = worlds; left = left; kept = kept }

module _ (setting : Setting Kept) where
  -- a module takes its turn, and its statements run in it
  module_goes : (name : Text) (line : ℕ) (block rest : StmtTrees) (worlds : Worlds) (left : ℕ) (kept : Kept) → AllByRecursion (λ byte. byte ≢ 36) name → length name ≤ 100
      → stmts setting (levels setting 256) (StmtAnd line (Module (one name) block) rest) path (at worlds (suc left) kept)
      ≡ then_go (in_module name (λ s. stmts setting (levels setting 255) block path s) (at worlds left kept)) (stmts setting (levels setting 256) rest path)
  module_goes name line block rest worlds left kept plain small =
      ap (λ o. then_go (then_do o (λ names s. in_module (first_of names) (λ s₁. stmts setting (levels setting 255) block path s₁) s)) (stmts setting (levels setting 256) rest path))
      (one_word setting.budget (levels setting 256) name (record { path = path; line = line }) (at worlds left kept) plain small)

  abbrev gcc_block : StmtTrees
  gcc_block = StmtAnd 1 command_rule NoStmts

  abbrev testing_block : StmtTrees
  testing_block =
      StmtAnd 4 compile_fail_rule
      (StmtAnd 9 (actions (codes "pass") (codes " echo passed > \"$(<)\" "))
      (StmtAnd 10 (actions (codes "compile-fail") (codes " if $(COMMAND) $(OPTIONS) -D$(DEFINES) -I\"$(DIRS)\" -fsyntax-only \"$(>)\" ; then exit 1 ; else echo passed > \"$(<)\" ; fi "))
      (StmtAnd 11 (actions (codes "run") (codes " \"./$(>)\" > /dev/null 2>&1 && echo passed > \"$(<)\" "))
      (StmtAnd 12 (actions (codes "run-fail") (codes " if \"./$(>)\" > /dev/null 2>&1 ; then exit 1 ; else echo passed > \"$(<)\" ; fi "))
      NoStmts))))

  abbrev later : StmtTrees
  later = StmtAnd 2 (Module (one (codes "testing")) testing_block) NoStmts

  gcc_goes : (worlds : Worlds) (left : ℕ) (kept : Kept)
      → stmts setting (levels setting 256) testing_tree path (at worlds (suc (suc left)) kept) ≡ stmts setting (levels setting 256) later path (at (all_made (of_block path (codes "gcc") gcc_block) worlds) left kept)
  unfolding testing_tree
  gcc_goes worlds left kept =
      module_goes (codes "gcc") 1 gcc_block later worlds (suc left) kept ((λ e. omega (arith, e)), ((λ e. omega (arith, e)), ((λ e. omega (arith, e)), tt))) (omega arith)

  testing_goes : (worlds : Worlds) (left : ℕ) (kept : Kept)
      → stmts setting (levels setting 256) later path (at worlds (suc (suc (suc (suc (suc (suc left)))))) kept) ≡ gives goes_on (at (all_made (of_block path (codes "testing") testing_block) worlds) left kept)
  testing_goes worlds left kept =
      module_goes (codes "testing") 2 testing_block NoStmts worlds (suc (suc (suc (suc (suc left))))) kept
      ((λ e. omega (arith, e)), ((λ e. omega (arith, e)), ((λ e. omega (arith, e)), ((λ e. omega (arith, e)), ((λ e. omega (arith, e)), ((λ e. omega (arith, e)), ((λ e. omega (arith, e)), tt))))))) (omega arith)

  runs : (worlds : Worlds) (left : ℕ) (kept : Kept) → run setting path testing_tree (at worlds (suc (suc (suc (suc (suc (suc (suc (suc left)))))))) kept) ≡ gives tt (at (equipped worlds) left kept)
  unfolding definitions testing_tree
  runs worlds left kept =
      let inside : Worlds = rescoped (enter (module_in worlds.now)) worlds in
      ap (λ o. file_ended (close_frame o))
      (gcc_goes inside (suc (suc (suc (suc (suc (suc left)))))) kept ∙ testing_goes (all_made (of_block path (codes "gcc") gcc_block) inside) left kept)

pub text_runs : TextRuns
text_runs setting worlds left kept =
    let turns : 8 + left ≡ suc (suc (suc (suc (suc (suc (suc (suc left))))))) = omega arith in
    ap (λ n. run setting path testing_tree (at worlds n kept)) turns ∙ runs setting worlds left kept

pub six_definitions : SixDefinitions
unfolding definitions testing_tree
six_definitions = refl
