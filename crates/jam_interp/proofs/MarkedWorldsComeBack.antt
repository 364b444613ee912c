-- What is done in a world that is marked, which is rolled back after it.
use Rattle.std.proofs.Common.{◌≡◌, ℕ, List, ◌∷◌, Result, Ok, Err, sym, ap, ◌∙◌, subst}
use Rattle.jam_journal.specs.Tables.{Text}
use Rattle.jam_journal.specs.Scopes.{Value, leave}
use Rattle.jam_scope.specs.Worlds.{Worlds}
use Rattle.jam_scope.specs.Changes.{rescoped, module_in, mark, roll_back, newest_of}
use Rattle.jam_meaning.specs.Faults.{Spot}
use Rattle.jam_meaning.specs.States.{State}
use Rattle.jam_meaning.specs.Settings.{Setting}
use Rattle.jam_grammar.specs.declared.tree.Stmt.{Stmt}
use Rattle.jam_grammar.specs.Trees.{StmtTrees, stmts_tree}
use Rattle.jam_meaning.specs.Outcomes.{Outcome, Flow, in_frame, in_module}
use Rattle.jam_meaning.specs.Args.{call}
use Rattle.jam_meaning.specs.Includes.{file_ended}
use Rattle.jam_meaning.specs.Forms.{stmts}
use Rattle.jam_meaning.specs.Eval.{levels, most_levels, run_call}
use Rattle.jam_meaning.specs.Rolled.{back_to, in_copy, nowhere}
use Rattle.jam_effects.specs.declared.flow.Flow.{Flow as Way}
use Rattle.jam_effects.specs.declared.fault.EvalFault.{EvalFault}
use Rattle.jam_effects.specs.declared.fault.EvalFault.TheVariants as fault
use Rattle.jam_effects.specs.Machines.{Machine, state_of}
use Rattle.jam_effects.specs.Does.{Faults, Agrees, Tells, Does}
use Rattle.jam_effects.specs.Framing.{entered}
use Rattle.jam_effects.specs.Views.{What, value, flow_of, ended}
use Rattle.jam_interp.specs.FunctionParts.{run_at, stmts_at, call_rolled_at}
use Rattle.jam_meaning.proofs.RecordsOnlyGrow.{file_begins, back_begins}
use Rattle.jam_effects.proofs.FramesCloseEvenAfterFaults.{in_frame_does}
use Rattle.jam_interp.proofs.ArgumentsDoAsDefined.{does_by}

-- rolling back gives the world that was marked
pub rolled_back : (before after : Worlds) → after.marked ≡ before.now ∷ before.marked → roll_back after ≡ before
rolled_back before after e = ap (newest_of after) e

module _ {R : Type 0} where
  agrees_back : {A B : Type 0} (setting : Setting R) (view : A → B) (result : Result A EvalFault) (o : Outcome R B) (n : Machine R) (worlds : Worlds) → Agrees setting view result o (state_of n)
      → Agrees setting view result (back_to worlds o) (state_of (record n { worlds = worlds }))
  agrees_back setting view (Ok a) o n worlds h = ap (back_to worlds) h
  agrees_back setting view (Err fault.Host) o n worlds h = back_begins setting worlds o (state_of n) h
  agrees_back setting view (Err fault.OutOfMemory) o n worlds h = tt
  agrees_back setting view (Err (fault.At path line why)) o n worlds h = ap (back_to worlds) h

  pub in_copy_tells : {A B : Type 0} (view : A → B) (act : Setting R → State R → Outcome R B) (m : Machine R) (marked : Worlds) (n : Machine R) (result : Result A EvalFault) → marked ≡ mark m.worlds
      → Does view act (record m { worlds = marked }) n result → Tells view (λ setting s. in_copy (act setting) s) m (record n { worlds = m.worlds }) result
  in_copy_tells view act m marked n result is h setting right refuses =
      agrees_back setting view result (act setting (state_of (record m { worlds = mark m.worlds }))) n m.worlds
      (subst (λ ws. Agrees setting view result (act setting (state_of (record m { worlds = ws }))) (state_of n)) is
      (h.told setting (record { budget = right.budget; natives = right.natives; folder = right.folder; right = right.right }) refuses))

  -- ---- a file that is run

  faults_end : (setting : Setting R) (e : EvalFault) (o : Outcome R Flow) (s : State R) → Faults setting e o s → Faults setting e (file_ended o) s
  faults_end setting fault.Host o s h = file_begins setting o s h
  faults_end setting fault.OutOfMemory o s h = tt
  faults_end setting (fault.At path line why) o s h = ap file_ended h

  abbrev pub in_file_at : Text → StmtTrees → What R Flow
  in_file_at path tree = λ setting s. in_frame (λ s₁. stmts setting (levels setting most_levels) tree path s₁) s

  pub run_ends : (path : Text) (tree : StmtTrees) (a b : Machine R) (way : Way) → Does flow_of (in_file_at path tree) a b (Ok way) → Tells ended (run_at path tree) a b (Ok tt)
  run_ends path tree a b way h setting right refuses = ap file_ended (h.told setting right refuses)

  pub run_fails : (path : Text) (tree : StmtTrees) (a b : Machine R) (e : EvalFault) → Does flow_of (in_file_at path tree) a b (Err e) → Tells ended (run_at path tree) a b (Err e)
  run_fails path tree a b e h setting right refuses = faults_end setting e (in_file_at path tree setting (state_of a)) (state_of b) (h.told setting right refuses)

  -- its statements run in a frame of the present module, which is closed then
  pub file_runs : (path : Text) (tree : StmtTrees) (list : List Stmt) (n : ℕ) (m : Machine R) (opened : Worlds) (k : Machine R) (closed : Worlds) (result : Result Way EvalFault) → opened ≡ entered m.worlds → n ≡ most_levels → stmts_tree list ≡ tree
      → Does flow_of (stmts_at list path n) (record m { worlds = opened }) k result → closed ≡ rescoped leave k.worlds → Does flow_of (in_file_at path tree) m (record k { worlds = closed }) result
  file_runs path tree list n m opened k closed result is full same h e =
      does_by flow_of (in_file_at path tree) (λ setting. in_module (module_in m.worlds.now) (stmts_at list path n setting)) m (record k { worlds = closed }) result
      (λ setting right. ap (λ trees. in_file_at path trees setting (state_of m)) (sym same)
      ∙ ap (λ count. in_module (module_in m.worlds.now) (λ s₁. stmts setting (levels setting count) (stmts_tree list) path s₁) (state_of m)) (sym full))
      (in_frame_does flow_of (module_in m.worlds.now) (stmts_at list path n) m opened k closed result is h e)

  -- ---- a call from outside any statement

  pub call_rolls : (name : Text) (given : List Value) (spot : Spot) (n : ℕ) (m : Machine R) (marked : Worlds) (k : Machine R) (last : Worlds) (result : Result Value EvalFault) → spot ≡ nowhere → n ≡ most_levels → marked ≡ mark m.worlds
      → Does value (λ setting s. call setting.budget (levels setting n) name given spot s) (record m { worlds = marked }) k result → last ≡ roll_back k.worlds → Tells value (call_rolled_at name given) m (record k { worlds = last }) result
  call_rolls name given spot n m marked k last result there full is h rolled =
      subst (λ w. Tells value (call_rolled_at name given) m (record k { worlds = w }) result) (sym (rolled ∙ rolled_back m.worlds k.worlds (h.stays.marks ∙ ap (λ w. w.marked) is)))
      (in_copy_tells value (λ setting s. run_call setting name given nowhere s) m marked k result is
      (does_by value (λ setting s. run_call setting name given nowhere s) (λ setting s. call setting.budget (levels setting n) name given spot s) (record m { worlds = marked }) k result
      (λ setting right. ap (λ p. run_call setting name given p (state_of (record m { worlds = marked }))) (sym there)
      ∙ ap (λ count. call setting.budget (levels setting count) name given spot (state_of (record m { worlds = marked }))) (sym full)) h))

  -- the fault is the same, however a value would be seen
  pub same_fault : {A B C : Type 0} (view : A → C) (other : B → C) (what : What R C) (a b : Machine R) (e : EvalFault) → Tells view what a b (Err e) → Tells other what a b (Err e)
  same_fault view other what a b fault.Host h setting right refuses = h setting right refuses
  same_fault view other what a b fault.OutOfMemory h setting right refuses = tt
  same_fault view other what a b (fault.At path line why) h setting right refuses = h setting right refuses
