-- What each function of evaluation does, by the definitions, at a spot where so many levels more may be opened.
use Rattle.std.specs.Prelude.{ℕ, Bool, true, false, List, [], ◌∷◌, ◌++◌, Option, Some, None}
use Rattle.std.specs.declared.vec.Vec.{Vec}
use Rattle.std.specs.declared.alloc.Global.{Global}
use Rattle.jam_grammar.specs.declared.tree.Sign.{Sign}
use Rattle.jam_grammar.specs.declared.tree.Arg.{Arg}
use Rattle.jam_grammar.specs.declared.tree.Inner.{Inner}
use Rattle.jam_grammar.specs.declared.tree.Expr.{Expr}
use Rattle.jam_grammar.specs.declared.tree.Form.{Form}
use Rattle.jam_grammar.specs.declared.tree.Other.{Other}
use Rattle.jam_grammar.specs.declared.tree.Block.{Block}
use Rattle.jam_grammar.specs.declared.tree.Case.{Case}
use Rattle.jam_grammar.specs.declared.tree.Stmt.{Stmt, out-Stmt}
use Rattle.jam_grammar.specs.Trees as tree
use Rattle.jam_grammar.specs.Trees.{arg_tree, inner_tree, args_tree, lists_tree, value_tree, StmtTrees, expr_tree, exprs_tree, form_tree, other_tree, block_tree, stmts_tree, cases_tree}
use Rattle.jam_journal.specs.Tables.{Text}
use Rattle.jam_journal.specs.Scopes.{Value}
use Rattle.jam_scope.specs.Rules.{Rule}
use Rattle.jam_scope.specs.Lines.{find_rule}
use Rattle.jam_meaning.specs.declared.native_answer.NativeStep.{NativeStep}
use Rattle.jam_meaning.specs.States.{State, with_world}
use Rattle.jam_meaning.specs.Settings.{Setting}
use Rattle.jam_meaning.specs.Outcomes.{Outcome, Flow, then_do, gives, in_module}
use Rattle.jam_meaning.specs.Levels.{Levels}
use Rattle.jam_meaning.specs.Params.{call_binds}
use Rattle.jam_meaning.specs.Args.{arg, args, args_after, lists, call, call_head, call_of, inner}
use Rattle.jam_meaning.specs.Conds.{expr, any_of, all_of}
use Rattle.jam_meaning.specs.Includes.{included}
use Rattle.jam_meaning.specs.RuleCalls.{applied, called, bound_call, stepped, transformed, filtered}
use Rattle.jam_meaning.specs.Forms.{form, other, stmts, block, started, local_value, for_rounds, while_rounds}
use Rattle.jam_meaning.specs.Eval.{levels, rule_body, run}
use Rattle.jam_meaning.specs.Rolled.{Job, StepAnswer, call_rolled, rule_if, in_step, step_open, step_text}
use Rattle.jam_effects.specs.declared.at.At.{At}
use Rattle.jam_effects.specs.Views.{What}
use Rattle.jam_interp.specs.declared.rolled.CallAnswer.{CallAnswer}
use Rattle.jam_effects.specs.Spots.{spot_of}

-- whether a form binds or sets variables
abbrev pub sets_variables : tree.FormTree → Bool
sets_variables (tree.Local names list) = true
sets_variables (tree.Assign target sign list) = true
sets_variables (tree.AssignOn target on sign list) = true
sets_variables _ = false

-- how the result of a call from outside any statement is seen
abbrev pub call_value : CallAnswer → Value
call_value answer = answer.value

module _ {R : Type 0} where
  abbrev pub deep : At → Setting R → Levels R
  deep at setting = levels setting at.levels

  abbrev pub arg_at : Arg → At → What R Value
  arg_at a at = λ setting s. arg setting.budget (deep at setting) (arg_tree a) (spot_of at) s

  abbrev pub bracket_at : Inner → At → What R Value
  bracket_at i at = λ setting s. (deep at setting).bracket (inner_tree i) (spot_of at) s

  abbrev pub inner_at : Inner → At → What R Value
  inner_at i at = λ setting s. inner setting.budget (deep at setting) (inner_tree i) (spot_of at) s

  abbrev pub on_inner_at : Arg → Inner → At → What R Value
  on_inner_at target i at = λ setting s. inner setting.budget (deep at setting) (tree.OnInner (arg_tree target) (inner_tree i)) (spot_of at) s

  abbrev pub on_return_at : Arg → List Arg → At → What R Value
  on_return_at target list at = λ setting s. inner setting.budget (deep at setting) (tree.OnReturn (arg_tree target) (args_tree list)) (spot_of at) s

  abbrev pub args_at : List Arg → At → What R Value
  args_at list at = λ setting s. args setting.budget (deep at setting) (args_tree list) (spot_of at) s

  abbrev pub lists_at : List (Vec Arg Global) → At → What R (List Value)
  lists_at given at = λ setting s. lists setting.budget (deep at setting) (lists_tree given) (spot_of at) s

  abbrev pub call_of_at : Arg → List (Vec Arg Global) → At → What R Value
  call_of_at head given at = λ setting s. call_of setting.budget (deep at setting) (arg_tree head) (lists_tree given) (spot_of at) s

  abbrev pub call_head_at : Value → List Value → At → What R Value
  call_head_at names given at = λ setting s. call_head setting.budget (deep at setting) names given (spot_of at) s

  abbrev pub call_at : Text → List Value → At → What R Value
  call_at name given at = λ setting s. call setting.budget (deep at setting) name given (spot_of at) s

  -- within a call
  abbrev pub body_at : At → Setting R → Rule → State R → Outcome R Flow
  body_at at setting = rule_body setting (deep at setting)

  abbrev pub applied_at : Text → List Value → At → What R Value
  applied_at name given at = λ setting s. applied setting (deep at setting) (body_at at setting) name given (spot_of at) s

  abbrev pub ruled_at : Rule → Text → List Value → At → What R Value
  ruled_at rule name given at = λ setting s. called setting (deep at setting) (body_at at setting) (Some rule) name given (spot_of at) s

  abbrev pub unruled_at : Text → List Value → At → What R Value
  unruled_at name given at = λ setting s. called setting (deep at setting) (body_at at setting) None name given (spot_of at) s

  abbrev pub run_rule_at : Rule → Text → List Value → At → What R Value
  run_rule_at rule name given at = λ setting s. bound_call setting (deep at setting) (body_at at setting) rule name (call_binds rule.params given) (spot_of at) s

  abbrev pub stepped_at : NativeStep → Text → At → What R Value
  stepped_at step name at = λ setting s. stepped setting (deep at setting) (body_at at setting) name (spot_of at) step s

  abbrev pub transformed_at : Value → Value → At → What R Value
  transformed_at rule items at = λ setting s. transformed setting (deep at setting) (body_at at setting) rule [] items (spot_of at) s

  abbrev pub filtered_at : Value → Value → At → What R Value
  filtered_at rule items at = λ setting s. filtered setting (deep at setting) (body_at at setting) rule items (spot_of at) s

  abbrev pub bracket_call_at : Value → Text → At → What R Value
  bracket_call_at rule item at = λ setting s. (deep at setting).bracket_call rule (item ∷ []) (spot_of at) s

  -- conditions
  abbrev pub expr_at : Expr → At → What R Bool
  expr_at e at = λ setting s. expr setting.budget (deep at setting) (expr_tree e) (spot_of at) s

  abbrev pub any_of_at : List Expr → At → What R Bool
  any_of_at es at = λ setting s. any_of setting.budget (deep at setting) (exprs_tree es) (spot_of at) s

  abbrev pub all_of_at : List Expr → At → What R Bool
  all_of_at es at = λ setting s. all_of setting.budget (deep at setting) (exprs_tree es) (spot_of at) s

  abbrev pub bare_at : Arg → At → What R Bool
  bare_at a at = λ setting s. expr setting.budget (deep at setting) (tree.Bare (arg_tree a)) (spot_of at) s

  abbrev pub same_at : Arg → Arg → At → What R Bool
  same_at a b at = λ setting s. expr setting.budget (deep at setting) (tree.Equal (arg_tree a) (arg_tree b)) (spot_of at) s

  abbrev pub among_at : Arg → List Arg → At → What R Bool
  among_at a list at = λ setting s. expr setting.budget (deep at setting) (tree.Within (arg_tree a) (args_tree list)) (spot_of at) s

  -- statements
  abbrev pub stmts_at : List Stmt → Text → ℕ → What R Flow
  stmts_at list path n = λ setting s. stmts setting (levels setting n) (stmts_tree list) path s

  abbrev pub started_at : Stmt → Text → ℕ → What R Flow
  started_at stmt path n = λ setting s.
      started setting (levels setting n) (out-Stmt stmt).line (record { path = path; line = (out-Stmt stmt).line }) (λ at. λ s₁. form setting (levels setting n) (form_tree (out-Stmt stmt).form) at s₁) s

  abbrev pub form_by : tree.FormTree → At → What R Flow
  form_by f at = λ setting s. form setting (deep at setting) f (spot_of at) s

  abbrev pub form_at : Form → At → What R Flow
  form_at f at = form_by (form_tree f) at

  abbrev pub block_at : Block → At → What R Flow
  block_at b at = λ setting s. block setting (deep at setting) (block_tree b) (spot_of at) s

  abbrev pub deeper_at : Block → Text → At → What R Flow
  deeper_at b path at = λ setting s. (deep at setting).stmts (block_tree b) path (spot_of at) s

  abbrev pub local_at : List Arg → Option (Vec Arg Global) → At → What R Flow
  local_at names list at = form_by (tree.Local (args_tree names) (value_tree list)) at

  abbrev pub local_value_at : Option (Vec Arg Global) → At → What R Value
  local_value_at list at = λ setting s. local_value setting (deep at setting) (value_tree list) (spot_of at) s

  abbrev pub assign_at : Arg → Sign → List Arg → At → What R Flow
  assign_at target sign list at = form_by (tree.Assign (arg_tree target) sign (args_tree list)) at

  abbrev pub assign_on_at : Arg → List Arg → Sign → List Arg → At → What R Flow
  assign_on_at target on sign list at = form_by (tree.AssignOn (arg_tree target) (args_tree on) sign (args_tree list)) at

  abbrev pub include_at : List Arg → At → What R Flow
  include_at names at = form_by (tree.Include (args_tree names)) at

  abbrev pub included_at : Text → At → What R Flow
  included_at name at = λ setting s. included setting (deep at setting) (name ∷ []) (spot_of at) s

  abbrev pub returned_at : List Arg → At → What R Flow
  returned_at list at = form_by (tree.Return (args_tree list)) at

  abbrev pub if_at : Expr → Block → Other → At → What R Flow
  if_at test b next at = form_by (tree.If (expr_tree test) (block_tree b) (other_tree next)) at

  abbrev pub other_at : Other → At → What R Flow
  other_at next at = λ setting s. other setting (deep at setting) (other_tree next) (spot_of at) s

  abbrev pub for_at : Bool → Text → List Arg → Block → At → What R Flow
  for_at own name items b at = form_by (tree.For own name (args_tree items) (block_tree b)) at

  abbrev pub rounds_at : Text → Value → Block → At → What R Flow
  rounds_at name texts b at = λ setting s. for_rounds texts setting.budget (spot_of at) name (λ s₁. block setting (deep at setting) (block_tree b) (spot_of at) s₁) s

  abbrev pub while_at : Expr → Block → At → What R Flow
  while_at test b at = form_by (tree.While (expr_tree test) (block_tree b)) at

  abbrev pub switch_at : List Arg → List Case → At → What R Flow
  switch_at list cases at = form_by (tree.Switch (args_tree list) (cases_tree cases)) at

  abbrev pub module_at : List Arg → Block → At → What R Flow
  module_at name b at = form_by (tree.Module (args_tree name) (block_tree b)) at

  abbrev pub on_at : Arg → Stmt → At → What R Flow
  on_at target stmt at = form_by (tree.On (arg_tree target) (out-Stmt stmt).line (form_tree (out-Stmt stmt).form)) at

  abbrev pub called_at : Arg → List (Vec Arg Global) → At → What R Flow
  called_at head given at = form_by (tree.Call (arg_tree head) (lists_tree given)) at

  -- what is left of lists, of which these were made so far
  abbrev pub args_rest : Value → List Arg → At → What R Value
  args_rest found list at = λ setting s. args_after setting.budget (deep at setting) found (args_tree list) (spot_of at) s

  abbrev pub lists_rest : List Value → List (Vec Arg Global) → At → What R (List Value)
  lists_rest made given at = λ setting s. then_do (lists setting.budget (deep at setting) (lists_tree given) (spot_of at) s) (λ more. λ s₁. gives (made ++ more) s₁)

  abbrev pub transformed_rest : Value → Value → Value → At → What R Value
  transformed_rest rule found items at = λ setting s. transformed setting (deep at setting) (body_at at setting) rule found items (spot_of at) s

  abbrev pub filtered_rest : Value → Value → Value → At → What R Value
  filtered_rest rule kept items at = λ setting s. then_do (filtered setting (deep at setting) (body_at at setting) rule items (spot_of at) s) (λ more. λ s₁. gives (kept ++ more) s₁)

  abbrev pub while_rest : ℕ → Expr → Block → At → What R Flow
  while_rest most test b at = λ setting s.
      while_rounds most setting.budget (spot_of at) (λ s₁. expr setting.budget (deep at setting) (expr_tree test) (spot_of at) s₁) (λ s₁. block setting (deep at setting) (block_tree b) (spot_of at) s₁) s

  -- what is called from outside any statement
  abbrev pub run_at : Text → StmtTrees → What R (Unit {0})
  run_at path tree = λ setting s. run setting path tree s

  abbrev pub call_rolled_at : Text → List Value → What R Value
  call_rolled_at name given = λ setting s. call_rolled setting name given s

  abbrev pub step_text_at : Job → What R StepAnswer
  step_text_at job = λ setting s. step_text setting job s

  abbrev pub rule_if_at : Job → At → What R Value
  rule_if_at job at = λ setting s. rule_if setting (find_rule job.name s.worlds.now) job (spot_of at) s

  abbrev pub in_step_at : Job → What R StepAnswer
  in_step_at job = λ setting s. in_module job.owner (λ s₁. in_step setting job s₁) (with_world (step_open job) s)
