-- Where natives only add to what is seen of what they keep, so does all that is evaluated.
use Rattle.std.proofs.Common.{◌≡◌, ℕ, Bool, List, [], ◌∷◌, ◌++◌, Option, sym, ap, ◌∙◌}
use Rattle.std.proofs.lemmas.List.{append_assoc, append-nil}
use Rattle.jam_grammar.specs.declared.tree.Sign.{Sign}
use Rattle.jam_grammar.specs.Trees as tree
use Rattle.jam_grammar.specs.Trees.{ArgTree, InnerTree, ArgTrees, ListTrees, ExprTree, ExprTrees, FormTree, OtherTree, StmtTrees, CaseTrees}
use Rattle.jam_journal.specs.Tables.{Text}
use Rattle.jam_journal.specs.Scopes.{Value, Binding}
use Rattle.jam_scope.specs.Rules.{Rule}
use Rattle.jam_scope.specs.Worlds.{Worlds}
use Rattle.jam_scope.specs.Lines.{actions_place}
use Rattle.jam_meaning.specs.declared.native_answer.NativeStep.{NativeStep}
use Rattle.jam_meaning.specs.Faults.{Spot, Cause}
use Rattle.jam_meaning.specs.States.{State, with_scopes}
use Rattle.jam_meaning.specs.Settings.{Setting, Told}
use Rattle.jam_meaning.specs.Outcomes.{Outcome, gives, faults, Flow, goes_on, returns, fault_at, then_do, then_go, either, take_turn, joined, close_frame, in_module, in_frame, on_target}
use Rattle.jam_meaning.specs.Levels.{Levels}
use Rattle.jam_meaning.specs.Args.{arg, args_after, args, lists, call, call_head, call_of, inner}
use Rattle.jam_meaning.specs.Conds.{expr, any_of, all_of}
use Rattle.jam_meaning.specs.Includes.{included, file_ended}
use Rattle.jam_meaning.specs.RuleCalls.{value_of, transformed, filtered, stepped, native_call, acted}
use Rattle.jam_meaning.specs.Forms.{bind_names, set_name, set_own, for_all, while_rounds, for_rounds, for_loop, local_value, block, first_case, started, form, other, stmts}
use Rattle.jam_meaning.specs.Eval.{levels, rule_body, run, run_call}
use Rattle.jam_meaning.specs.Rolled.{back_to}
use Rattle.jam_meaning.specs.Kept.{Ends, EndsTold, Grows, OnlyAdds, Begins}
use Rattle.jam_meaning.proofs.IsKept.{IsKept}
use Rattle.jam_meaning.proofs.KeptByEval as keeps
use Rattle.jam_meaning.proofs.KeptByEval.{KeptLevels}

module _ {R : Type 0} (look : R → List Text) where
  grows_same : (s : State R) → Grows look s s
  grows_same s = ([], sym (append-nil (look s.kept)))

  grows_then : (a b c : State R) → Grows look a b → Grows look b c → Grows look a c
  grows_then a b c (one, first) (two, second) = (one ++ two, second ∙ ap (λ (ts : List Text). ts ++ two) first ∙ append_assoc (look a.kept) one two)

  pub adding : (setting : Setting R) → OnlyAdds setting look → IsKept setting (Grows look) (Grows look)
  adding setting adds = record {
    same = λ s. grows_same s;
    chain = λ a b c one two. grows_then a b c one two;
    chain_loose = λ a b c one two. grows_then a b c one two;
    loosen = λ s later h. h;
    turn = λ s left taken. grows_same s;
    assigns = λ name value s. grows_same s;
    binds = λ name value s. grows_same s;
    frame = λ owner s later h. h;
    call_frame = λ owner s later h. h;
    sets_own = λ target name value s. grows_same s;
    rules = λ name params block path line s. grows_same s;
    actions = λ name body s. grows_same s;
    roots = λ s. grows_same s;
    native = λ name given line s. adds.called name given line s;
    records = λ name given line s. adds.acted name given line s;
  }

module _ {R : Type 0} (setting : Setting R) where
  -- ---- one after the other

  pub same_begins : {A : Type 0} (a : A) (s : State R) → Begins setting s (gives a s)
  same_begins a s = λ look adds. grows_same look s

  pub then_begins : {A B : Type 0} (o : Outcome R A) (next : A → State R → Outcome R B) (s : State R) → Begins setting s o → ((a : A) (later : State R) → Begins setting later (next a later)) → Begins setting s (then_do o next)
  then_begins o next s one two = λ look adds. keeps.then_ends setting (Grows look) (Grows look) (adding look setting adds) o next s (one look adds) (λ a later. two a later look adds)

  pub go_begins : (o : Outcome R Flow) (next : State R → Outcome R Flow) (s : State R) → Begins setting s o → ((later : State R) → Begins setting later (next later)) → Begins setting s (then_go o next)
  go_begins o next s one two = λ look adds. keeps.go_ends setting (Grows look) (Grows look) (adding look setting adds) o next s (one look adds) (λ later. two later look adds)

  pub either_begins : {A : Type 0} (b : Bool) (f g : State R → Outcome R A) (s : State R) → ((later : State R) → Begins setting later (f later)) → ((later : State R) → Begins setting later (g later)) → Begins setting s (either b f g s)
  either_begins b f g s one two = λ look adds. keeps.either_ends setting (Grows look) (Grows look) (adding look setting adds) b f g s (λ later. one later look adds) (λ later. two later look adds)

  pub turn_begins : {A : Type 0} (spot : Spot) (s : State R) (next : State R → Outcome R A) → ((later : State R) → Begins setting later (next later)) → Begins setting s (take_turn setting.budget spot s next)
  turn_begins spot s next more = λ look adds. keeps.turn_ends setting (Grows look) (Grows look) (adding look setting adds) setting.budget spot s next (λ later. more later look adds)

  pub module_begins : {A : Type 0} (owner : Text) (act : State R → Outcome R A) (s : State R) → ((later : State R) → Begins setting later (act later)) → Begins setting s (in_module owner act s)
  module_begins owner act s more = λ look adds. keeps.module_ends setting (Grows look) (Grows look) (adding look setting adds) owner act s (λ later. more later look adds)

  pub target_begins : {A : Type 0} (targets : Value) (act : State R → Outcome R A) (s : State R) → ((later : State R) → Begins setting later (act later)) → Begins setting s (on_target targets act s)
  target_begins targets act s more = λ look adds. keeps.target_ends setting (Grows look) (Grows look) (adding look setting adds) targets act s (λ later. more later look adds)

  pub joined_begins : (found value : Value) (spot : Spot) (s : State R) → Begins setting s (joined found value spot s)
  joined_begins found value spot s = λ look adds. keeps.joined_ends setting (Grows look) (Grows look) (adding look setting adds) found value spot s

  pub close_begins : {A : Type 0} (o : Outcome R A) (s : State R) → Begins setting s o → Begins setting s (close_frame o)
  close_begins (gives a later) s h = λ look adds. h look adds
  close_begins (faults fault later) s h = λ look adds. h look adds

  pub fault_begins : (A : Type 0) (spot : Spot) (cause : Cause) (s : State R) → Begins setting s (fault_at {A = A} spot cause s)
  fault_begins A spot cause s = λ look adds. grows_same look s

  pub file_begins : (o : Outcome R Flow) (s : State R) → Begins setting s o → Begins setting s (file_ended o)
  file_begins (gives flow later) s h = λ look adds. h look adds
  file_begins (faults fault later) s h = λ look adds. h look adds

  pub value_begins : (o : Outcome R Flow) (s : State R) → Begins setting s o → Begins setting s (value_of o)
  value_begins (gives goes_on later) s h = λ look adds. h look adds
  value_begins (gives (returns value) later) s h = λ look adds. h look adds
  value_begins (faults fault later) s h = λ look adds. h look adds

  pub back_begins : {A : Type 0} (worlds : Worlds) (o : Outcome R A) (s : State R) → Begins setting s o → Begins setting s (back_to worlds o)
  back_begins worlds (gives a later) s h = λ look adds. h look adds
  back_begins worlds (faults fault later) s h = λ look adds. h look adds

  -- the same from a state with the same record
  pub begins_from : {A : Type 0} (o : Outcome R A) (s from : State R) → from.kept ≡ s.kept → Begins setting s o → Begins setting from o
  begins_from (gives a later) s from same h = λ look adds. let found = h look adds in (found.0, found.1 ∙ ap (λ k. look k ++ found.0) (sym same))
  begins_from (faults fault later) s from same h = λ look adds. let found = h look adds in (found.0, found.1 ∙ ap (λ k. look k ++ found.0) (sym same))

  -- ---- where so many levels more may be opened

  module _ (n : ℕ) where
    down : (look : R → List Text) (adds : OnlyAdds setting look) → KeptLevels setting (Grows look) (Grows look) (adding look setting adds) (levels setting n)
    down look adds = keeps.levels_kept setting (Grows look) (Grows look) (adding look setting adds) n

    pub level_begins : (trees : StmtTrees) (path : Text) (spot : Spot) (s : State R) → Begins setting s ((levels setting n).stmts trees path spot s)
    level_begins trees path spot s = λ look adds. (down look adds).stmts_end trees path spot s

    pub bracket_call_begins : (head first : Value) (spot : Spot) (s : State R) → Begins setting s ((levels setting n).bracket_call head first spot s)
    bracket_call_begins head first spot s = λ look adds. (down look adds).bracket_call_ends head first spot s

    pub arg_begins : (a : ArgTree) (spot : Spot) (s : State R) → Begins setting s (arg setting.budget (levels setting n) a spot s)
    arg_begins a spot s = λ look adds. keeps.arg_ends setting (Grows look) (Grows look) (adding look setting adds) setting.budget (levels setting n) (down look adds) a spot s

    pub args_after_begins : (found : Value) (trees : ArgTrees) (spot : Spot) (s : State R) → Begins setting s (args_after setting.budget (levels setting n) found trees spot s)
    args_after_begins found trees spot s = λ look adds. keeps.args_after_ends setting (Grows look) (Grows look) (adding look setting adds) setting.budget (levels setting n) (down look adds) found trees spot s

    pub args_begins : (trees : ArgTrees) (spot : Spot) (s : State R) → Begins setting s (args setting.budget (levels setting n) trees spot s)
    args_begins trees spot s = args_after_begins [] trees spot s

    pub lists_begins : (trees : ListTrees) (spot : Spot) (s : State R) → Begins setting s (lists setting.budget (levels setting n) trees spot s)
    lists_begins trees spot s = λ look adds. keeps.lists_ends setting (Grows look) (Grows look) (adding look setting adds) setting.budget (levels setting n) (down look adds) trees spot s

    pub call_begins : (name : Text) (given : List Value) (spot : Spot) (s : State R) → Begins setting s (call setting.budget (levels setting n) name given spot s)
    call_begins name given spot s = λ look adds. keeps.call_ends' setting (Grows look) (Grows look) (adding look setting adds) setting.budget (levels setting n) (down look adds) name given spot s

    pub call_head_begins : (head : Value) (given : List Value) (spot : Spot) (s : State R) → Begins setting s (call_head setting.budget (levels setting n) head given spot s)
    call_head_begins head given spot s = λ look adds. keeps.call_head_ends setting (Grows look) (Grows look) (adding look setting adds) setting.budget (levels setting n) (down look adds) head given spot s

    pub inner_begins : (i : InnerTree) (spot : Spot) (s : State R) → Begins setting s (inner setting.budget (levels setting n) i spot s)
    inner_begins i spot s = λ look adds. keeps.inner_ends setting (Grows look) (Grows look) (adding look setting adds) setting.budget (levels setting n) (down look adds) i spot s

    pub expr_begins : (e : ExprTree) (spot : Spot) (s : State R) → Begins setting s (expr setting.budget (levels setting n) e spot s)
    expr_begins e spot s = λ look adds. keeps.expr_ends setting (Grows look) (Grows look) (adding look setting adds) setting.budget (levels setting n) (down look adds) e spot s

    pub any_begins : (es : ExprTrees) (spot : Spot) (s : State R) → Begins setting s (any_of setting.budget (levels setting n) es spot s)
    any_begins es spot s = λ look adds. keeps.any_ends setting (Grows look) (Grows look) (adding look setting adds) setting.budget (levels setting n) (down look adds) es spot s

    pub all_begins : (es : ExprTrees) (spot : Spot) (s : State R) → Begins setting s (all_of setting.budget (levels setting n) es spot s)
    all_begins es spot s = λ look adds. keeps.all_ends setting (Grows look) (Grows look) (adding look setting adds) setting.budget (levels setting n) (down look adds) es spot s

    pub included_begins : (names : Value) (spot : Spot) (s : State R) → Begins setting s (included setting (levels setting n) names spot s)
    included_begins names spot s = λ look adds. keeps.included_ends setting (Grows look) (Grows look) (adding look setting adds) (levels setting n) (down look adds) names spot s

    pub body_ends : (look : R → List Text) (adds : OnlyAdds setting look) (rule : Rule) (s : State R) → Ends (Grows look) s (rule_body setting (levels setting n) rule s)
    body_ends look adds rule s = keeps.all_end setting (Grows look) (Grows look) (adding look setting adds) (levels setting n) (down look adds) rule.block rule.path s

    pub transformed_begins : (rule found items : Value) (spot : Spot) (s : State R) → Begins setting s (transformed setting (levels setting n) (rule_body setting (levels setting n)) rule found items spot s)
    transformed_begins rule found items spot s = λ look adds.
        keeps.transformed_ends setting (Grows look) (Grows look) (adding look setting adds) (levels setting n) (down look adds) (rule_body setting (levels setting n)) (body_ends look adds) rule found items spot s

    pub filtered_begins : (rule items : Value) (spot : Spot) (s : State R) → Begins setting s (filtered setting (levels setting n) (rule_body setting (levels setting n)) rule items spot s)
    filtered_begins rule items spot s = λ look adds.
        keeps.filtered_ends setting (Grows look) (Grows look) (adding look setting adds) (levels setting n) (down look adds) (rule_body setting (levels setting n)) (body_ends look adds) rule items spot s

    pub stepped_begins : (name : Text) (spot : Spot) (step : NativeStep) (s : State R) → Begins setting s (stepped setting (levels setting n) (rule_body setting (levels setting n)) name spot step s)
    stepped_begins name spot step s = λ look adds.
        keeps.stepped_ends setting (Grows look) (Grows look) (adding look setting adds) (levels setting n) (down look adds) (rule_body setting (levels setting n)) (body_ends look adds) name spot step s

    pub native_begins : (name : Text) (given : List Value) (spot : Spot) (s : State R) → Begins setting s (native_call setting (levels setting n) (rule_body setting (levels setting n)) name given spot s)
    native_begins name given spot s = λ look adds.
        keeps.native_ends setting (Grows look) (Grows look) (adding look setting adds) (levels setting n) (down look adds) (rule_body setting (levels setting n)) (body_ends look adds) name given spot s

    pub acted_begins : (name : Text) (given : List Value) (spot : Spot) (s : State R) (next : Bool → State R → Outcome R Value) → ((b : Bool) (later : State R) → Begins setting later (next b later))
        → Begins setting s (acted setting (levels setting n) (rule_body setting (levels setting n)) name given spot s next)
    acted_begins name given spot s next more = λ look adds.
        keeps.acted_at_ends setting (Grows look) (Grows look) (adding look setting adds) (levels setting n) (down look adds) (rule_body setting (levels setting n)) (body_ends look adds)
        (actions_place name s.worlds.now) name given spot s next (λ b later. more b later look adds)

    -- statements
    pub set_name_begins : (how : Sign) (value : Value) (spot : Spot) (name : Text) (s : State R) → Begins setting s (set_name how value spot name s)
    set_name_begins how value spot name s = λ look adds. keeps.set_name_ends setting (Grows look) (Grows look) (adding look setting adds) (levels setting n) (down look adds) how value spot name s

    pub set_own_begins : (how : Sign) (value : Value) (spot : Spot) (target name : Text) (s : State R) → Begins setting s (set_own how value spot target name s)
    set_own_begins how value spot target name s = λ look adds. keeps.set_own_ends setting (Grows look) (Grows look) (adding look setting adds) (levels setting n) (down look adds) how value spot target name s

    pub for_all_begins : (texts : Value) (act : Text → State R → Outcome R Flow) (s : State R) → ((text : Text) (later : State R) → Begins setting later (act text later)) → Begins setting s (for_all texts act s)
    for_all_begins texts act s more = λ look adds. keeps.for_all_ends setting (Grows look) (Grows look) (adding look setting adds) (levels setting n) (down look adds) texts act s (λ text later. more text later look adds)

    pub local_begins : (value : Option ArgTrees) (spot : Spot) (s : State R) → Begins setting s (local_value setting (levels setting n) value spot s)
    local_begins value spot s = λ look adds. keeps.local_ends setting (Grows look) (Grows look) (adding look setting adds) (levels setting n) (down look adds) value spot s

    pub block_begins : (trees : StmtTrees) (spot : Spot) (s : State R) → Begins setting s (block setting (levels setting n) trees spot s)
    block_begins trees spot s = λ look adds. keeps.block_ends setting (Grows look) (Grows look) (adding look setting adds) (levels setting n) (down look adds) trees spot s

    pub case_begins : (text : Text) (cases : CaseTrees) (spot : Spot) (s : State R) → Begins setting s (first_case setting (levels setting n) text cases spot s)
    case_begins text cases spot s = λ look adds. keeps.case_ends setting (Grows look) (Grows look) (adding look setting adds) (levels setting n) (down look adds) text cases spot s

    pub form_begins : (f : FormTree) (spot : Spot) (s : State R) → Begins setting s (form setting (levels setting n) f spot s)
    form_begins f spot s = λ look adds. keeps.form_ends setting (Grows look) (Grows look) (adding look setting adds) (levels setting n) (down look adds) f spot s

    pub other_begins : (o : OtherTree) (spot : Spot) (s : State R) → Begins setting s (other setting (levels setting n) o spot s)
    other_begins o spot s = λ look adds. keeps.other_ends setting (Grows look) (Grows look) (adding look setting adds) (levels setting n) (down look adds) o spot s

    pub started_begins : (line : ℕ) (spot : Spot) (f : FormTree) (s : State R) → Begins setting s (started setting (levels setting n) line spot (λ at. λ s₁. form setting (levels setting n) f at s₁) s)
    started_begins line spot f s = λ look adds.
        keeps.started_ends setting (Grows look) (Grows look) (adding look setting adds) (levels setting n) (down look adds) line spot (λ at later. form setting (levels setting n) f at later) s (λ at later. form_begins f at later look adds)

    pub stmts_begins : (trees : StmtTrees) (path : Text) (s : State R) → Begins setting s (stmts setting (levels setting n) trees path s)
    stmts_begins trees path s = λ look adds. keeps.all_end setting (Grows look) (Grows look) (adding look setting adds) (levels setting n) (down look adds) trees path s

    pub while_begins : (most : ℕ) (spot : Spot) (test : State R → Outcome R Bool) (round : State R → Outcome R Flow) (s : State R) → ((later : State R) → Begins setting later (test later)) → ((later : State R) → Begins setting later (round later))
        → Begins setting s (while_rounds most setting.budget spot test round s)
    while_begins most spot test round s one two = λ look adds.
        keeps.while_ends setting (Grows look) (Grows look) (adding look setting adds) (levels setting n) (down look adds) most setting.budget spot test round s (λ later. one later look adds) (λ later. two later look adds)

    pub for_begins : (items : Value) (spot : Spot) (name : Text) (round : State R → Outcome R Flow) (s : State R) → ((later : State R) → Begins setting later (round later)) → Begins setting s (for_rounds items setting.budget spot name round s)
    for_begins items spot name round s more = λ look adds. keeps.for_ends setting (Grows look) (Grows look) (adding look setting adds) (levels setting n) (down look adds) items setting.budget spot name round s (λ later. more later look adds)

    pub loop_begins : (own : Bool) (name : Text) (rounds : State R → Outcome R Flow) (s : State R) → ((later : State R) → Begins setting later (rounds later)) → Begins setting s (for_loop own name rounds s)
    loop_begins own name rounds s more = λ look adds. keeps.loop_ends setting (Grows look) (Grows look) (adding look setting adds) (levels setting n) (down look adds) own name rounds s (λ later. more later look adds)

  pub run_begins : (path : Text) (trees : StmtTrees) (s : State R) → Begins setting s (run setting path trees s)
  run_begins path trees s = λ look adds. keeps.run_keeps setting (Grows look) (Grows look) (adding look setting adds) path trees s

  pub run_call_begins : (name : Text) (given : List Value) (spot : Spot) (s : State R) → Begins setting s (run_call setting name given spot s)
  run_call_begins name given spot s = λ look adds. keeps.run_call_keeps setting (Grows look) (Grows look) (adding look setting adds) name given spot s
