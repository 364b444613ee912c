use Rattle.std.proofs.Common.{rules, ◌-◌, suc, refl, sym, ap, ◌∙◌, arith, ◌∷◌, [], Ok, Err}
use Rattle.std.proofs.lemmas.List.{drop_all, nil_from_length}
use Rattle.std.specs.Option.{option_map}
use Rattle.std.specs.declared.vec.Vec.{Vec}
use Rattle.std.specs.declared.alloc.Global.{Global}
use Rattle.b2_base.specs.Lists.{first_of}
use Rattle.jam_grammar.specs.declared.tree.Stmt.{out-Stmt}
use Rattle.jam_grammar.specs.Trees.{arg_tree, args_tree, lists_tree, value_tree, expr_tree, form_tree, block_tree, stmts_tree, cases_tree, other_tree, params_of, inner_tree}
use Rattle.jam_grammar.proofs.TreesAreThoseOfElements.{call_is, on_return_is}
use Rattle.jam_grammar.specs.Trees as tree
use Rattle.jam_journal.specs.Scopes.{enter}
use Rattle.jam_scope.specs.Changes.{rescoped, define_rule, define_actions}
use Rattle.jam_values.specs.Choosing.{chosen}
use Rattle.jam_values.specs.declared.bindings.Bound.{Bound}
use Rattle.jam_values.specs.Bindings.{bindings_of}
use Rattle.jam_meaning.specs.Conds.{is_true, is_same, is_within}
use Rattle.jam_meaning.specs.declared.native_answer.NativeStep.TheVariants as steps
use Rattle.jam_meaning.proofs.RecordsOnlyGrow.{arg_begins, args_begins}
use Rattle.jam_effects.specs.Framing.{on_entered}
use Rattle.jam_effects.specs.Spots.{spot_of}
use Rattle.jam_effects.specs.Machines.{machine}
use Rattle.jam_effects.specs.Views.{value, truth, flow_of, values}
use Rattle.jam_interp.specs.FunctionParts.{arg_at, args_at, bracket_at, args_rest, lists_at, lists_rest, call_of_at, call_head_at, call_at, applied_at, on_inner_at, on_return_at, transformed_at, transformed_rest, filtered_at, filtered_rest, run_rule_at, unruled_at, stepped_at, bracket_call_at}
use Rattle.jam_effects.specs.Answers.{named_of}
use Rattle.jam_effects.specs.declared.flow.Flow.TheVariants as ways
use Rattle.jam_effects.specs.declared.fault.EvalFault.TheVariants as fault
use Rattle.jam_effects.proofs.WhatEachKeepsAllKeep.{may_leave, stays_same, stays_then}
use Rattle.jam_effects.proofs.OrderedCallsDoAsDefined.{leads_same, value_now, out_of_memory, weaker}
use Rattle.jam_effects.proofs.RestBeginsWithNextItem.{next_item}
use Rattle.jam_interp.proofs.ConditionsDoAsDefined.{made_fails, made_ends, left_fails, right_fails, both_end, truth_lent, same_lent, within_lent, any_fails, any_holds, any_goes, any_none, all_fails, all_fail, all_goes, all_hold, not_fails, not_ends, differ_fails, differ_ends}
use Rattle.jam_interp.proofs.OneLevelLessOrFault.{some_left}
use Rattle.jam_interp.proofs.CodeDoesWhatTreesDo.{block_holds, test_does, or_does, and_does, form_does, switch_does, other_does, defines, value_given, value_empty}
use Rattle.jam_interp.proofs.TargetBracketsDoAsDefined.{memory_here, memory_after, memory_led, by_texts, on_inner_fails, on_inner_does, on_return_fails, on_return_does, memory_in}
use Rattle.jam_interp.proofs.RoundsLeadOnOrEnd.{started_ends_early, rounds_ends_early, rounds_set_fails, rounds_begins, while_more, while_ends_early, round_begins, args_step_fails, args_step_goes, transformed_step_fails, transformed_step_goes, filtered_step_goes}
use Rattle.jam_interp.proofs.StatementsDoAsDefined.{deeper_deep, deeper_opens, block_does, returned_fails, returned_ends, if_fails, if_then, if_else, started_runs, stmts_fails, stmts_returns, stmts_goes, stmts_end, assign_name_fails, assign_value_fails, assign_refused, assign_ends, rounds_fails, rounds_returns, rounds_goes, rounds_end, switch_fails, switch_none, switch_picks, called_fails, called_ends}
use Rattle.jam_interp.proofs.FramedStatementsDoAsDefined.{local_names_fail, local_value_fails, local_valued, local_bind_fails, local_ends, own_names_fail, own_named, own_targets_fail, own_placed, own_value_fails, own_made, own_refused, own_ends, include_fails, include_none, include_first, module_fails, module_does, on_fails, on_does, for_fails, for_here, for_own, while_first, while_fails, while_ends, round_fails, round_returns, round_goes}
use Rattle.jam_interp.proofs.IncludesDoAsDefined.{read_fails, read_leads, included_runs}
use Rattle.jam_interp.proofs.ArgumentsDoAsDefined.{does_at, gives_at, leads_at, arg_word, args_word, arg_bracket, inside_by, bracket_deep, bracket_opens, args_arg_fails, args_end, lists_begin, lists_list_fails, lists_goes, lists_end, call_of_head_fails, call_of_lists_fail, call_of_calls, head_fails, head_none, head_calls}
use Rattle.jam_interp.proofs.CallsDoAsDefined.{call_ends_early, call_ends_deep, call_turned, applied_rule, applied_none, ruled_fails, ruled_untold, ruled_ends, rule_arity, unruled_untold, unruled_recorded, unruled_fails, unruled_steps, gives_in_call, stepped_unknown, stepped_value, stepped_exit, stepped_filters, stepped_transforms, bracket_call_deep, bracket_call_opens, transformed_fails, transformed_end, filtered_begin, filtered_fails, filtered_end}
use Rattle.jam_interp.proofs.RulesRunAsDefined.{found_binds, rule_does}
use Rattle.jam_interp.proofs.FaultsAreHandedOn.{handed_on, handed_on_in_call}
use Rattle.jam_interp.proofs.AssigningFormsSetVariables.{these_set, no_others_set}
use Rattle.jam_interp.proofs.+evaluation.Goals as goal

-- ---- conditions

pub conditions::expr-returns-in-Or : goal.conditions::expr-returns-in-Or
conditions::expr-returns-in-Or g t c = or_does c.args.test.now c.in-Or.members c.deref.result.now c.args.at.now _ _ c.any_of.result c.in-Or.is c.deref.ensures.value c.any_of.ensures

pub conditions::expr-returns-in-And : goal.conditions::expr-returns-in-And
conditions::expr-returns-in-And g t c = and_does c.args.test.now c.in-And.members c.deref-in-And.result.now c.args.at.now _ _ c.all_of.result c.in-And.is c.deref-in-And.ensures.value c.all_of.ensures

pub conditions::expr-returns-in_err-holds-in-Not : goal.conditions::expr-returns-in_err-holds-in-Not
conditions::expr-returns-in_err-holds-in-Not g t c = handed_on c.from_residual.ensures.1
    (test_does c.args.test.now _ c.args.at.now _ _ _ (ap expr_tree c.in-Not.is) (not_fails c.in-Not.test.value c.args.at.now _ _ c.in_err-holds-in-Not.field-0.0 (rw c.deref-in-Not.ensures at c.in_err-holds-in-Not.ensures)))

pub conditions::expr-returns-in_ok-holds-in-Not : goal.conditions::expr-returns-in_ok-holds-in-Not
conditions::expr-returns-in_ok-holds-in-Not g t c =
    test_does c.args.test.now _ c.args.at.now _ _ _ (ap expr_tree c.in-Not.is) (not_ends c.in-Not.test.value c.args.at.now _ _ c.in_ok-holds-in-Not.holds _ refl (rw c.deref-in-Not.ensures at c.in_ok-holds-in-Not.ensures))

pub conditions::expr-returns-in-Group : goal.conditions::expr-returns-in-Group
conditions::expr-returns-in-Group g t c = test_does c.args.test.now _ c.args.at.now _ _ c.within_expr-in-Group.result (ap expr_tree c.in-Group.is) (rw c.deref-in-Group.ensures at c.within_expr-in-Group.ensures)

pub conditions::expr-returns-in-Bare : goal.conditions::expr-returns-in-Bare
conditions::expr-returns-in-Bare g t c = test_does c.args.test.now _ c.args.at.now _ _ c.bare.result (ap expr_tree c.in-Bare.is) c.bare.ensures

pub conditions::expr-returns-in-Equal : goal.conditions::expr-returns-in-Equal
conditions::expr-returns-in-Equal g t c = test_does c.args.test.now _ c.args.at.now _ _ c.same.result (ap expr_tree c.in-Equal.is) c.same.ensures

pub conditions::expr-returns-in_err-holds-in-Differ : goal.conditions::expr-returns-in_err-holds-in-Differ
conditions::expr-returns-in_err-holds-in-Differ g t c = handed_on c.from_residual-in_err-holds-in-Differ.ensures.1
    (test_does c.args.test.now _ c.args.at.now _ _ _ (ap expr_tree c.in-Differ.is) (differ_fails c.in-Differ.left c.in-Differ.right c.args.at.now _ _ c.in_err-holds-in-Differ.field-0.0 c.in_err-holds-in-Differ.ensures))

pub conditions::expr-returns-in_ok-holds-in-Differ : goal.conditions::expr-returns-in_ok-holds-in-Differ
conditions::expr-returns-in_ok-holds-in-Differ g t c =
    test_does c.args.test.now _ c.args.at.now _ _ _ (ap expr_tree c.in-Differ.is) (differ_ends c.in-Differ.left c.in-Differ.right c.args.at.now _ _ c.in_ok-holds-in-Differ.holds _ refl c.in_ok-holds-in-Differ.ensures)

pub conditions::expr-returns-in-Within : goal.conditions::expr-returns-in-Within
conditions::expr-returns-in-Within g t c =
    test_does c.args.test.now _ c.args.at.now _ _ c.among_list.result (ap expr_tree c.in-Within.is ∙ ap (λ l. tree.Within (arg_tree c.in-Within.value) (args_tree l)) (sym c.deref-in-Within.ensures.value)) c.among_list.ensures

pub conditions::within_expr-returns-then-nested-eq0 : goal.conditions::within_expr-returns-then-nested-eq0
conditions::within_expr-returns-then-nested-eq0 g t c = memory_here truth _ _ _ _ refl refl

pub conditions::any_of-each-init : goal.conditions::any_of-each-init
conditions::any_of-each-init g t c = leads_same _ _ _ (λ setting right. refl)

pub conditions::any_of-returns-in_err-within_expr : goal.conditions::any_of-returns-in_err-within_expr
conditions::any_of-returns-in_err-within_expr g t c = handed_on c.from_residual.ensures.1 (any_fails _ _ c.member-item.result _ c.args.at.now _ _ _ c.in_err-within_expr.field-0.0
    (next_item c.args.members.now c.each.member-index c.member-item.result c.each-test.true c.member-item.is) c.each.invariant c.in_err-within_expr.ensures)

pub conditions::any_of-returns-then-branch : goal.conditions::any_of-returns-then-branch
conditions::any_of-returns-then-branch g t c = any_holds _ _ c.member-item.result _ c.args.at.now _ _ _ c.in_ok-within_expr.field-0
    (next_item c.args.members.now c.each.member-index c.member-item.result c.each-test.true c.member-item.is) c.if-branch.true c.each.invariant c.in_ok-within_expr.ensures

pub conditions::any_of-each-preserved : goal.conditions::any_of-each-preserved
conditions::any_of-each-preserved g t c = any_goes _ _ c.member-item.result _ c.args.at.now _ _ _ c.in_ok-within_expr.field-0
    (next_item c.args.members.now c.each.member-index c.member-item.result c.each-test.true c.member-item.is) c.if-branch.false c.each.invariant c.in_ok-within_expr.ensures

pub conditions::any_of-returns : goal.conditions::any_of-returns
conditions::any_of-returns g t c = any_none _ _ c.args.at.now _ _ (drop_all c.each.member-index c.args.members.now c.each-test.false) c.each.invariant

pub conditions::all_of-each-init : goal.conditions::all_of-each-init
conditions::all_of-each-init g t c = leads_same _ _ _ (λ setting right. refl)

pub conditions::all_of-returns-in_err-within_expr : goal.conditions::all_of-returns-in_err-within_expr
conditions::all_of-returns-in_err-within_expr g t c = handed_on c.from_residual.ensures.1 (all_fails _ _ c.member-item.result _ c.args.at.now _ _ _ c.in_err-within_expr.field-0.0
    (next_item c.args.members.now c.each.member-index c.member-item.result c.each-test.true c.member-item.is) c.each.invariant c.in_err-within_expr.ensures)

pub conditions::all_of-returns-then-not-branch : goal.conditions::all_of-returns-then-not-branch
conditions::all_of-returns-then-not-branch g t c = all_fail _ _ c.member-item.result _ c.args.at.now _ _ _ c.in_ok-within_expr.field-0
    (next_item c.args.members.now c.each.member-index c.member-item.result c.each-test.true c.member-item.is) c.if-not-branch.true c.each.invariant c.in_ok-within_expr.ensures

pub conditions::all_of-each-preserved : goal.conditions::all_of-each-preserved
conditions::all_of-each-preserved g t c = all_goes _ _ c.member-item.result _ c.args.at.now _ _ _ c.in_ok-within_expr.field-0
    (next_item c.args.members.now c.each.member-index c.member-item.result c.each-test.true c.member-item.is) c.if-not-branch.false c.each.invariant c.in_ok-within_expr.ensures

pub conditions::all_of-returns : goal.conditions::all_of-returns
conditions::all_of-returns g t c = all_hold _ _ c.args.at.now _ _ (drop_all c.each.member-index c.args.members.now c.each-test.false) c.each.invariant

pub conditions::bare-returns-in-Some : goal.conditions::bare-returns-in-Some
conditions::bare-returns-in-Some g t c = truth_lent c.args.value.now c.args.at.now _ c.in-Some.holds c.in-Some.ensures

pub conditions::bare-returns-in_err-value : goal.conditions::bare-returns-in_err-value
conditions::bare-returns-in_err-value g t c = handed_on c.from_residual.ensures.1 (made_fails value (arg_at c.args.value.now c.args.at.now) is_true _ _ c.in_err-value.field-0.0 c.in_err-value.ensures)

pub conditions::bare-returns : goal.conditions::bare-returns
conditions::bare-returns g t c =
    made_ends value (arg_at c.args.value.now c.args.at.now) is_true _ _ c.in_ok-value.value c.is_true.result (c.is_true.ensures ∙ ap is_true c.as_slice.ensures) c.in_ok-value.ensures

pub conditions::same-returns-in-Some : goal.conditions::same-returns-in-Some
conditions::same-returns-in-Some g t c = same_lent c.args.left.now c.args.right.now c.args.at.now _ c.in-Some.holds c.in-Some.ensures

pub conditions::same-returns-in_err-first : goal.conditions::same-returns-in_err-first
conditions::same-returns-in_err-first g t c =
    handed_on c.from_residual.ensures.1 (left_fails is_same (arg_at c.args.left.now c.args.at.now) (arg_at c.args.right.now c.args.at.now) _ _ c.in_err-first.field-0.0
    (λ setting later. arg_begins setting c.args.at.now.levels (arg_tree c.args.right.now) (spot_of c.args.at.now) later) c.in_err-first.ensures)

pub conditions::same-returns-in_err-second : goal.conditions::same-returns-in_err-second
conditions::same-returns-in_err-second g t c = handed_on c.from_residual-in_err-second.ensures.1
    (right_fails is_same (arg_at c.args.left.now c.args.at.now) (arg_at c.args.right.now c.args.at.now) _ _ _ c.in_ok-first.first c.in_err-second.field-0.0 c.in_ok-first.ensures c.in_err-second.ensures)

pub conditions::same-returns : goal.conditions::same-returns
conditions::same-returns g t c = both_end is_same (arg_at c.args.left.now c.args.at.now) (arg_at c.args.right.now c.args.at.now) _ _ _ c.in_ok-first.first c.in_ok-second.second c.is_same.result
    (c.is_same.ensures ∙ ap (λ v. is_same v c.as_slice-2.result.now) c.as_slice.ensures ∙ ap (is_same c.in_ok-first.first) c.as_slice-2.ensures) c.in_ok-first.ensures c.in_ok-second.ensures

pub conditions::among_list-returns-in-Some : goal.conditions::among_list-returns-in-Some
conditions::among_list-returns-in-Some g t c = within_lent c.args.value.now c.args.among.now c.args.at.now _ c.in-Some.holds c.in-Some.ensures

pub conditions::among_list-returns-in_err-texts : goal.conditions::among_list-returns-in_err-texts
conditions::among_list-returns-in_err-texts g t c =
    handed_on c.from_residual.ensures.1 (left_fails is_within (arg_at c.args.value.now c.args.at.now) (args_at c.args.among.now c.args.at.now) _ _ c.in_err-texts.field-0.0
    (λ setting later. args_begins setting c.args.at.now.levels (args_tree c.args.among.now) (spot_of c.args.at.now) later) c.in_err-texts.ensures)

pub conditions::among_list-returns-in_err-others : goal.conditions::among_list-returns-in_err-others
conditions::among_list-returns-in_err-others g t c = handed_on c.from_residual-in_err-others.ensures.1
    (right_fails is_within (arg_at c.args.value.now c.args.at.now) (args_at c.args.among.now c.args.at.now) _ _ _ c.in_ok-texts.texts c.in_err-others.field-0.0 c.in_ok-texts.ensures c.in_err-others.ensures)

pub conditions::among_list-returns : goal.conditions::among_list-returns
conditions::among_list-returns g t c = both_end is_within (arg_at c.args.value.now c.args.at.now) (args_at c.args.among.now c.args.at.now) _ _ _ c.in_ok-texts.texts c.in_ok-others.others c.is_within.result
    (c.is_within.ensures ∙ ap (λ v. is_within v c.as_slice-2.result.now) c.as_slice.ensures ∙ ap (is_within c.in_ok-texts.texts) c.as_slice-2.ensures) c.in_ok-texts.ensures c.in_ok-others.ensures

-- ---- statements

pub statements::stmts-each-init : goal.statements::stmts-each-init
statements::stmts-each-init g t c = leads_same _ _ _ (λ setting right. refl)

pub statements::stmts-returns-in_err-started : goal.statements::stmts-returns-in_err-started
statements::stmts-returns-in_err-started g t c = handed_on c.from_residual.ensures.1 (stmts_fails _ _ c.stmt-item.result _ c.args.path.now c.args.levels _ _ _ c.in_err-started.field-0.0
    (next_item c.args.stmts.now c.each.stmt-index c.stmt-item.result c.each-test.true c.stmt-item.is) c.each.invariant c.in_err-started.ensures)

pub statements::stmts-returns-in-Returns : goal.statements::stmts-returns-in-Returns
statements::stmts-returns-in-Returns g t c = stmts_returns _ _ c.stmt-item.result _ c.args.path.now c.args.levels _ _ _ c.in-Returns.value
    (next_item c.args.stmts.now c.each.stmt-index c.stmt-item.result c.each-test.true c.stmt-item.is) c.each.invariant (rw c.in-Returns.is at c.in_ok-started.ensures)

pub statements::stmts-each-preserved : goal.statements::stmts-each-preserved
statements::stmts-each-preserved g t c =
    stmts_goes _ _ c.stmt-item.result _ c.args.path.now c.args.levels _ _ _ (next_item c.args.stmts.now c.each.stmt-index c.stmt-item.result c.each-test.true c.stmt-item.is) c.each.invariant (rw c.in-GoesOn.is at c.in_ok-started.ensures)

pub statements::stmts-returns : goal.statements::stmts-returns
statements::stmts-returns g t c = stmts_end _ _ c.args.path.now c.args.levels _ _ (drop_all c.each.stmt-index c.args.stmts.now c.each-test.false) c.each.invariant

pub statements::started-returns-in_err-take_turn : goal.statements::started-returns-in_err-take_turn
statements::started-returns-in_err-take_turn g t c =
    handed_on c.from_residual.ensures.1 (started_ends_early c.args.stmt.now c.args.path.now c.args.levels _ _ _ _ _ _ c.in_err-take_turn.field-0.0 c.in_err-take_turn.ensures.same c.in_err-take_turn.ensures.none c.in_err-take_turn.ensures.fault)

pub statements::started-returns : goal.statements::started-returns
statements::started-returns g t c = started_runs c.args.stmt.now c.args.path.now c.args.levels (record { path = c.args.path; line = (out-Stmt c.args.stmt.now).line; levels = c.args.levels }) _ _ _ c.form.result
    c.in_ok-take_turn.ensures.ok c.in_ok-take_turn.ensures.budget refl refl refl c.form.ensures

pub statements::form-returns-in-Braces : goal.statements::form-returns-in-Braces
statements::form-returns-in-Braces g t c = form_does c.args.form.now _ c.args.at.now _ _ c.block.result (ap form_tree c.in-Braces.is) c.block.ensures

pub statements::form-set_form-requires : goal.statements::form-set_form-requires
statements::form-set_form-requires g t c κs within = (search rules, (search rules, (search rules, (search rules, these_set c.args.form.now c.in-Local.is))))

pub statements::form-returns-in-Local : goal.statements::form-returns-in-Local
statements::form-returns-in-Local g t c = c.set_form.ensures

pub statements::form-returns-in-Include : goal.statements::form-returns-in-Include
statements::form-returns-in-Include g t c =
    form_does c.args.form.now _ c.args.at.now _ _ c.include.result (ap form_tree c.in-Include.is ∙ ap (λ l. tree.Include (args_tree l)) (sym c.deref.ensures.value)) c.include.ensures

pub statements::form-returns-in-Return : goal.statements::form-returns-in-Return
statements::form-returns-in-Return g t c =
    form_does c.args.form.now _ c.args.at.now _ _ c.returned.result (ap form_tree c.in-Return.is ∙ ap (λ l. tree.Return (args_tree l)) (sym c.deref-in-Return.ensures.value)) c.returned.ensures

pub statements::form-returns-in-If : goal.statements::form-returns-in-If
statements::form-returns-in-If g t c = form_does c.args.form.now _ c.args.at.now _ _ c.if_form.result (ap form_tree c.in-If.is) c.if_form.ensures

pub statements::form-returns-in-For : goal.statements::form-returns-in-For
statements::form-returns-in-For g t c =
    form_does c.args.form.now _ c.args.at.now _ _ c.for_form.result (ap form_tree c.in-For.is ∙ ap (λ l. tree.For c.in-For.local c.in-For.name (args_tree l) (block_tree c.in-For.block)) (sym c.deref-in-For.ensures.value)) c.for_form.ensures

pub statements::form-returns-in-While : goal.statements::form-returns-in-While
statements::form-returns-in-While g t c = form_does c.args.form.now _ c.args.at.now _ _ c.while_form.result (ap form_tree c.in-While.is) c.while_form.ensures

pub statements::form-returns-in-Switch : goal.statements::form-returns-in-Switch
statements::form-returns-in-Switch g t c =
    switch_does c.args.form.now c.in-Switch.value c.in-Switch.cases c.deref-in-Switch.result.now c.deref-in-Switch-2.result.now c.args.at.now _ _ c.switch.result c.in-Switch.is c.deref-in-Switch.ensures.value c.deref-in-Switch-2.ensures.value c.switch.ensures

pub statements::form-returns-in-Module : goal.statements::form-returns-in-Module
statements::form-returns-in-Module g t c =
    form_does c.args.form.now _ c.args.at.now _ _ c.module.result (ap form_tree c.in-Module.is ∙ ap (λ l. tree.Module (args_tree l) (block_tree c.in-Module.block)) (sym c.deref-in-Module.ensures.value)) c.module.ensures

pub statements::form-returns-in-Rule : goal.statements::form-returns-in-Rule
statements::form-returns-in-Rule g t c = form_does c.args.form.now _ c.args.at.now _ _ c.define_rule.result (ap form_tree c.in-Rule.is)
    (defines _ (define_rule c.in-Rule.name (params_of c.in-Rule.params) (block_tree c.in-Rule.block.value) c.args.at.now.path.now c.args.at.now.line) _ c.define_rule.new.world c.define_rule.result (record { frames = refl; outer = refl; marks = refl; step = refl }) (λ setting. refl)
    (rw c.deref-in-Rule.ensures.value at c.define_rule.ensures.ok) c.define_rule.ensures.goes_on c.define_rule.ensures.memory c.define_rule.ensures.err)

pub statements::form-returns-in-Actions : goal.statements::form-returns-in-Actions
statements::form-returns-in-Actions g t c = form_does c.args.form.now _ c.args.at.now _ _ c.define_actions.result (ap form_tree c.in-Actions.is)
    (defines _ (define_actions c.in-Actions.name record { text = c.in-Actions.body; together = c.in-Actions.together; existing = c.in-Actions.existing; quietly = c.in-Actions.quietly }) _ c.define_actions.new.world c.define_actions.result (record { frames = refl; outer = refl; marks = refl; step = refl }) (λ setting. refl)
    c.define_actions.ensures.ok c.define_actions.ensures.goes_on c.define_actions.ensures.memory c.define_actions.ensures.err)

pub statements::form-returns-in-On : goal.statements::form-returns-in-On
statements::form-returns-in-On g t c = form_does c.args.form.now _ c.args.at.now _ _ c.on_form.result (ap form_tree c.in-On.is) (rw c.deref-in-On.ensures at c.on_form.ensures)

pub statements::form-returns-in-Call : goal.statements::form-returns-in-Call
statements::form-returns-in-Call g t c =
    form_does c.args.form.now _ c.args.at.now _ _ c.called.result (ap form_tree c.in-Call.is ∙ ap (λ l. tree.Call (arg_tree c.in-Call.head) (lists_tree l)) (sym c.deref-in-Call.ensures.value)) c.called.ensures

pub statements::set_form-returns-in-Local : goal.statements::set_form-returns-in-Local
statements::set_form-returns-in-Local g t c =
    form_does c.args.form.now _ c.args.at.now _ _ c.local.result (ap form_tree c.in-Local.is ∙ ap (λ l. tree.Local (args_tree l) (value_tree c.in-Local.value)) (sym c.deref.ensures.value)) c.local.ensures

pub statements::set_form-returns-in-Assign : goal.statements::set_form-returns-in-Assign
statements::set_form-returns-in-Assign g t c =
    form_does c.args.form.now _ c.args.at.now _ _ c.assign.result (ap form_tree c.in-Assign.is ∙ ap (λ l. tree.Assign (arg_tree c.in-Assign.target) c.in-Assign.sign (args_tree l)) (sym c.deref-in-Assign.ensures.value)) c.assign.ensures

pub statements::set_form-returns-in-AssignOn : goal.statements::set_form-returns-in-AssignOn
statements::set_form-returns-in-AssignOn g t c = form_does c.args.form.now _ c.args.at.now _ _ c.assign_on.result
    (ap form_tree c.in-AssignOn.is ∙ ap (λ l. tree.AssignOn (arg_tree c.in-AssignOn.target) (args_tree l) c.in-AssignOn.sign (args_tree c.in-AssignOn.value.items)) (sym c.deref-in-AssignOn.ensures.value)
    ∙ ap (λ l. tree.AssignOn (arg_tree c.in-AssignOn.target) (args_tree c.deref-in-AssignOn.result.now) c.in-AssignOn.sign (args_tree l)) (sym c.deref-in-AssignOn-2.ensures.value)) c.assign_on.ensures

pub statements::set_form-unreachable-requires : goal.statements::set_form-unreachable-requires
statements::set_form-unreachable-requires g t c = no_others_set c.args.form.now c.requires.sets c.in_default.not-Local c.in_default.not-Assign c.in_default.not-AssignOn

pub statements::block-returns-in_err-enter_here : goal.statements::block-returns-in_err-enter_here
statements::block-returns-in_err-enter_here g t c = handed_on c.from_residual.ensures.1 (memory_here flow_of _ _ _ fault.OutOfMemory c.in_err-enter_here.ensures.err refl)

pub statements::block-leave-requires : goal.statements::block-leave-requires
statements::block-leave-requires g t c = may_leave _ _ c.deeper-ended.ensures.stays c.in_ok-enter_here.ensures.newer

pub statements::block-returns : goal.statements::block-returns
statements::block-returns g t c = block_does c.args.block.now c.args.at.now _ _ _ _ c.deeper-ended.result c.in_ok-enter_here.ensures.ok c.deeper-ended.ensures c.leave.ensures

pub statements::deeper-returns-then-at-eq0 : goal.statements::deeper-returns-then-at-eq0
statements::deeper-returns-then-at-eq0 g t c = deeper_deep c.args.block.now c.args.path.now c.args.at.now _ c.fault.result c.if-at-eq0.true c.fault.ensures

pub statements::deeper-returns : goal.statements::deeper-returns
statements::deeper-returns g t c =
    deeper_opens c.args.block.now c.as_slice.result.now c.args.path.now c.args.at.now _ _ c.stmts.result (some_left _ c.if-at-eq0.false) (block_holds c.args.block.now ∙ ap stmts_tree (sym c.as_slice.ensures.value)) c.stmts.ensures

pub statements::local-returns-in_err-names : goal.statements::local-returns-in_err-names
statements::local-returns-in_err-names g t c = handed_on c.from_residual.ensures.1 (local_names_fail c.args.names.now c.args.value.now c.args.at.now _ _ c.in_err-names.field-0.0 c.in_err-names.ensures)

pub statements::local-returns-in_err-value : goal.statements::local-returns-in_err-value
statements::local-returns-in_err-value g t c =
    handed_on c.from_residual-in_err-value.ensures.1 (local_value_fails c.args.names.now c.args.value.now c.args.at.now _ _ _ c.in_ok-names.names c.in_err-value.field-0.0 c.in_ok-names.ensures c.in_err-value.ensures)

pub statements::local-returns-in_err-bind_names : goal.statements::local-returns-in_err-bind_names
statements::local-returns-in_err-bind_names g t c = handed_on c.from_residual-in_err-bind_names.ensures.1
    (local_bind_fails _ c.in_ok-names.names c.in_ok-value.value _ _ c.bind_names.new.world fault.OutOfMemory (local_valued c.args.names.now c.args.value.now c.args.at.now _ _ _ c.in_ok-names.names c.in_ok-value.value c.in_ok-names.ensures c.in_ok-value.ensures) c.in_err-bind_names.ensures.same refl)

pub statements::local-returns : goal.statements::local-returns
statements::local-returns g t c =
    local_ends _ c.in_ok-names.names c.in_ok-value.value _ _ c.bind_names.new.world (local_valued c.args.names.now c.args.value.now c.args.at.now _ _ _ c.in_ok-names.names c.in_ok-value.value c.in_ok-names.ensures c.in_ok-value.ensures) c.in_ok-bind_names.ensures.same (rw (c.as_slice.ensures, c.as_slice-2.ensures) at c.in_ok-bind_names.ensures.ok)

pub statements::local_value-returns-in-Some : goal.statements::local_value-returns-in-Some
statements::local_value-returns-in-Some g t c = value_given c.args.list.now c.in-Some.list c.deref.result.now c.args.at.now _ _ c.args-in-Some.result c.in-Some.is c.deref.ensures.value c.args-in-Some.ensures

pub statements::local_value-returns-in-None : goal.statements::local_value-returns-in-None
statements::local_value-returns-in-None g t c = value_empty c.args.list.now c.new.result c.args.at.now _ c.in-None.is c.new.ensures

pub statements::assign-returns-in_err-names : goal.statements::assign-returns-in_err-names
statements::assign-returns-in_err-names g t c = handed_on c.from_residual.ensures.1 (assign_name_fails c.args.target.now c.args.sign c.args.value.now c.args.at.now _ _ c.in_err-names.field-0.0 c.in_err-names.ensures)

pub statements::assign-returns-in_err-value : goal.statements::assign-returns-in_err-value
statements::assign-returns-in_err-value g t c =
    handed_on c.from_residual-in_err-value.ensures.1 (assign_value_fails c.args.target.now c.args.sign c.args.value.now c.args.at.now _ _ _ c.in_ok-names.names c.in_err-value.field-0.0 c.in_ok-names.ensures c.in_err-value.ensures)

pub statements::assign-returns-in_err-set_names : goal.statements::assign-returns-in_err-set_names
statements::assign-returns-in_err-set_names g t c = handed_on c.from_residual-in_err-set_names.ensures.1
    (assign_refused c.args.target.now c.args.sign c.args.value.now c.args.at.now _ _ _ c.in_ok-names.names c.in_ok-value.value c.set_names.new.world c.in_err-set_names.field-0.0 c.in_ok-names.ensures c.in_ok-value.ensures c.in_err-set_names.ensures.same (rw (c.as_slice.ensures, c.as_slice-2.ensures) at c.in_err-set_names.ensures.made))

pub statements::assign-returns : goal.statements::assign-returns
statements::assign-returns g t c =
    assign_ends c.args.target.now c.args.sign c.args.value.now c.args.at.now _ _ _ c.in_ok-names.names c.in_ok-value.value c.set_names.new.world c.in_ok-set_names.field-0 c.in_ok-names.ensures c.in_ok-value.ensures c.in_ok-set_names.ensures.same (rw (c.as_slice.ensures, c.as_slice-2.ensures) at c.in_ok-set_names.ensures.made)

pub statements::assign_on-returns-in_err-names : goal.statements::assign_on-returns-in_err-names
statements::assign_on-returns-in_err-names g t c =
    handed_on c.from_residual.ensures.1 (own_names_fail c.args.target.now c.args.on.now c.args.sign c.args.value.now c.args.at.now _ _ c.in_err-names.field-0.0 c.in_err-names.ensures)

pub statements::assign_on-returns-in_err-targets : goal.statements::assign_on-returns-in_err-targets
statements::assign_on-returns-in_err-targets g t c = handed_on c.from_residual-in_err-targets.ensures.1
    (own_targets_fail _ c.in_ok-names.names c.args.on.now c.args.sign c.args.value.now c.args.at.now _ _ _ c.in_err-targets.field-0.0
    (own_named c.args.target.now c.args.on.now c.args.sign c.args.value.now c.args.at.now _ _ c.in_ok-names.names c.in_ok-names.ensures) c.in_err-targets.ensures)

pub statements::assign_on-returns-in_err-value : goal.statements::assign_on-returns-in_err-value
statements::assign_on-returns-in_err-value g t c = handed_on c.from_residual-in_err-value.ensures.1
    (own_value_fails _ c.in_ok-targets.targets c.in_ok-names.names c.args.sign c.args.value.now c.args.at.now _ _ _ c.in_err-value.field-0.0
    (own_placed c.args.target.now c.args.on.now c.args.sign c.args.value.now c.args.at.now _ _ _ c.in_ok-names.names c.in_ok-targets.targets c.in_ok-names.ensures c.in_ok-targets.ensures) c.in_err-value.ensures)

pub statements::assign_on-returns-in_err-set_own : goal.statements::assign_on-returns-in_err-set_own
statements::assign_on-returns-in_err-set_own g t c = handed_on c.from_residual-in_err-set_own.ensures.1
    (own_refused _ c.in_ok-targets.targets c.in_ok-names.names c.args.sign c.in_ok-value.value c.args.at.now _ _ c.set_own.new.world c.in_err-set_own.field-0.0
    (own_made c.args.target.now c.args.on.now c.args.sign c.args.value.now c.args.at.now _ _ _ _ c.in_ok-names.names c.in_ok-targets.targets c.in_ok-value.value c.in_ok-names.ensures c.in_ok-targets.ensures c.in_ok-value.ensures) c.in_err-set_own.ensures.same
    (rw (c.as_slice.ensures, c.as_slice-2.ensures, c.as_slice-3.ensures) at c.in_err-set_own.ensures.made))

pub statements::assign_on-returns : goal.statements::assign_on-returns
statements::assign_on-returns g t c = own_ends _ c.in_ok-targets.targets c.in_ok-names.names c.args.sign c.in_ok-value.value c.args.at.now _ _ c.set_own.new.world c.in_ok-set_own.field-0
    (own_made c.args.target.now c.args.on.now c.args.sign c.args.value.now c.args.at.now _ _ _ _ c.in_ok-names.names c.in_ok-targets.targets c.in_ok-value.value c.in_ok-names.ensures c.in_ok-targets.ensures c.in_ok-value.ensures) c.in_ok-set_own.ensures.same
    (rw (c.as_slice.ensures, c.as_slice-2.ensures, c.as_slice-3.ensures) at c.in_ok-set_own.ensures.made)

pub statements::include-returns-in_err-names : goal.statements::include-returns-in_err-names
statements::include-returns-in_err-names g t c = handed_on c.from_residual.ensures.1 (include_fails c.args.names.now c.args.at.now _ _ c.in_err-names.field-0.0 c.in_err-names.ensures)

pub statements::include-returns-in-empty : goal.statements::include-returns-in-empty
statements::include-returns-in-empty g t c = include_none c.args.names.now c.args.at.now _ _ c.in_ok-names.names
    (sym c.as_slice.ensures ∙ nil_from_length c.as_slice.result.now (omega (arith, c.in-empty.len_below))) c.in_ok-names.ensures

pub statements::include-returns : goal.statements::include-returns
statements::include-returns g t c = include_first c.args.names.now c.args.at.now _ _ _ c.in_ok-names.names c.name-item.result _ c.included.result
    (sym c.as_slice.ensures ∙ next_item c.as_slice.result.now 0 c.name-item.result (omega (arith, c.in-len1-up.len_at_least)) c.name-item.is) c.in_ok-names.ensures c.included.ensures

pub statements::included-returns-in_err-file : goal.statements::included-returns-in_err-file
statements::included-returns-in_err-file g t c = handed_on c.from_residual.ensures.1
    (read_fails c.args.name.now c.args.at.now _ c.read_include.new.world (g.F.Files.outside c.read_include.new.files) c.in_err-file.field-0.0 c.in_err-file.ensures.world c.in_err-file.ensures.effect c.in_err-file.ensures.told c.in_err-file.ensures.foreseen)

pub statements::included-returns-in_err-enter_here : goal.statements::included-returns-in_err-enter_here
statements::included-returns-in_err-enter_here g t c = handed_on c.from_residual-in_err-enter_here.ensures.1 (memory_led flow_of _ _ _ _ c.enter_here.new.world fault.OutOfMemory
    (read_leads c.args.name.now c.args.at.now _ c.read_include.new.world (g.F.Files.outside c.read_include.new.files) c.in_ok-file.file c.in_ok-file.ensures.world c.in_ok-file.ensures.effect c.in_ok-file.ensures.told) c.in_err-enter_here.ensures.err refl)

pub statements::included-leave-requires : goal.statements::included-leave-requires
statements::included-leave-requires g t c = may_leave _ _ c.deeper-ended.ensures.stays c.in_ok-enter_here.ensures.newer

pub statements::included-returns : goal.statements::included-returns
statements::included-returns g t c =
    included_runs c.args.name.now c.args.at.now _ c.read_include.new.world (g.F.Files.outside c.read_include.new.files) c.in_ok-file.file c.in_ok-file.file.tree.block _ _ _ c.deeper-ended.result c.file_ended.result refl c.in_ok-file.ensures.world c.in_ok-file.ensures.effect c.in_ok-file.ensures.told
    c.in_ok-enter_here.ensures.ok (rw c.as_text.ensures.value at c.deeper-ended.ensures) c.leave.ensures c.file_ended.ensures

pub statements::returned-returns-in_err-value : goal.statements::returned-returns-in_err-value
statements::returned-returns-in_err-value g t c = handed_on c.from_residual.ensures.1 (returned_fails c.args.value.now c.args.at.now _ _ c.in_err-value.field-0.0 c.in_err-value.ensures)

pub statements::returned-returns : goal.statements::returned-returns
statements::returned-returns g t c = returned_ends c.args.value.now c.args.at.now _ _ c.in_ok-value.value c.in_ok-value.ensures

pub statements::if_form-returns-in_err-expr : goal.statements::if_form-returns-in_err-expr
statements::if_form-returns-in_err-expr g t c = handed_on c.from_residual.ensures.1 (if_fails c.args.test.now c.args.then.now c.args.next.now c.args.at.now _ _ c.in_err-expr.field-0.0 c.in_err-expr.ensures)

pub statements::if_form-returns-then-branch : goal.statements::if_form-returns-then-branch
statements::if_form-returns-then-branch g t c = if_then c.args.test.now c.args.then.now c.args.next.now c.args.at.now _ _ _ c.in_ok-expr.field-0 c.block.result c.if-branch.true c.in_ok-expr.ensures c.block.ensures

pub statements::if_form-returns-else-branch : goal.statements::if_form-returns-else-branch
statements::if_form-returns-else-branch g t c = if_else c.args.test.now c.args.then.now c.args.next.now c.args.at.now _ _ _ c.in_ok-expr.field-0 c.other.result c.if-branch.false c.in_ok-expr.ensures c.other.ensures

pub statements::other-returns-in-Nothing : goal.statements::other-returns-in-Nothing
statements::other-returns-in-Nothing g t c = other_does c.args.next.now _ c.args.at.now _ _ _ (ap other_tree c.in-Nothing.is) (value_now flow_of _ _ ways.GoesOn (λ setting right. refl))

pub statements::other-returns-in-Braces : goal.statements::other-returns-in-Braces
statements::other-returns-in-Braces g t c = other_does c.args.next.now _ c.args.at.now _ _ c.block.result (ap other_tree c.in-Braces.is) c.block.ensures

pub statements::other-returns-in-If : goal.statements::other-returns-in-If
statements::other-returns-in-If g t c = other_does c.args.next.now _ c.args.at.now _ _ c.started.result (ap other_tree c.in-If.is) (rw c.deref.ensures at c.started.ensures)

-- ---- loops

pub statements::for_form-returns-in_err-texts : goal.statements::for_form-returns-in_err-texts
statements::for_form-returns-in_err-texts g t c =
    handed_on c.from_residual.ensures.1 (for_fails c.args.own c.args.name.now c.args.items.now c.args.inner.now c.args.at.now _ _ c.in_err-texts.field-0.0 c.in_err-texts.ensures)

pub statements::for_form-returns-then-not-own : goal.statements::for_form-returns-then-not-own
statements::for_form-returns-then-not-own g t c =
    for_here c.args.own c.args.name.now c.args.items.now c.args.inner.now c.args.at.now _ _ _ c.in_ok-texts.texts c.rounds.result c.if-not-own.true c.in_ok-texts.ensures (rw c.as_slice.ensures at c.rounds.ensures)

pub statements::for_form-returns-in_err-enter_loop : goal.statements::for_form-returns-in_err-enter_loop
statements::for_form-returns-in_err-enter_loop g t c = handed_on c.from_residual-in_err-enter_loop.ensures.1
    (memory_after flow_of value _ (args_at c.args.items.now c.args.at.now) _ _ c.enter_loop.new.world c.in_ok-texts.texts fault.OutOfMemory c.in_ok-texts.ensures c.in_err-enter_loop.ensures.err refl)

pub statements::for_form-leave-requires : goal.statements::for_form-leave-requires
statements::for_form-leave-requires g t c = may_leave _ _ c.rounds-ended.ensures.stays c.in_ok-enter_loop.ensures.newer

pub statements::for_form-returns : goal.statements::for_form-returns
statements::for_form-returns g t c =
    for_own c.args.own c.args.name.now c.args.items.now c.args.inner.now c.args.at.now _ _ c.in_ok-texts.texts _ _ _ c.rounds-ended.result c.if-not-own.false c.in_ok-texts.ensures c.in_ok-enter_loop.ensures.ok (rw c.as_slice-2.ensures at c.rounds-ended.ensures) c.leave.ensures

pub statements::rounds-each-init : goal.statements::rounds-each-init
statements::rounds-each-init g t c = leads_same _ _ _ (λ setting right. refl)

pub statements::rounds-returns-in_err-take_turn : goal.statements::rounds-returns-in_err-take_turn
statements::rounds-returns-in_err-take_turn g t c = handed_on c.from_residual.ensures.1
    (rounds_ends_early _ c.args.name.now _ c.text-item.result _ c.args.inner.now c.args.at.now _ c.each.world c.each.turns c.take_turn.new.turns _ _ _ c.in_err-take_turn.field-0.0
    (next_item c.args.texts.now c.each.text-index c.text-item.result c.each-test.true c.text-item.is) c.each.invariant c.in_err-take_turn.ensures.same c.in_err-take_turn.ensures.none c.in_err-take_turn.ensures.fault)

pub statements::rounds-returns-in_err-set_item : goal.statements::rounds-returns-in_err-set_item
statements::rounds-returns-in_err-set_item g t c = handed_on c.from_residual-in_err-set_item.ensures.1
    (rounds_set_fails _ c.args.name.now _ c.text-item.result _ c.args.inner.now c.args.at.now _ c.each.world c.set_item.new.world c.each.turns c.take_turn.new.turns _ _ _ fault.OutOfMemory
    (next_item c.args.texts.now c.each.text-index c.text-item.result c.each-test.true c.text-item.is) c.each.invariant c.in_ok-take_turn.ensures.ok c.in_ok-take_turn.ensures.budget c.in_err-set_item.ensures.err refl)

pub statements::rounds-returns-in_err-block : goal.statements::rounds-returns-in_err-block
statements::rounds-returns-in_err-block g t c = handed_on c.from_residual-in_err-block.ensures.1 (rounds_fails _ c.args.name.now _ c.args.inner.now c.args.at.now _ _ _ c.in_err-block.field-0.0
    (rounds_begins _ c.args.name.now _ c.text-item.result _ c.args.inner.now c.args.at.now _ c.each.world c.set_item.new.world c.each.turns c.take_turn.new.turns _ _ _
    (next_item c.args.texts.now c.each.text-index c.text-item.result c.each-test.true c.text-item.is) c.each.invariant c.in_ok-take_turn.ensures.ok c.in_ok-take_turn.ensures.budget c.in_ok-set_item.ensures.same c.in_ok-set_item.ensures.ok) c.in_err-block.ensures)

pub statements::rounds-returns-in-Returns : goal.statements::rounds-returns-in-Returns
statements::rounds-returns-in-Returns g t c = rounds_returns _ c.args.name.now _ c.args.inner.now c.args.at.now _ _ _ c.in-Returns.value
    (rounds_begins _ c.args.name.now _ c.text-item.result _ c.args.inner.now c.args.at.now _ c.each.world c.set_item.new.world c.each.turns c.take_turn.new.turns _ _ _
    (next_item c.args.texts.now c.each.text-index c.text-item.result c.each-test.true c.text-item.is) c.each.invariant c.in_ok-take_turn.ensures.ok c.in_ok-take_turn.ensures.budget c.in_ok-set_item.ensures.same c.in_ok-set_item.ensures.ok) (rw c.in-Returns.is at c.in_ok-block.ensures)

pub statements::rounds-each-preserved : goal.statements::rounds-each-preserved
statements::rounds-each-preserved g t c = rounds_goes _ c.args.name.now _ c.args.inner.now c.args.at.now _ _ _
    (rounds_begins _ c.args.name.now _ c.text-item.result _ c.args.inner.now c.args.at.now _ c.each.world c.set_item.new.world c.each.turns c.take_turn.new.turns _ _ _
    (next_item c.args.texts.now c.each.text-index c.text-item.result c.each-test.true c.text-item.is) c.each.invariant c.in_ok-take_turn.ensures.ok c.in_ok-take_turn.ensures.budget c.in_ok-set_item.ensures.same c.in_ok-set_item.ensures.ok) (rw c.in-GoesOn.is at c.in_ok-block.ensures)

pub statements::rounds-returns : goal.statements::rounds-returns
statements::rounds-returns g t c = rounds_end _ c.args.name.now _ c.args.inner.now c.args.at.now _ _ (drop_all c.each.text-index c.args.texts.now c.each-test.false) c.each.invariant

pub statements::while_form-round-init : goal.statements::while_form-round-init
statements::while_form-round-init g t c = (suc c.args.turns.now.left, omega arith, while_first c.args.test.now c.args.inner.now c.args.at.now _)

pub statements::while_form-returns-in_err-expr : goal.statements::while_form-returns-in_err-expr
statements::while_form-returns-in_err-expr g t c = handed_on c.from_residual.ensures.1 (while_fails _ (c.round.invariant.0 - 1) c.args.test.now c.args.inner.now c.args.at.now _ _ _ c.in_err-expr.field-0.0
    (while_more _ c.round.invariant.0 c.round.turns.left c.args.test.now c.args.inner.now c.args.at.now _ _ c.round.invariant.1 c.round.invariant.2) c.in_err-expr.ensures)

pub statements::while_form-returns-in_err-take_turn : goal.statements::while_form-returns-in_err-take_turn
statements::while_form-returns-in_err-take_turn g t c = handed_on c.from_residual-in_err-take_turn.ensures.1
    (while_ends_early _ (c.round.invariant.0 - 1) c.args.test.now c.args.inner.now c.args.at.now _ _ c.expr.new.world c.expr.new.turns c.take_turn.new.turns _ _ _ c.in_ok-expr.field-0 c.in_err-take_turn.field-0.0 c.if-branch.true
    (while_more _ c.round.invariant.0 c.round.turns.left c.args.test.now c.args.inner.now c.args.at.now _ _ c.round.invariant.1 c.round.invariant.2) c.in_ok-expr.ensures c.in_err-take_turn.ensures.same c.in_err-take_turn.ensures.none c.in_err-take_turn.ensures.fault)

pub statements::while_form-returns-in_err-block : goal.statements::while_form-returns-in_err-block
statements::while_form-returns-in_err-block g t c = handed_on c.from_residual-in_err-block.ensures.1 (round_fails _ (c.round.invariant.0 - 1) c.args.test.now c.args.inner.now c.args.at.now _ _ _ c.in_err-block.field-0.0
    (round_begins _ c.round.invariant.0 c.round.turns.left c.args.test.now c.args.inner.now c.args.at.now _ _ c.expr.new.world c.expr.new.turns c.take_turn.new.turns _ _ _ c.in_ok-expr.field-0
    c.round.invariant.1 c.round.invariant.2 c.if-branch.true c.in_ok-expr.ensures c.in_ok-take_turn.ensures.ok c.in_ok-take_turn.ensures.budget) c.in_err-block.ensures)

pub statements::while_form-returns-in-Returns : goal.statements::while_form-returns-in-Returns
statements::while_form-returns-in-Returns g t c = round_returns _ (c.round.invariant.0 - 1) c.args.test.now c.args.inner.now c.args.at.now _ _ _ c.in-Returns.value
    (round_begins _ c.round.invariant.0 c.round.turns.left c.args.test.now c.args.inner.now c.args.at.now _ _ c.expr.new.world c.expr.new.turns c.take_turn.new.turns _ _ _ c.in_ok-expr.field-0
    c.round.invariant.1 c.round.invariant.2 c.if-branch.true c.in_ok-expr.ensures c.in_ok-take_turn.ensures.ok c.in_ok-take_turn.ensures.budget) (rw c.in-Returns.is at c.in_ok-block.ensures)

pub statements::while_form-round-preserved : goal.statements::while_form-round-preserved
statements::while_form-round-preserved g t c = (
  c.round.invariant.0 - 1,
  omega (arith, c.round.invariant.1, c.in_ok-expr.ensures.stays.turns, c.in_ok-take_turn.ensures.ok, c.in_ok-block.ensures.stays.turns),
  round_goes _ (c.round.invariant.0 - 1) c.args.test.now c.args.inner.now c.args.at.now _ _ _
      (round_begins _ c.round.invariant.0 c.round.turns.left c.args.test.now c.args.inner.now c.args.at.now _ _ c.expr.new.world c.expr.new.turns c.take_turn.new.turns _ _ _ c.in_ok-expr.field-0
      c.round.invariant.1 c.round.invariant.2 c.if-branch.true c.in_ok-expr.ensures c.in_ok-take_turn.ensures.ok c.in_ok-take_turn.ensures.budget) (rw c.in-GoesOn.is at c.in_ok-block.ensures),
)

pub statements::while_form-round-smaller : goal.statements::while_form-round-smaller
statements::while_form-round-smaller g t c = omega (arith, c.round.invariant.1, c.in_ok-expr.ensures.stays.turns, c.in_ok-take_turn.ensures.ok, c.in_ok-block.ensures.stays.turns)

pub statements::while_form-returns : goal.statements::while_form-returns
statements::while_form-returns g t c = while_ends _ (c.round.invariant.0 - 1) c.args.test.now c.args.inner.now c.args.at.now _ _ _ c.in_ok-expr.field-0 c.if-branch.false
    (while_more _ c.round.invariant.0 c.round.turns.left c.args.test.now c.args.inner.now c.args.at.now _ _ c.round.invariant.1 c.round.invariant.2) c.in_ok-expr.ensures

-- ---- statements with frames of their own, and calls

pub statements::switch-returns-in_err-texts : goal.statements::switch-returns-in_err-texts
statements::switch-returns-in_err-texts g t c = handed_on c.from_residual.ensures.1 (switch_fails c.args.value.now c.args.cases.now c.args.at.now _ _ c.in_err-texts.field-0.0 c.in_err-texts.ensures)

pub statements::switch-returns-in-Some : goal.statements::switch-returns-in-Some
statements::switch-returns-in-Some g t c = switch_picks c.args.value.now c.args.cases.now c.in-Some.inner.now c.args.at.now _ _ _ c.in_ok-texts.texts c.block.result
    (λ matching right. ap (λ t. chosen matching t (cases_tree c.args.cases.now)) (sym (c.first_of.ensures.value ∙ ap first_of c.as_slice.ensures)) ∙ sym (c.in-Some.ensures matching right)) c.in_ok-texts.ensures c.block.ensures

pub statements::switch-returns : goal.statements::switch-returns
statements::switch-returns g t c = switch_none c.args.value.now c.args.cases.now c.args.at.now _ _ c.in_ok-texts.texts
    (λ matching right. ap (λ t. chosen matching t (cases_tree c.args.cases.now)) (sym (c.first_of.ensures.value ∙ ap first_of c.as_slice.ensures)) ∙ sym (c.in-None.ensures matching right)) c.in_ok-texts.ensures

pub statements::module-returns-in_err-names : goal.statements::module-returns-in_err-names
statements::module-returns-in_err-names g t c = handed_on c.from_residual.ensures.1 (module_fails c.args.name.now c.args.inner.now c.args.at.now _ _ c.in_err-names.field-0.0 c.in_err-names.ensures)

pub statements::module-returns-in_err-enter_module : goal.statements::module-returns-in_err-enter_module
statements::module-returns-in_err-enter_module g t c = handed_on c.from_residual-in_err-enter_module.ensures.1
    (memory_after flow_of value _ (args_at c.args.name.now c.args.at.now) _ _ c.enter_module.new.world c.in_ok-names.names fault.OutOfMemory c.in_ok-names.ensures c.in_err-enter_module.ensures.err refl)

pub statements::module-leave-requires : goal.statements::module-leave-requires
statements::module-leave-requires g t c = may_leave _ _ c.deeper-ended.ensures.stays c.in_ok-enter_module.ensures.newer

pub statements::module-returns : goal.statements::module-returns
statements::module-returns g t c = module_does c.args.name.now c.args.inner.now c.args.at.now _ _ c.in_ok-names.names _ _ _ c.deeper-ended.result c.in_ok-names.ensures
    (c.in_ok-enter_module.ensures.ok ∙ ap (λ n. rescoped (enter n) c.args-2.new.world) (c.first_of.ensures.value ∙ ap first_of c.as_slice.ensures)) c.deeper-ended.ensures c.leave.ensures

pub statements::on_form-returns-in_err-targets : goal.statements::on_form-returns-in_err-targets
statements::on_form-returns-in_err-targets g t c = handed_on c.from_residual.ensures.1 (on_fails c.args.target.now c.args.stmt.now c.args.at.now _ _ c.in_err-targets.field-0.0 c.in_err-targets.ensures)

pub statements::on_form-returns-in_err-enter_target : goal.statements::on_form-returns-in_err-enter_target
statements::on_form-returns-in_err-enter_target g t c = handed_on c.from_residual-in_err-enter_target.ensures.1
    (memory_after flow_of value _ (arg_at c.args.target.now c.args.at.now) _ _ c.enter_target.new.world c.in_ok-targets.targets fault.OutOfMemory c.in_ok-targets.ensures c.in_err-enter_target.ensures.err refl)

pub statements::on_form-leave-requires : goal.statements::on_form-leave-requires
statements::on_form-leave-requires g t c = may_leave _ _ c.started-ended.ensures.stays c.in_ok-enter_target.ensures.newer

pub statements::on_form-returns : goal.statements::on_form-returns
statements::on_form-returns g t c = on_does c.args.target.now c.args.stmt.now c.args.at.now _ _ c.in_ok-targets.targets _ _ _ c.started-ended.result c.in_ok-targets.ensures
    (c.in_ok-enter_target.ensures.ok ∙ ap (λ ts. on_entered ts c.arg.new.world) c.as_slice.ensures) c.started-ended.ensures c.leave.ensures

pub statements::called-returns-in_err-_value : goal.statements::called-returns-in_err-_value
statements::called-returns-in_err-_value g t c = handed_on c.from_residual.ensures.1 (called_fails c.args.head.now c.args.given.now c.args.at.now _ _ c.in_err-_value.field-0.0 c.in_err-_value.ensures)

pub statements::called-returns : goal.statements::called-returns
statements::called-returns g t c = called_ends c.args.head.now c.args.given.now c.args.at.now _ _ c.in_ok-_value._value c.in_ok-_value.ensures

-- ---- arguments

pub arguments::arg-returns-in-Word : goal.arguments::arg-returns-in-Word
arguments::arg-returns-in-Word g t c = arg_word c.args.arg.now c.in-Word.one c.args.at.now _ c.word.result (ap arg_tree c.in-Word.is) c.word.ensures

pub arguments::arg-returns-in-Bracket : goal.arguments::arg-returns-in-Bracket
arguments::arg-returns-in-Bracket g t c =
    arg_bracket c.args.arg.now _ c.args.at.now _ _ c.bracket.result (ap arg_tree c.in-Bracket.is) (does_at value (λ i. bracket_at i c.args.at.now) c.deref.result.now c.in-Bracket.inner.value _ _ c.bracket.result c.deref.ensures c.bracket.ensures)

pub arguments::bracket-returns-then-at-eq0 : goal.arguments::bracket-returns-then-at-eq0
arguments::bracket-returns-then-at-eq0 g t c = bracket_deep c.args.inner.now c.args.at.now _ c.fault.result c.if-at-eq0.true c.fault.ensures

pub arguments::bracket-returns : goal.arguments::bracket-returns
arguments::bracket-returns g t c = bracket_opens c.args.inner.now c.args.at.now (record c.args.at.now { levels = c.args.at.now.levels - 1 }) _ _ c.inside.result (some_left _ c.if-at-eq0.false) refl c.inside.ensures

pub arguments::inside-returns-in-Call : goal.arguments::inside-returns-in-Call
arguments::inside-returns-in-Call g t c = inside_by c.args.inner.now _ c.args.at.now _ _ c.call_of.result (ap inner_tree c.in-Call.is ∙ call_is c.in-Call.head c.in-Call.lists)
    (does_at value (λ l. call_of_at c.in-Call.head l c.args.at.now) c.deref.result.now c.in-Call.lists.items _ _ c.call_of.result c.deref.ensures.value c.call_of.ensures)

pub arguments::inside-returns-in-On : goal.arguments::inside-returns-in-On
arguments::inside-returns-in-On g t c = inside_by c.args.inner.now _ c.args.at.now _ _ c.on_inside.result (ap inner_tree c.in-On.is)
    (does_at value (λ i. on_inner_at c.in-On.target i c.args.at.now) c.deref-in-On.result.now c.in-On.inner.value _ _ c.on_inside.result c.deref-in-On.ensures c.on_inside.ensures)

pub arguments::inside-returns-in-OnReturn : goal.arguments::inside-returns-in-OnReturn
arguments::inside-returns-in-OnReturn g t c = inside_by c.args.inner.now _ c.args.at.now _ _ c.on_return.result (ap inner_tree c.in-OnReturn.is ∙ on_return_is c.in-OnReturn.target c.in-OnReturn.value)
    (does_at value (λ l. on_return_at c.in-OnReturn.target l c.args.at.now) c.deref-in-OnReturn.result.now c.in-OnReturn.value.items _ _ c.on_return.result c.deref-in-OnReturn.ensures.value c.on_return.ensures)

pub arguments::on_inside-returns-then-nested-eq0 : goal.arguments::on_inside-returns-then-nested-eq0
arguments::on_inside-returns-then-nested-eq0 g t c = out_of_memory value (on_inner_at c.args.target.now c.args.inner.now c.args.at.now) _ _ (stays_same _)

pub arguments::on_inside-returns-in_err-targets : goal.arguments::on_inside-returns-in_err-targets
arguments::on_inside-returns-in_err-targets g t c = handed_on c.from_residual.ensures.1 (on_inner_fails c.args.target.now c.args.inner.now c.args.at.now _ _ c.in_err-targets.field-0.0 c.in_err-targets.ensures)

pub arguments::on_inside-returns-in_err-enter_target : goal.arguments::on_inside-returns-in_err-enter_target
arguments::on_inside-returns-in_err-enter_target g t c = handed_on c.from_residual-in_err-enter_target.ensures.1
    (memory_after value value (on_inner_at c.args.target.now c.args.inner.now c.args.at.now) (arg_at c.args.target.now c.args.at.now) _ _ c.enter_target.new.world c.in_ok-targets.targets fault.OutOfMemory
    c.in_ok-targets.ensures c.in_err-enter_target.ensures.err refl)

pub arguments::on_inside-returns : goal.arguments::on_inside-returns
arguments::on_inside-returns g t c = on_inner_does c.args.target.now c.args.inner.now c.args.at.now _ _ c.in_ok-targets.targets _ _ _ c.inside-ended.result
    c.in_ok-targets.ensures (by_texts on_entered _ _ _ c.in_ok-targets.targets c.in_ok-enter_target.ensures.ok c.as_slice.ensures) c.inside-ended.ensures c.leave.ensures

pub arguments::on_inside-leave-requires : goal.arguments::on_inside-leave-requires
arguments::on_inside-leave-requires g t c = may_leave _ _ c.inside-ended.ensures.stays c.in_ok-enter_target.ensures.newer

pub arguments::on_return-returns-in_err-targets : goal.arguments::on_return-returns-in_err-targets
arguments::on_return-returns-in_err-targets g t c = handed_on c.from_residual.ensures.1 (on_return_fails c.args.target.now c.args.list.now c.args.at.now _ _ c.in_err-targets.field-0.0 c.in_err-targets.ensures)

pub arguments::on_return-returns-in_err-enter_target : goal.arguments::on_return-returns-in_err-enter_target
arguments::on_return-returns-in_err-enter_target g t c = handed_on c.from_residual-in_err-enter_target.ensures.1
    (memory_after value value (on_return_at c.args.target.now c.args.list.now c.args.at.now) (arg_at c.args.target.now c.args.at.now) _ _ c.enter_target.new.world c.in_ok-targets.targets fault.OutOfMemory
    c.in_ok-targets.ensures c.in_err-enter_target.ensures.err refl)

pub arguments::on_return-returns : goal.arguments::on_return-returns
arguments::on_return-returns g t c = on_return_does c.args.target.now c.args.list.now c.args.at.now _ _ c.in_ok-targets.targets _ _ _ c.args-ended.result
    c.in_ok-targets.ensures (by_texts on_entered _ _ _ c.in_ok-targets.targets c.in_ok-enter_target.ensures.ok c.as_slice.ensures) c.args-ended.ensures c.leave.ensures

pub arguments::on_return-leave-requires : goal.arguments::on_return-leave-requires
arguments::on_return-leave-requires g t c = may_leave _ _ c.args-ended.ensures.stays c.in_ok-enter_target.ensures.newer

pub arguments::args-returns-in-Some : goal.arguments::args-returns-in-Some
arguments::args-returns-in-Some g t c = args_word c.args.args.now c.in-Some.only.now c.args.at.now _ c.word.result c.in-Some.ensures c.word.ensures

pub arguments::args-each-init : goal.arguments::args-each-init
arguments::args-each-init g t c = leads_at (args_at c.args.args.now c.args.at.now) (λ l. args_rest l c.args.args.now c.args.at.now) c.new-gathered.result [] _ _ c.new-gathered.ensures
    (leads_same (args_at c.args.args.now c.args.at.now) (args_rest [] c.args.args.now c.args.at.now) _ (λ setting is. refl))

pub arguments::args-returns-in_err-value : goal.arguments::args-returns-in_err-value
arguments::args-returns-in_err-value g t c = handed_on c.from_residual.ensures.1 (args_arg_fails _ c.each.gathered _ c.one-item.result _ c.args.at.now _ _ _ c.in_err-value.field-0.0
    (next_item c.args.args.now c.each.one-index c.one-item.result c.each-test.true c.one-item.is) c.each.invariant c.in_err-value.ensures)

pub arguments::args-returns-in_err-join_at : goal.arguments::args-returns-in_err-join_at
arguments::args-returns-in_err-join_at g t c = handed_on c.from_residual-in_err-join_at.ensures.1
    (args_step_fails _ c.each.gathered _ c.one-item.result _ c.in_ok-value.value _ c.args.at.now _ _ _ (λ (u : Unit {0}). c.join_at.new.gathered) c.in_err-join_at.field-0.0
    (next_item c.args.args.now c.each.one-index c.one-item.result c.each-test.true c.one-item.is) c.as_slice.ensures c.each.invariant c.in_ok-value.ensures c.in_err-join_at.ensures)

pub arguments::args-each-preserved : goal.arguments::args-each-preserved
arguments::args-each-preserved g t c = args_step_goes _ c.each.gathered _ c.one-item.result _ c.in_ok-value.value _ c.args.at.now _ _ _ (λ (u : Unit {0}). c.join_at.new.gathered) tt
    (next_item c.args.args.now c.each.one-index c.one-item.result c.each-test.true c.one-item.is) c.as_slice.ensures c.each.invariant c.in_ok-value.ensures c.in_ok-join_at.ensures

pub arguments::args-returns : goal.arguments::args-returns
arguments::args-returns g t c =
    gives_at value (args_at c.args.args.now c.args.at.now) _ _ c.into_list.result c.each.gathered c.into_list.ensures.value (args_end _ c.each.gathered _ c.args.at.now _ _ (drop_all c.each.one-index c.args.args.now (omega arith)) c.each.invariant)

pub arguments::lists-each-init : goal.arguments::lists-each-init
arguments::lists-each-init g t c =
    leads_at (lists_at c.args.lists.now c.args.at.now) (λ l. lists_rest l c.args.lists.now c.args.at.now) c.new-made.result [] _ _ c.new-made.ensures (lists_begin c.args.lists.now c.args.at.now _)

pub arguments::lists-returns-in_err-value : goal.arguments::lists-returns-in_err-value
arguments::lists-returns-in_err-value g t c = handed_on c.from_residual.ensures.1 (lists_list_fails _ c.each.made _ c.list-item.result c.deref.result.now _ c.args.at.now _ _ _ c.in_err-value.field-0.0
    (next_item c.args.lists.now c.each.list-index c.list-item.result c.each-test.true c.list-item.is) c.deref.ensures.value c.each.invariant c.in_err-value.ensures)

pub arguments::lists-returns-in_err-push : goal.arguments::lists-returns-in_err-push
arguments::lists-returns-in_err-push g t c =
    handed_on c.from_residual-in_err-push.ensures.1 (memory_in values (lists_at c.args.lists.now c.args.at.now) _ _ fault.OutOfMemory (stays_then _ _ _ c.each.invariant.stays c.in_ok-value.ensures.stays) refl)

pub arguments::lists-each-preserved : goal.arguments::lists-each-preserved
arguments::lists-each-preserved g t c = lists_goes _ c.each.made c.push.new.self c.in_ok-value.value _ c.list-item.result c.deref.result.now _ c.args.at.now _ _ _
    (next_item c.args.lists.now c.each.list-index c.list-item.result c.each-test.true c.list-item.is) c.deref.ensures.value c.in_ok-push.ensures.ok c.each.invariant c.in_ok-value.ensures

pub arguments::lists-returns : goal.arguments::lists-returns
arguments::lists-returns g t c = lists_end _ c.each.made _ c.args.at.now _ _ (drop_all c.each.list-index c.args.lists.now (omega arith)) c.each.invariant

-- ---- calls

pub calls::call_of-returns-in_err-names : goal.calls::call_of-returns-in_err-names
calls::call_of-returns-in_err-names g t c = handed_on c.from_residual.ensures.1 (call_of_head_fails c.args.head.now c.args.given.now c.args.at.now _ _ c.in_err-names.field-0.0 c.in_err-names.ensures)

pub calls::call_of-returns-in_err-values : goal.calls::call_of-returns-in_err-values
calls::call_of-returns-in_err-values g t c =
    handed_on c.from_residual-in_err-values.ensures.1 (call_of_lists_fail c.args.head.now c.args.given.now c.args.at.now _ _ _ c.in_ok-names.names c.in_err-values.field-0.0 c.in_ok-names.ensures c.in_err-values.ensures)

pub calls::call_of-returns : goal.calls::call_of-returns
calls::call_of-returns g t c = call_of_calls c.args.head.now c.args.given.now c.args.at.now _ _ _ _ c.in_ok-names.names c.in_ok-values.values c.call_head.result c.in_ok-names.ensures c.in_ok-values.ensures
    (does_at value (λ names. call_head_at names c.in_ok-values.values c.args.at.now) c.as_slice.result.now c.in_ok-names.names _ _ c.call_head.result c.as_slice.ensures c.call_head.ensures)

pub calls::call_head-returns-in_err-named_call : goal.calls::call_head-returns-in_err-named_call
calls::call_head-returns-in_err-named_call g t c = handed_on c.from_residual.ensures.1 (head_fails named_of c.args.names.now c.args.given c.args.at.now _ c.in_err-named_call.field-0.0 c.in_err-named_call.ensures)

pub calls::call_head-returns-in-None : goal.calls::call_head-returns-in-None
calls::call_head-returns-in-None g t c =
    gives_at value (call_head_at c.args.names.now c.args.given c.args.at.now) _ _ c.new.result [] c.new.ensures (head_none named_of c.args.names.now c.args.given c.args.at.now _ _ c.in_ok-named_call.ensures (ap named_of c.in-None.is))

pub calls::call_head-returns-in-Some : goal.calls::call_head-returns-in-Some
calls::call_head-returns-in-Some g t c =
    head_calls named_of c.args.names.now c.args.given c.in-Some.named.lists c.in-Some.named.name c.args.at.now _ _ _ c.call.result c.in_ok-named_call.ensures (ap named_of c.in-Some.is)
    (does_at value (λ given. call_at c.in-Some.named.name given c.args.at.now) c.as_slice.result.now c.in-Some.named.lists _ _ c.call.result c.as_slice.ensures c.call.ensures)

pub calls::call-returns-in_err-take_turn : goal.calls::call-returns-in_err-take_turn
calls::call-returns-in_err-take_turn g t c = handed_on c.from_residual.ensures.1 (call_ends_early c.args.name.now c.args.given.now c.args.at.now _ c.args.turns.now c.take_turn.new.turns _ _ _ c.in_err-take_turn.field-0.0
    c.in_err-take_turn.ensures.same c.in_err-take_turn.ensures.none c.in_err-take_turn.ensures.fault)

pub calls::call-returns-then-at-eq0 : goal.calls::call-returns-then-at-eq0
calls::call-returns-then-at-eq0 g t c =
    call_ends_deep c.args.name.now c.args.given.now c.args.at.now _ c.args.turns.now c.take_turn.new.turns _ _ _ c.fault.result c.in_ok-take_turn.ensures.ok c.in_ok-take_turn.ensures.budget c.if-at-eq0.true c.fault.ensures

pub calls::call-returns : goal.calls::call-returns
calls::call-returns g t c = call_turned c.args.name.now c.args.given.now c.args.at.now (record c.args.at.now { levels = c.args.at.now.levels - 1 }) _ _ _ c.applied.result
    c.in_ok-take_turn.ensures.ok c.in_ok-take_turn.ensures.budget refl (some_left _ c.if-at-eq0.false) refl c.applied.ensures

pub calls::applied-returns-in_err-rule : goal.calls::applied-returns-in_err-rule
calls::applied-returns-in_err-rule g t c = handed_on_in_call c.from_residual.ensures.1
    (weaker value (applied_at c.args.name.now c.args.given.now c.args.at.now) _ _ (Err fault.OutOfMemory) (memory_in value (applied_at c.args.name.now c.args.given.now c.args.at.now) _ _ fault.OutOfMemory (stays_same _) refl))

pub calls::applied-returns-in-Some : goal.calls::applied-returns-in-Some
calls::applied-returns-in-Some g t c = applied_rule c.in-Some.rule c.args.name.now c.args.given.now c.args.at.now _ _ c.ruled.result (sym c.in_ok-rule.ensures ∙ c.in-Some.is) c.ruled.ensures

pub calls::applied-returns-in-None : goal.calls::applied-returns-in-None
calls::applied-returns-in-None g t c = applied_none c.args.name.now c.args.given.now c.args.at.now _ _ c.unruled.result (sym c.in_ok-rule.ensures ∙ c.in-None.is) c.unruled.ensures

pub calls::ruled-returns-in_err-value : goal.calls::ruled-returns-in_err-value
calls::ruled-returns-in_err-value g t c = handed_on_in_call c.from_residual.ensures.1 (ruled_fails c.args.rule.now c.args.name.now c.args.given.now c.args.at.now _ _ c.in_err-value.field-0.0 c.in_err-value.ensures)

pub calls::ruled-returns-in_err-_recorded : goal.calls::ruled-returns-in_err-_recorded
calls::ruled-returns-in_err-_recorded g t c = handed_on_in_call c.from_residual-in_err-_recorded.ensures.1
    (ruled_untold c.args.rule.now c.args.name.now c.args.given.now c.args.at.now _ _ _ c.in_ok-value.value c.in_err-_recorded.field-0.0 c.in_ok-value.ensures (c.in_err-_recorded.ensures _ _))

pub calls::ruled-returns : goal.calls::ruled-returns
calls::ruled-returns g t c = ruled_ends c.args.rule.now c.args.name.now c.args.given.now c.args.at.now _ _ _ c.in_ok-value.value _ c.in_ok-value.ensures (c.in_ok-_recorded.ensures _ _)

pub calls::unruled-returns-in_err-record_call : goal.calls::unruled-returns-in_err-record_call
calls::unruled-returns-in_err-record_call g t c =
    handed_on_in_call c.from_residual.ensures.1 (unruled_untold c.args.name.now c.args.given.now c.args.at.now _ _ c.in_err-record_call.field-0.0 (c.in_err-record_call.ensures _ _))

pub calls::unruled-returns-then-branch : goal.calls::unruled-returns-then-branch
calls::unruled-returns-then-branch g t c =
    gives_in_call value (unruled_at c.args.name.now c.args.given.now c.args.at.now) _ _ c.new.result [] c.new.ensures (unruled_recorded c.args.name.now c.args.given.now c.args.at.now _ _ _ c.if-branch.true (c.in_ok-record_call.ensures _ _))

pub calls::unruled-returns-in_err-step : goal.calls::unruled-returns-in_err-step
calls::unruled-returns-in_err-step g t c =
    handed_on_in_call c.from_residual-in_err-step.ensures.1 (unruled_fails c.args.name.now c.args.given.now c.args.at.now _ _ _ _ c.in_err-step.field-0.0 c.if-branch.false refl (c.in_ok-record_call.ensures _ _) (c.in_err-step.ensures _))

pub calls::unruled-returns : goal.calls::unruled-returns
calls::unruled-returns g t c =
    unruled_steps c.args.name.now c.args.given.now c.args.at.now _ _ _ _ _ c.in_ok-step.step c.stepped.result c.if-branch.false refl (c.in_ok-record_call.ensures _ _) (c.in_ok-step.ensures _) c.stepped.ensures

-- ---- what natives ask for

pub calls::stepped-returns-in-Unknown : goal.calls::stepped-returns-in-Unknown
calls::stepped-returns-in-Unknown g t c =
    does_at value (λ st. stepped_at st c.args.name.now c.args.at.now) steps.Unknown c.args.step _ _ (Err c.unknown_rule.result) (sym c.in-Unknown.is) (stepped_unknown c.args.name.now c.args.at.now _ c.unknown_rule.result c.unknown_rule.ensures)

pub calls::stepped-returns-in-Value : goal.calls::stepped-returns-in-Value
calls::stepped-returns-in-Value g t c =
    does_at value (λ st. stepped_at st c.args.name.now c.args.at.now) (steps.Value c.in-Value.value) c.args.step _ _ (Ok c.in-Value.value) (sym c.in-Value.is) (stepped_value c.in-Value.value c.args.name.now c.args.at.now _)

pub calls::stepped-returns-in-Exit : goal.calls::stepped-returns-in-Exit
calls::stepped-returns-in-Exit g t c =
    does_at value (λ st. stepped_at st c.args.name.now c.args.at.now) (steps.Exit c.in-Exit.text) c.args.step _ _ (Err c.fault.result) (sym c.in-Exit.is) (stepped_exit c.in-Exit.text c.args.name.now c.args.at.now _ c.fault.result c.fault.ensures)

pub calls::stepped-returns-in-Each-default-default-true : goal.calls::stepped-returns-in-Each-default-default-true
calls::stepped-returns-in-Each-default-default-true g t c =
    stepped_filters c.args.step c.in-Each-default-default-true.rule c.in-Each-default-default-true.items c.in-Each-default-default-true.filter c.as_slice.result.now c.as_slice-in-Each-default-default-true.result.now c.args.name.now c.args.at.now _ _
    c.filtered.result c.in-Each-default-default-true.is c.in-Each-default-default-true.filter-test c.as_slice.ensures c.as_slice-in-Each-default-default-true.ensures c.filtered.ensures

pub calls::stepped-returns-in-Each-default-default-false : goal.calls::stepped-returns-in-Each-default-default-false
calls::stepped-returns-in-Each-default-default-false g t c =
    stepped_transforms c.args.step c.in-Each-default-default-false.rule c.in-Each-default-default-false.items c.in-Each-default-default-false.filter c.as_slice-in-Each-default-default-false.result.now c.as_slice-in-Each-default-default-false-2.result.now c.args.name.now c.args.at.now _ _
    c.transformed.result c.in-Each-default-default-false.is c.in-Each-default-default-false.filter-test c.as_slice-in-Each-default-default-false.ensures c.as_slice-in-Each-default-default-false-2.ensures c.transformed.ensures

pub calls::transformed-each-init : goal.calls::transformed-each-init
calls::transformed-each-init g t c =
    leads_at (transformed_at c.args.rule.now c.args.items.now c.args.at.now) (λ l. transformed_rest c.args.rule.now l c.args.items.now c.args.at.now) c.new-gathered.result [] _ _ c.new-gathered.ensures
    (leads_same (transformed_at c.args.rule.now c.args.items.now c.args.at.now) (transformed_rest c.args.rule.now [] c.args.items.now c.args.at.now) _ (λ setting is. refl))

pub calls::transformed-returns-in_err-value : goal.calls::transformed-returns-in_err-value
calls::transformed-returns-in_err-value g t c = handed_on c.from_residual.ensures.1 (transformed_fails _ c.args.rule.now c.each.gathered _ c.item-item.result _ c.args.at.now _ _ _ c.in_err-value.field-0.0
    (next_item c.args.items.now c.each.item-index c.item-item.result c.each-test.true c.item-item.is) c.each.invariant c.in_err-value.ensures)

pub calls::transformed-returns-in_err-join_at : goal.calls::transformed-returns-in_err-join_at
calls::transformed-returns-in_err-join_at g t c = handed_on c.from_residual-in_err-join_at.ensures.1
    (transformed_step_fails _ c.args.rule.now c.each.gathered _ c.item-item.result _ c.in_ok-value.value _ c.args.at.now _ _ _ (λ (u : Unit {0}). c.join_at.new.gathered) c.in_err-join_at.field-0.0
    (next_item c.args.items.now c.each.item-index c.item-item.result c.each-test.true c.item-item.is) c.as_slice.ensures c.each.invariant c.in_ok-value.ensures c.in_err-join_at.ensures)

pub calls::transformed-each-preserved : goal.calls::transformed-each-preserved
calls::transformed-each-preserved g t c = transformed_step_goes _ c.args.rule.now c.each.gathered _ c.item-item.result _ c.in_ok-value.value _ c.args.at.now _ _ _ (λ (u : Unit {0}). c.join_at.new.gathered) tt
    (next_item c.args.items.now c.each.item-index c.item-item.result c.each-test.true c.item-item.is) c.as_slice.ensures c.each.invariant c.in_ok-value.ensures c.in_ok-join_at.ensures

pub calls::transformed-returns : goal.calls::transformed-returns
calls::transformed-returns g t c = gives_at value (transformed_at c.args.rule.now c.args.items.now c.args.at.now) _ _ c.into_list.result c.each.gathered c.into_list.ensures.value
    (transformed_end _ c.args.rule.now c.each.gathered _ c.args.at.now _ _ (drop_all c.each.item-index c.args.items.now (omega arith)) c.each.invariant)

pub calls::filtered-each-init : goal.calls::filtered-each-init
calls::filtered-each-init g t c = leads_at (filtered_at c.args.rule.now c.args.items.now c.args.at.now) (λ l. filtered_rest c.args.rule.now l c.args.items.now c.args.at.now) c.new-kept.result [] _ _ c.new-kept.ensures
    (filtered_begin c.args.rule.now c.args.items.now c.args.at.now _)

pub calls::filtered-returns-in_err-value : goal.calls::filtered-returns-in_err-value
calls::filtered-returns-in_err-value g t c = handed_on c.from_residual.ensures.1 (filtered_fails _ c.args.rule.now c.each.kept _ c.item-item.result _ c.args.at.now _ _ _ c.in_err-value.field-0.0
    (next_item c.args.items.now c.each.item-index c.item-item.result c.each-test.true c.item-item.is) c.each.invariant c.in_err-value.ensures)

pub calls::filtered-returns-in_err-keep_if : goal.calls::filtered-returns-in_err-keep_if
calls::filtered-returns-in_err-keep_if g t c =
    handed_on c.from_residual-in_err-keep_if.ensures.1 (memory_in value (filtered_at c.args.rule.now c.args.items.now c.args.at.now) _ _ fault.OutOfMemory (stays_then _ _ _ c.each.invariant.stays c.in_ok-value.ensures.stays) refl)

pub calls::filtered-each-preserved : goal.calls::filtered-each-preserved
calls::filtered-each-preserved g t c = filtered_step_goes _ c.args.rule.now c.each.kept c.keep_if.new.kept _ c.item-item.result _ c.in_ok-value.value _ c.is_true.result c.args.at.now _ _ _
    (next_item c.args.items.now c.each.item-index c.item-item.result c.each-test.true c.item-item.is) c.as_slice.ensures c.is_true.ensures c.in_ok-keep_if.ensures c.each.invariant c.in_ok-value.ensures

pub calls::filtered-returns : goal.calls::filtered-returns
calls::filtered-returns g t c = filtered_end _ c.args.rule.now c.each.kept _ c.args.at.now _ _ (drop_all c.each.item-index c.args.items.now (omega arith)) c.each.invariant

pub calls::bracket_call-returns-then-at-eq0 : goal.calls::bracket_call-returns-then-at-eq0
calls::bracket_call-returns-then-at-eq0 g t c = bracket_call_deep c.args.rule.now c.args.item.now c.args.at.now _ c.fault.result c.if-at-eq0.true c.fault.ensures

pub calls::bracket_call-returns-in_err-given : goal.calls::bracket_call-returns-in_err-given
calls::bracket_call-returns-in_err-given g t c = handed_on c.from_residual.ensures.1 (memory_in value (bracket_call_at c.args.rule.now c.args.item.now c.args.at.now) _ _ fault.OutOfMemory (stays_same _) refl)

pub calls::bracket_call-returns : goal.calls::bracket_call-returns
calls::bracket_call-returns g t c =
    bracket_call_opens c.args.rule.now c.args.item.now c.args.at.now (record c.args.at.now { levels = c.args.at.now.levels - 1 }) _ _ c.call_head.result (some_left _ c.if-at-eq0.false) refl
    (does_at value (λ given. call_head_at c.args.rule.now given (record c.args.at.now { levels = c.args.at.now.levels - 1 })) c.in_ok-given.given ((c.args.item.now ∷ []) ∷ []) _ _ c.call_head.result c.in_ok-given.ensures c.call_head.ensures)

-- ---- a rule that runs

pub calls::run_rule-leave-requires : goal.calls::run_rule-leave-requires
calls::run_rule-leave-requires g t c = may_leave _ _ c.stmts-ended.ensures.stays c.in_ok-enter_call.ensures.newer

pub calls::run_rule-returns-in_err-bindings : goal.calls::run_rule-returns-in_err-bindings
calls::run_rule-returns-in_err-bindings g t c = handed_on c.from_residual.ensures.1 (memory_in value (run_rule_at c.args.rule.now c.args.name.now c.args.given.now c.args.at.now) _ _ fault.OutOfMemory (stays_same _) refl)

pub calls::run_rule-returns-in_default : goal.calls::run_rule-returns-in_default
calls::run_rule-returns-in_default g t c = rule_arity c.args.rule.now c.args.name.now c.args.given.now c.args.at.now _ c.arity.result
    (found_binds c.args.rule.now c.body.result.now c.params.result.now c.args.given.now _ c.body.ensures c.params.ensures c.in_ok-bindings.ensures ∙ ap (option_map (λ (made : Vec Bound Global). bindings_of made.items)) c.in_default.is)
    c.arity.ensures

pub calls::run_rule-returns-in_err-enter_call : goal.calls::run_rule-returns-in_err-enter_call
calls::run_rule-returns-in_err-enter_call g t c =
    handed_on c.from_residual-in_err-enter_call.ensures.1 (memory_here value (run_rule_at c.args.rule.now c.args.name.now c.args.given.now c.args.at.now) _ c.enter_call.new.world fault.OutOfMemory c.in_err-enter_call.ensures.err refl)

pub calls::run_rule-returns : goal.calls::run_rule-returns
calls::run_rule-returns g t c =
    rule_does c.args.rule.now c.args.name.now c.args.given.now c.args.at.now c.body.result.now c.params.result.now c.in_ok-bindings.field-0 c.in-Some.bindings c.in-Some.bindings.items c.home.result.now c.body-block.result.now c.block.result.now c.as_slice.result.now c.path.result.now
    (machine c.args.world.now c.args.turns.now (g.N.Natives.kept c.args.natives.now) (g.N.Natives.meaning c.args.natives.now) (g.F.Files.outside c.args.files.now)) c.enter_call.new.world
    (machine c.stmts-ended.new.world c.stmts-ended.new.turns (g.N.Natives.kept c.stmts-ended.new.natives) (g.N.Natives.meaning c.stmts-ended.new.natives) (g.F.Files.outside c.stmts-ended.new.files)) c.leave.new.self
    c.stmts-ended.result c.value_of.result
    c.body.ensures c.params.ensures c.in_ok-bindings.ensures c.in-Some.is refl c.home.ensures c.body-block.ensures c.block.ensures c.as_slice.ensures.value c.path.ensures
    c.in_ok-enter_call.ensures.ok c.stmts-ended.ensures c.leave.ensures c.value_of.ensures
