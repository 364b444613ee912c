use Rattle.std.proofs.Common.{length, ap, ◌∙◌, arith}
use Rattle.jam_grammar.specs.declared.tree.Block.{out-Block}
use Rattle.jam_grammar.proofs.TreesAreThoseOfElements.{switch_is}
use Rattle.jam_grammar.specs.Spelling.{spell_form, stmt_syms, stmts_syms, case_syms, cases_syms, form_syms}
use Rattle.jam_printer.proofs.PartsAreWrittenInTurn.{at_end, block_holds, stmts_flat, cases_flat}
use Rattle.jam_printer.proofs.stmts.+stmts.Goals as goal

pub push_stmts-returns : goal.push_stmts-returns
push_stmts-returns t c =
    rw (block_holds c.args.block.now)
    (at_end stmt_syms stmts_syms (out-Block c.args.block.now).stmts.items c.loop-stmt.stmt-index _ _ (omega (arith, ap length c.deref-stmt-items.ensures.value)) (stmts_flat (out-Block c.args.block.now).stmts.items) c.loop-stmt.invariant)

pub push_cases-returns : goal.push_cases-returns
push_cases-returns t c = at_end case_syms cases_syms c.args.cases.now c.loop-case.case-index _ _ (omega arith) (cases_flat c.args.cases.now) c.loop-case.invariant

pub push_stmt-returns-in-Switch : goal.push_stmt-returns-in-Switch
push_stmt-returns-in-Switch t c =
    rw (ap form_syms c.in-Switch.is ∙ ap spell_form (switch_is c.in-Switch.value c.in-Switch.cases))
    (rw (c.deref-in-Switch.ensures.value, c.deref-in-Switch-2.ensures.value) at c.push_switch.ensures)
