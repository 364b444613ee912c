use Rattle.std.proofs.Common.{◌≡◌, ◌++◌, ◌+◌, ◌*◌, take}
use Rattle.std.specs.List.{flat_map}
use Rattle.jam_grammar.specs.declared.tree.Block.{out-Block}
use Rattle.jam_grammar.specs.Spelling.{stmt_syms, case_syms}
use Rattle.jam_grammar.proofs.tree.Block.TheLaws as block
use Rattle.jam_grammar.proofs.tree.Case.TheLaws as case
use Rattle.jam_grammar.proofs.tree.Stmt.TheLaws as stmt
use denote.Param.Weighed.{most}
use Rattle.jam_printer.specs.Lexemes.{written_as}
use Rattle.jam_printer.proofs.stmts.+stmts.Given as goal

abbrev pub invariant-push_stmts-loop-stmt : goal.invariant-push_stmts-loop-stmt
invariant-push_stmts-loop-stmt l = l.lexemes.items ≡ l.fn.lexemes.items ++ written_as (flat_map stmt_syms (take l.stmt-index (out-Block l.block).stmts.items))

abbrev pub invariant-push_cases-loop-case : goal.invariant-push_cases-loop-case
invariant-push_cases-loop-case l = l.lexemes.items ≡ l.fn.lexemes.items ++ written_as (flat_map case_syms (take l.case-index l.cases))

-- a statement goes to what stands in it, and each helper to less than its caller
abbrev pub decreases-push_stmts : goal.decreases-push_stmts
decreases-push_stmts l = 4 * goal.size-push_stmts l

abbrev pub decreases-push_stmt : goal.decreases-push_stmt
decreases-push_stmt l = 4 * goal.size-push_stmt l

abbrev pub decreases-push_block : goal.decreases-push_block
decreases-push_block l = 4 * goal.size-push_block l + 1

abbrev pub decreases-push_if : goal.decreases-push_if
decreases-push_if l = 4 * block.the_size l.block.now + 2

abbrev pub decreases-push_for : goal.decreases-push_for
decreases-push_for l = 4 * block.the_size l.block.now + 2

abbrev pub decreases-push_while : goal.decreases-push_while
decreases-push_while l = 4 * block.the_size l.block.now + 2

abbrev pub decreases-push_module : goal.decreases-push_module
decreases-push_module l = 4 * block.the_size l.block.now + 2

abbrev pub decreases-push_rule : goal.decreases-push_rule
decreases-push_rule l = 4 * block.the_size l.block.now + 2

abbrev pub decreases-push_on : goal.decreases-push_on
decreases-push_on l = 4 * stmt.the_size l.stmt.now + 1

abbrev pub decreases-push_other : goal.decreases-push_other
decreases-push_other l = 4 * goal.size-push_other l + 3

abbrev pub decreases-push_case : goal.decreases-push_case
decreases-push_case l = 4 * goal.size-push_case l + 1

abbrev pub decreases-push_cases : goal.decreases-push_cases
decreases-push_cases l = 4 * goal.size-push_cases l + 2

abbrev pub decreases-push_switch : goal.decreases-push_switch
decreases-push_switch l = 4 * most (λ c. case.the_size c) l.cases.now + 3

abbrev pub decreases-push_else_if : goal.decreases-push_else_if
decreases-push_else_if l = 4 * goal.size-push_else_if l + 1
