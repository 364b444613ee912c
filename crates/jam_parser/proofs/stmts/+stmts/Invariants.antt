use Rattle.std.proofs.Common.{◌∷◌, [], length, ◌+◌, ◌-◌, ◌*◌}
use Rattle.jam_grammar.specs.Spelling.{stmts_syms, cases_syms}
use Rattle.jam_grammar.specs.Grammar.{Stmts, Cases}
use Rattle.jam_parser.specs.PartReadings.{ComesTo}
use Rattle.jam_parser.proofs.stmts.+stmts.Given as goal

abbrev pub decreases-block : goal.decreases-block
decreases-block l = 16 * (64 - l.depth) + 0

abbrev pub decreases-braces : goal.decreases-braces
decreases-braces l = 16 * (64 - l.depth) + 1

abbrev pub decreases-while_form : goal.decreases-while_form
decreases-while_form l = 16 * (64 - l.depth) + 1

abbrev pub decreases-module_form : goal.decreases-module_form
decreases-module_form l = 16 * (64 - l.depth) + 1

abbrev pub decreases-for_rest : goal.decreases-for_rest
decreases-for_rest l = 16 * (64 - l.depth) + 1

abbrev pub decreases-for_form : goal.decreases-for_form
decreases-for_form l = 16 * (64 - l.depth) + 2

abbrev pub decreases-else_tail : goal.decreases-else_tail
decreases-else_tail l = 16 * (64 - l.depth) + 1

abbrev pub decreases-other : goal.decreases-other
decreases-other l = 16 * (64 - l.depth) + 2

abbrev pub decreases-branches : goal.decreases-branches
decreases-branches l = 16 * (64 - l.depth) + 3

abbrev pub decreases-if_form : goal.decreases-if_form
decreases-if_form l = 16 * (64 - l.depth) + 4

abbrev pub decreases-else_if : goal.decreases-else_if
decreases-else_if l = 16 * (64 - l.depth) + 5

abbrev pub decreases-case_block : goal.decreases-case_block
decreases-case_block l = 16 * (64 - l.depth) + 0

abbrev pub decreases-switch_form : goal.decreases-switch_form
decreases-switch_form l = 16 * (64 - l.depth) + 1

abbrev pub decreases-with_params : goal.decreases-with_params
decreases-with_params l = 16 * (64 - l.depth) + 1

abbrev pub decreases-rule_tail : goal.decreases-rule_tail
decreases-rule_tail l = 16 * (64 - l.depth) + 2

abbrev pub decreases-rule_form : goal.decreases-rule_form
decreases-rule_form l = 16 * (64 - l.depth) + 3

abbrev pub decreases-form : goal.decreases-form
decreases-form l = 16 * (64 - l.depth) + 5

abbrev pub decreases-stmt : goal.decreases-stmt
decreases-stmt l = 16 * (64 - l.depth) + 6

abbrev pub decreases-stmts : goal.decreases-stmts
decreases-stmts l = 16 * (64 - l.depth) + 7

abbrev pub decreases-on_form : goal.decreases-on_form
decreases-on_form l = 16 * (64 - l.depth) + 7

abbrev pub decreases-one_case : goal.decreases-one_case
decreases-one_case l = 16 * (64 - l.depth) + 8

abbrev pub decreases-cases : goal.decreases-cases
decreases-cases l = 16 * (64 - l.depth) + 9

abbrev pub invariant-stmts-each : goal.invariant-stmts-each
invariant-stmts-each l = ComesTo (Stmts ∷ []) (Stmts ∷ []) l.rest l.depth (stmts_syms l.found.items) l.left

abbrev pub decreases-stmts-each : goal.decreases-stmts-each
decreases-stmts-each l = length l.left

abbrev pub invariant-cases-each : goal.invariant-cases-each
invariant-cases-each l = ComesTo (Cases ∷ []) (Cases ∷ []) l.rest l.depth (cases_syms l.found.items) l.left

abbrev pub decreases-cases-each : goal.decreases-cases-each
decreases-cases-each l = length l.left
