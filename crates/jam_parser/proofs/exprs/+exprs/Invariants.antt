use Rattle.std.proofs.Common.{◌∷◌, [], ◌++◌, length, ◌≤◌, ◌+◌, ◌-◌, ◌*◌}
use Rattle.jam_grammar.specs.Spelling.{Key, WithinOr, WithinAnd, expr_syms}
use Rattle.jam_grammar.specs.Grammar.{Both, OrTail, Single, AndTail}
use Rattle.jam_grammar.specs.declared.mark.TokenMark.TheVariants as marks
use Rattle.jam_parser.specs.PartReadings.{Continues}
use Rattle.jam_parser.proofs.MembersMakeTheCondition.{signed}
use Rattle.jam_parser.proofs.exprs.+exprs.Given as goal

abbrev pub decreases-single : goal.decreases-single
decreases-single l = 8 * (64 - l.depth) + 1

abbrev pub decreases-positive : goal.decreases-positive
decreases-positive l = 8 * (64 - l.depth)

abbrev pub decreases-and_rest : goal.decreases-and_rest
decreases-and_rest l = 8 * (64 - l.depth) + 2

abbrev pub decreases-both : goal.decreases-both
decreases-both l = 8 * (64 - l.depth) + 3

abbrev pub decreases-or_rest : goal.decreases-or_rest
decreases-or_rest l = 8 * (64 - l.depth) + 4

abbrev pub decreases-expr : goal.decreases-expr
decreases-expr l = 8 * (64 - l.depth) + 5

abbrev pub decreases-negated : goal.decreases-negated
decreases-negated l = 8 * (64 - l.depth) + 2

abbrev pub decreases-group : goal.decreases-group
decreases-group l = 8 * (63 - l.depth) + 6

abbrev pub invariant-or_rest-each : goal.invariant-or_rest-each
invariant-or_rest-each l = record {
  some : 1 ≤ length l.members.items;
  continues : Continues (expr_syms WithinOr l.fn.first ++ Key marks.Or ∷ []) (Both ∷ OrTail ∷ []) (Both ∷ OrTail ∷ []) l.rest l.depth (signed WithinOr marks.Or l.members.items) l.left;
}

abbrev pub decreases-or_rest-each : goal.decreases-or_rest-each
decreases-or_rest-each l = length l.left

abbrev pub invariant-and_rest-each : goal.invariant-and_rest-each
invariant-and_rest-each l = record {
  some : 1 ≤ length l.members.items;
  continues : Continues (expr_syms WithinAnd l.fn.first ++ Key marks.And ∷ []) (Single ∷ AndTail ∷ []) (Single ∷ AndTail ∷ []) l.rest l.depth (signed WithinAnd marks.And l.members.items) l.left;
}

abbrev pub decreases-and_rest-each : goal.decreases-and_rest-each
decreases-and_rest-each l = length l.left
