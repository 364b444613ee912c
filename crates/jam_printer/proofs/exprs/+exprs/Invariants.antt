use Rattle.std.proofs.Common.{◌≡◌, ◌++◌, ◌+◌, ◌*◌, take}
use Rattle.std.specs.List.{flat_map}
use Rattle.jam_printer.proofs.PartsAreWrittenInTurn.{after_mark}
use Rattle.jam_printer.specs.Lexemes.{written_as}
use Rattle.jam_printer.proofs.exprs.+exprs.Given as goal

abbrev pub invariant-push_after-loop-member : goal.invariant-push_after-loop-member
invariant-push_after-loop-member l = l.lexemes.items ≡ l.fn.lexemes.items ++ written_as (flat_map (after_mark l.joint) (take l.member-index l.members))

abbrev pub decreases-push_expr : goal.decreases-push_expr
decreases-push_expr l = 4 * goal.size-push_expr l

abbrev pub decreases-push_member : goal.decreases-push_member
decreases-push_member l = 4 * goal.size-push_member l + 1

abbrev pub decreases-push_after : goal.decreases-push_after
decreases-push_after l = 4 * goal.size-push_after l + 2

abbrev pub decreases-push_members : goal.decreases-push_members
decreases-push_members l = 4 * goal.size-push_members l + 3
