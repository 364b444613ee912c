use Rattle.std.proofs.Common.{◌≡◌, ◌++◌, ◌+◌, ◌*◌, take}
use Rattle.std.specs.List.{flat_map}
use Rattle.jam_grammar.specs.Spelling.{arg_syms}
use Rattle.jam_printer.proofs.PartsAreWrittenInTurn.{after_colon}
use Rattle.jam_printer.specs.Lexemes.{written_as}
use Rattle.jam_printer.proofs.args.+args.Given as goal

abbrev pub invariant-push_args-loop-arg : goal.invariant-push_args-loop-arg
invariant-push_args-loop-arg l = l.lexemes.items ≡ l.fn.lexemes.items ++ written_as (flat_map arg_syms (take l.arg-index l.args))

abbrev pub invariant-push_further-loop-list : goal.invariant-push_further-loop-list
invariant-push_further-loop-list l = l.lexemes.items ≡ l.fn.lexemes.items ++ written_as (flat_map after_colon (take l.list-index l.lists))

abbrev pub decreases-push_arg : goal.decreases-push_arg
decreases-push_arg l = 4 * goal.size-push_arg l

abbrev pub decreases-push_inner : goal.decreases-push_inner
decreases-push_inner l = 4 * goal.size-push_inner l

abbrev pub decreases-push_args : goal.decreases-push_args
decreases-push_args l = 4 * goal.size-push_args l + 1

abbrev pub decreases-push_further : goal.decreases-push_further
decreases-push_further l = 4 * goal.size-push_further l + 2

abbrev pub decreases-push_lists : goal.decreases-push_lists
decreases-push_lists l = 4 * goal.size-push_lists l + 3
