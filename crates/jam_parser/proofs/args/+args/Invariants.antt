use Rattle.std.proofs.Common.{◌∷◌, [], length, ◌+◌, ◌-◌, ◌*◌}
use Rattle.jam_grammar.specs.Spelling.{args_syms, lists_syms}
use Rattle.jam_grammar.specs.Grammar.{Args, More}
use Rattle.jam_parser.specs.PartReadings.{ComesTo}
use Rattle.jam_parser.proofs.args.+args.Given as goal

abbrev pub decreases-arg : goal.decreases-arg
decreases-arg l = 8 * (64 - l.depth)

abbrev pub decreases-args : goal.decreases-args
decreases-args l = 8 * (64 - l.depth) + 1

abbrev pub decreases-lists : goal.decreases-lists
decreases-lists l = 8 * (64 - l.depth) + 2

abbrev pub decreases-call_inside : goal.decreases-call_inside
decreases-call_inside l = 8 * (64 - l.depth) + 3

abbrev pub decreases-inside : goal.decreases-inside
decreases-inside l = 8 * (64 - l.depth) + 4

abbrev pub decreases-bracket : goal.decreases-bracket
decreases-bracket l = 8 * (63 - l.depth) + 7

abbrev pub decreases-on_inside : goal.decreases-on_inside
decreases-on_inside l = 8 * (64 - l.depth) + 5

abbrev pub invariant-args-each : goal.invariant-args-each
invariant-args-each l = ComesTo (Args ∷ []) (Args ∷ []) l.rest l.depth (args_syms l.found.items) l.left

abbrev pub decreases-args-each : goal.decreases-args-each
decreases-args-each l = length l.left

abbrev pub invariant-lists-colon : goal.invariant-lists-colon
invariant-lists-colon l = ComesTo (Args ∷ More 8 ∷ []) (More (9 - length l.found.items) ∷ []) l.rest l.depth (lists_syms l.found.items) l.left

abbrev pub decreases-lists-colon : goal.decreases-lists-colon
decreases-lists-colon l = length l.left
