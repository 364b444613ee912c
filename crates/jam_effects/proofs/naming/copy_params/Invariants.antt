use Rattle.std.proofs.Common.{◌≡◌, take}
use Rattle.jam_grammar.specs.Trees.{lists_of}
use Rattle.jam_effects.proofs.naming.copy_params.Given as goal

abbrev pub invariant-loop-list : goal.invariant-loop-list
invariant-loop-list l = lists_of l.made.items ≡ lists_of (take l.list-index l.params)
