use Rattle.std.proofs.Common.{◌∷◌, [], length}
use Rattle.jam_grammar.specs.Grammar.{Params}
use Rattle.jam_parser.specs.PartReadings.{ComesTo}
use Rattle.jam_parser.specs.Params.{after_list, params_read}
use Rattle.jam_grammar.specs.Trees.{lists_of}
use Rattle.jam_parser.proofs.params.params.Given as goal

abbrev pub invariant-colon : goal.invariant-colon
invariant-colon l = ComesTo (Params ∷ []) (after_list l.last) l.rest l.depth (params_read (lists_of l.found.items)) l.left

abbrev pub decreases-colon : goal.decreases-colon
decreases-colon l = length l.left
