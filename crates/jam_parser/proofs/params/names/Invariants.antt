use Rattle.std.proofs.Common.{◌≡◌, ◌∷◌, [], false, length, flat_map}
use Rattle.jam_grammar.specs.Spelling.{param_syms, takes_all}
use Rattle.jam_grammar.specs.Grammar.{Names}
use Rattle.jam_parser.specs.PartReadings.{ComesTo}
use Rattle.jam_parser.specs.Params.{after_name}
use Rattle.jam_parser.proofs.params.names.Given as goal

abbrev pub invariant-each : goal.invariant-each
invariant-each l = record {
  comes : ComesTo (Names ∷ []) (after_name l.may_come) l.rest l.depth (flat_map param_syms l.found.items) l.left;
  named : takes_all l.found.items ≡ false;
}

abbrev pub decreases-each : goal.decreases-each
decreases-each l = length l.left
