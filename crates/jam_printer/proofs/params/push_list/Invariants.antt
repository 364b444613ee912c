use Rattle.std.proofs.Common.{◌≡◌, ◌++◌, take}
use Rattle.std.specs.List.{flat_map}
use Rattle.jam_grammar.specs.Spelling.{param_syms}
use Rattle.jam_printer.specs.Lexemes.{written_as}
use Rattle.jam_printer.proofs.params.push_list.Given as goal

abbrev pub invariant-loop-param : goal.invariant-loop-param
invariant-loop-param l = l.lexemes.items ≡ l.fn.lexemes.items ++ written_as (flat_map param_syms (take l.param-index l.params))
