use Rattle.std.proofs.Common.{◌≡◌, ◌++◌, take}
use Rattle.std.specs.List.{flat_map}
use Rattle.jam_printer.proofs.PartsAreWrittenInTurn.{params_after_colon}
use Rattle.jam_printer.specs.Lexemes.{written_as}
use Rattle.jam_printer.proofs.params.push_further.Given as goal

abbrev pub invariant-loop-list : goal.invariant-loop-list
invariant-loop-list l = l.lexemes.items ≡ l.fn.lexemes.items ++ written_as (flat_map params_after_colon (take l.list-index l.lists))
