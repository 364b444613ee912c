use Rattle.std.proofs.Common.{arith, ap, ◌∙◌, ◌++◌}
use Rattle.std.proofs.lemmas.List.{take_all}
use Rattle.std.specs.List.{flat_map}
use Rattle.jam_printer.specs.Lexemes.{written_as}
use Rattle.jam_printer.proofs.PartsAreWrittenInTurn.{further_params_flat, params_after_colon}
use Rattle.jam_printer.proofs.params.push_further.Goals as goal

pub returns : goal.returns
returns c =
    rw (further_params_flat c.args.lists.now)
    (c.loop-list.invariant ∙ ap (λ l. c.args.lexemes.now.items ++ written_as (flat_map params_after_colon l)) (take_all c.loop-list.list-index c.args.lists.now (omega arith)))
