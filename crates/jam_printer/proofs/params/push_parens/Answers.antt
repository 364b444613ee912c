use Rattle.std.proofs.Common.{map}
use Rattle.std.proofs.lemmas.List.{append_assoc}
use Rattle.jam_printer.proofs.PartsAreWrittenInTurn.{params_are}
use Rattle.jam_printer.proofs.params.push_parens.Goals as goal

pub returns : goal.returns
returns c =
    rw (params_are c.args.first.now (map (λ list. list.items) c.args.more.now))
    (simp (c.in_ok-push_further.ensures, c.in_ok-push_list.ensures, c.in_ok-push_key.ensures, append_assoc) at c.push_key-2.ensures)
