use Rattle.jam_parser.proofs.ArgumentsAreReadInTurn.{body_reads}
use Rattle.jam_parser.proofs.reading.body_here.Goals as goal

pub returns-in_ok-copy-in-Some : goal.returns-in_ok-copy-in-Some
returns-in_ok-copy-in-Some c =
    let at = c.in-Some in
    body_reads at.first.now c.args.rest.now at.after.now c.in_ok-copy-in-Some.field-0 c.args.depth at.ensures.0 at.ensures.1 c.in_ok-copy-in-Some.ensures
