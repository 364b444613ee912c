use Rattle.jam_parser.proofs.ArgumentsAreReadInTurn.{word_reads, no_word}
use Rattle.jam_parser.proofs.reading.word_here.Goals as goal

pub returns-in_ok-copy-in-Some : goal.returns-in_ok-copy-in-Some
returns-in_ok-copy-in-Some c =
    let at = c.in-Some in
    word_reads at.first.now c.args.rest.now at.after.now c.in_ok-copy-in-Some.field-0 c.args.depth at.ensures.0 at.ensures.1 c.in_ok-copy-in-Some.ensures

pub returns-in-None : goal.returns-in-None
returns-in-None c = no_word c.args.rest.now c.args.depth c.in-None.ensures
