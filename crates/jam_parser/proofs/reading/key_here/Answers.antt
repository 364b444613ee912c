use Rattle.jam_parser.proofs.ArgumentsAreReadInTurn.{key_reads}
use Rattle.jam_parser.proofs.reading.key_here.Goals as goal

pub returns-in-Some : goal.returns-in-Some
returns-in-Some c = key_reads c.args.want c.args.rest.now c.in-Some.after.now c.args.depth c.in-Some.ensures
