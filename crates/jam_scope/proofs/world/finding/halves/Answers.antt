use Rattle.jam_scope.proofs.ParentLinesAlwaysEnd.{halves_of}
use Rattle.jam_scope.proofs.world.finding.halves.Goals as goal

pub returns : goal.returns
returns c = halves_of c.args.name.now c.split_once.result c.split_once.ensures.cases
