use Rattle.jam_engine.proofs.Looks.{none_found}
use Rattle.jam_engine.proofs.looking.unseen.Goals as goal

pub returns : goal.returns
returns c stands = record { index = c.requires.index; roots = c.in_ok-roots.ensures; found = none_found c.args.graph.now stands _ c.new.ensures }
