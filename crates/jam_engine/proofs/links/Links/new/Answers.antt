use Rattle.std.proofs.Common.{refl}
use Rattle.jam_engine.proofs.MakersGrow.{no_labels_yet}
use Rattle.jam_engine.proofs.links.Links.new.Goals as goal

pub returns : goal.returns
returns c = no_labels_yet c.args.acts.now _ refl c.in_ok-makers.ensures c.new.ensures c.in_ok-labels.ensures.length c.in_ok-labels.ensures.none
