use Rattle.b2_declared.proofs.PlaceHoldsWhatWasRead.{visit_read}
use Rattle.b2_declared.proofs.visit.visit_of.Goals as goal

pub returns : goal.returns
returns c = visit_read c.args.visits.now c.args.call.now _ c.requires c.index-visits-call.is
