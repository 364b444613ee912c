use Rattle.b2_virtual.proofs.MapHoldsExactlyTheOutputs.{first_spot}
use Rattle.b2_virtual.proofs.builder.Builder.find.Goals as goal

pub find_by_output-requires : goal.find_by_output-requires
find_by_output-requires c = first_spot c.args.step.now.outs c.args.spots.now c.first-item.result c.requires c.in-len1-up.len_at_least c.first-item.is
