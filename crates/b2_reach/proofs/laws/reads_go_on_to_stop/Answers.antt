use Rattle.b2_reach.proofs.ReadsGoOn.{reads_go_on_to_stop}
use Rattle.b2_reach.proofs.laws.reads_go_on_to_stop.Goals as goal

pub returns : goal.returns
returns c = reads_go_on_to_stop
