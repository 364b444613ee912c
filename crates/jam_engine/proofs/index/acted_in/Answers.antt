use Rattle.jam_engine.proofs.SetsGrow.{none_in}
use Rattle.jam_engine.proofs.index.acted_in.Goals as goal

pub loop-act-init : goal.loop-act-init
loop-act-init c t = none_in _ t c.new-set.ensures
