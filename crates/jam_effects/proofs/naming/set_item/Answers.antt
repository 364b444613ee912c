use Rattle.jam_effects.proofs.ChangesKeepTheFrames.{same_either}
use Rattle.jam_effects.proofs.naming.set_item.Goals as goal

pub returns-clause-same : goal.returns-clause-same
returns-clause-same c = same_either c.set.result _ _ c.args.world.now c.set.new.self c.set.ensures.ok c.set.ensures.err
