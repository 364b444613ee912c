use Rattle.jam_effects.proofs.ChangesKeepTheFrames.{same_assigned}
use Rattle.jam_effects.proofs.naming.set_name.Goals as goal

pub returns-in_ok-put_name-in-Set-clause-same : goal.returns-in_ok-put_name-in-Set-clause-same
returns-in_ok-put_name-in-Set-clause-same c = same_assigned _ _ c.args.world.now c.put_name.new.world c.in_ok-put_name-in-Set.ensures.ok

pub returns-in_ok-put_name-in-Fill-clause-same : goal.returns-in_ok-put_name-in-Fill-clause-same
returns-in_ok-put_name-in-Fill-clause-same c = same_assigned _ _ c.args.world.now c.put_name-in-Fill.new.world c.in_ok-put_name-in-Fill.ensures.ok
