use Rattle.std.proofs.Common.{◌-◌, ◌^◌, vec_len}
use Rattle.b2_generators.proofs.LayersAreFoundInOrder.{HasSearched}
use Rattle.b2_generators.proofs.layers.layers.Given as goal

abbrev pub invariant-loop-from : goal.invariant-loop-from
invariant-loop-from l = HasSearched l.generators l.set l.fn.to l.from l.layers.items l.layer l.givers

abbrev pub decreases-loop-from : goal.decreases-loop-from
decreases-loop-from l = 2 ^ 64 - vec_len l.layers
