use Rattle.std.specs.Borrow.{Bor}
use Rattle.b2_declared.specs.declared.place.Target.{Target}
use Rattle.b2_references.proofs.LoopsTakeOneMore.{first_here, first_not_here}
use Rattle.b2_references.proofs.lookups.first_of_targets.Goals as goal

pub returns-then-not-is_empty : goal.returns-then-not-is_empty
returns-then-not-is_empty c =
    first_here (λ (t : Bor Target). t.now.defaults) c.args.targets.now c.loop-target.target-index c.target-item.result c.as_slice-defaults.result.now c.is_empty.result c.loop-target-test.true c.target-item.is c.as_slice-defaults.ensures c.is_empty.ensures
    c.if-not-is_empty.true c.loop-target.invariant

pub loop-target-preserved : goal.loop-target-preserved
loop-target-preserved c =
    first_not_here (λ (t : Bor Target). t.now.defaults) c.args.targets.now c.loop-target.target-index c.target-item.result c.as_slice-defaults.result.now c.is_empty.result c.loop-target-test.true c.target-item.is c.as_slice-defaults.ensures c.is_empty.ensures
    c.if-not-is_empty.false c.loop-target.invariant
