use Rattle.std.proofs.Common.{ap, ◌∙◌, arith}
use Rattle.std.specs.FinMap.{insert}
use Rattle.b2_plan.proofs.MakersGrowByOne.{one_out}
use Rattle.b2_plan.proofs.makers.add_outs.Goals as goal

pub loop-out-preserved : goal.loop-out-preserved
loop-out-preserved c =
    one_out c.loop-out.makers c.insert.new.self c.args.makers.now c.args.number c.args.outs.now c.loop-out.out-index c.out-item.result (omega (arith, c.loop-out-test.true)) (c.in_ok-insert.ensures.ok ∙ ap (λ t. insert c.loop-out.makers t c.args.number) c.out-item.is) c.loop-out.invariant
