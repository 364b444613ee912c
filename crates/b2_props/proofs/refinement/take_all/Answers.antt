use Rattle.std.proofs.Common.{is_some}
use Rattle.std.specs.FinMap as map
use Rattle.b2_props.proofs.CompletionGrowsPairByPair.{taken_more}
use Rattle.b2_props.proofs.refinement.take_all.Goals as goal

pub loop-pair-preserved : goal.loop-pair-preserved
loop-pair-preserved c =
    taken_more c.loop-pair.taken c.insert.new.self c.in_ok-copy.field-0 _ (λ q. is_some (map.get c.args.taken.now q)) c.args.pairs.now c.loop-pair.pair-index c.pair-item.result c.loop-pair-test.true c.pair-item.is c.in_ok-copy.ensures c.in_ok-_before.ensures.ok
    c.loop-pair.invariant
