use Rattle.std.proofs.Common.{◌+◌, rules}
use Rattle.b2_drill.specs.Drills.{round_of, rounds}
use Rattle.b2_drill.proofs.EachStepAddsOnePiece.{grows, rounds_grow}
use Rattle.b2_drill.proofs.drill.push_rounds.Goals as goal

pub loop-done-init : goal.loop-done-init
unfolding rounds
loop-done-init c = search rules

pub loop-done-preserved : goal.loop-done-preserved
loop-done-preserved c = grows _ _ c.args.events.now (rounds c.args.n c.loop-done.done) (round_of c.args.n (c.loop-done.done + 1)) _ c.loop-done.invariant c.in_ok-push_round.ensures (rounds_grow c.args.n c.loop-done.done)
