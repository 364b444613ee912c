use Rattle.std.proofs.Common.{◌∙◌, not, get_or, ap, below_more, arith}
use Rattle.b2_explain.proofs.ChecksAreTold.{gone_here, gone_none, stamp_seen_so, stamp_unseen}
use Rattle.b2_explain.proofs.checks.is_first_gone.Goals as goal

pub returns-then-is_none : goal.returns-then-is_none
returns-then-is_none c =
    let f = c.args.facts.now in
    let i = c.loop-number.number-index in
    gone_here f c.args.outs.now c.args.path.now i c.path.result.now c.eq.result c.loop-number-test.true (stamp_unseen f (get_or c.args.outs.now i 0) c.stamp_seen.result c.stamp_seen.ensures (c.is_none.ensures ∙ ap not c.if-is_none.true)) c.loop-number.invariant c.path.ensures c.eq.ensures

pub loop-number-preserved : goal.loop-number-preserved
loop-number-preserved c = below_more _ _ c.loop-number.invariant (stamp_seen_so c.args.facts.now (get_or c.args.outs.now c.loop-number.number-index 0) c.stamp_seen.result c.stamp_seen.ensures (c.is_none.ensures ∙ ap not c.if-is_none.false))

pub returns : goal.returns
returns c = (
    let past = c.loop-number-test.false in
    gone_none c.args.facts.now c.args.outs.now c.args.path.now (λ k low. c.loop-number.invariant k (omega (arith, low, past))))
