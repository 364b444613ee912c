use Rattle.std.proofs.Common.{◌∙◌, not, get_or, ap, below_more}
use Rattle.b2_explain.proofs.ChecksAreTold.{none_stands, stamp_seen_so, stamp_unseen}
use Rattle.b2_explain.proofs.checks.all_stand.Goals as goal

pub returns-then-is_none : goal.returns-then-is_none
returns-then-is_none c =
    let f = c.args.facts.now in
    let i = c.loop-number.number-index in
    none_stands f c.args.outs.now i c.loop-number-test.true (stamp_unseen f (get_or c.args.outs.now i 0) c.stamp_seen.result c.stamp_seen.ensures (c.is_none.ensures ∙ ap not c.if-is_none.true))

pub loop-number-preserved : goal.loop-number-preserved
loop-number-preserved c = below_more _ _ c.loop-number.invariant (stamp_seen_so c.args.facts.now (get_or c.args.outs.now c.loop-number.number-index 0) c.stamp_seen.result c.stamp_seen.ensures (c.is_none.ensures ∙ ap not c.if-is_none.false))
