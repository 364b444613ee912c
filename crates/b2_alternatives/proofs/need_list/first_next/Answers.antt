use Rattle.std.proofs.Common.{◌∙◌, sym}
use Rattle.b2_alternatives.proofs.FirstUnmetNeedComesNext.{finds_here, finds_none}
use Rattle.b2_alternatives.proofs.need_list.first_next.Goals as goal

pub returns-then-not-is_complete : goal.returns-then-not-is_complete
returns-then-not-is_complete c = λ known are met.
    finds_here known c.args.needs.now c.loop-place.place c.index-needs-place.result c.loop-place-test.true c.index-needs-place.is c.in_ok-next.next (c.loop-place.invariant known are met)
    (c.in_ok-next.ensures known are) (sym c.is_complete.ensures ∙ c.if-not-is_complete.true)

pub returns : goal.returns
returns c = λ known are met. finds_none known c.args.needs.now c.loop-place.place c.loop-place-test.false (c.loop-place.invariant known are met)
