use Rattle.std.proofs.lemmas.Bool.{iff_false}
use Rattle.b2_refine.proofs.LastRoundsDecide.{two_settled, two_unstable}
use Rattle.b2_refine.proofs.evaluate.evaluate.Goals as goal

pub returns-then-equals-clause-settled : goal.returns-then-equals-clause-settled
returns-then-equals-clause-settled g c = λ told e.
    two_settled told c.args.registry.now c.args.request.now c.args.required.now c.in_ok-two.two.first c.in_ok-two.two.second (c.in_ok-two.ensures.told told e) (c.equals.ensures.0 c.if-equals.true)

pub returns-clause-unstable : goal.returns-clause-unstable
returns-clause-unstable g c = λ told e.
    two_unstable told c.args.registry.now c.args.request.now c.args.required.now c.in_ok-two.two.first c.in_ok-two.two.second (c.in_ok-two.ensures.told told e) (iff_false c.equals.ensures c.if-equals.false)
