use Rattle.std.proofs.Common.{subst}
use Rattle.std.specs.List.{Contains}
use Rattle.b2_reach.proofs.MakersAreSteps.{maker_scheduled}
use Rattle.b2_reach.proofs.reach.Reach.is_due.Goals as goal

pub any_settled-requires-clause-numbers : goal.any_settled-requires-clause-numbers
any_settled-requires-clause-numbers c n among =
    let order = c.requires.in_order in
    order.numbered n (order.pending n (subst (λ l. Contains l n) c.as_slice-else-self-as_slice.ensures among))

pub any_settled-requires-clause-steps : goal.any_settled-requires-clause-steps
any_settled-requires-clause-steps c n file maker among at made = maker_scheduled c.args.plan.now c.args.sched.now c.args.facts.now n file maker c.requires.about c.requires.schedule at made
