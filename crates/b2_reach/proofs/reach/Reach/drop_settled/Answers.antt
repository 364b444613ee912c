use Rattle.std.proofs.Common.{subst, sym}
use Rattle.std.specs.List.{Contains}
use Rattle.b2_sched.specs.Schedules.{IsSettled}
use Rattle.b2_reach.proofs.MakersAreSteps.{maker_scheduled}
use Rattle.b2_reach.proofs.PendingComesIn.{dropped_in_order}
use Rattle.b2_reach.proofs.reach.Reach.drop_settled.Goals as goal

pub still_waiting-requires-clause-numbers : goal.still_waiting-requires-clause-numbers
still_waiting-requires-clause-numbers c n among =
    let order = c.requires.in_order in
    order.numbered n (order.pending n (subst (λ l. Contains l n) c.as_slice.ensures among))

pub still_waiting-requires-clause-steps : goal.still_waiting-requires-clause-steps
still_waiting-requires-clause-steps c n file maker among at made = maker_scheduled c.args.plan.now c.args.sched.now c.args.facts.now n file maker c.requires.about c.requires.schedule at made

pub returns-clause-in_order : goal.returns-clause-in_order
returns-clause-in_order c =
    let settled = IsSettled c.args.sched.now in
    let facts = c.args.facts.now in
    dropped_in_order c.args.plan.now.steps settled facts c.args.self.now c.in_ok-kept.kept c.requires.in_order c.requires.done
    (λ n among. let is = c.in_ok-kept.ensures.each n among in (subst (λ l. Contains l n) c.as_slice.ensures is.0, is.1))
    (λ n among. c.in_ok-kept.ensures.whole n (subst (λ l. Contains l n) (sym c.as_slice.ensures) among))

pub returns-clause-waiting : goal.returns-clause-waiting
returns-clause-waiting c n among = (c.in_ok-kept.ensures.each n among).1
