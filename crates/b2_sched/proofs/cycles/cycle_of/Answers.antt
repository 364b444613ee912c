use Rattle.std.proofs.Common.{List, ℕ, subst}
use Rattle.b2_sched.specs.Cycles.{IsWalkOf}
use Rattle.b2_sched.proofs.WalkComesToTheCycle.{cycle_is}
use Rattle.b2_sched.proofs.cycles.cycle_of.Goals as goal

pub returns-in_ok-list-in-Some : goal.returns-in_ok-list-in-Some
returns-in_ok-list-in-Some c =
    cycle_is c.args.flags.now c.args.dependents.now c.in_ok-next-in-Some.next.items c.in-Some.first c.in_ok-list-in-Some.list.items c.in_ok-next-in-Some.ensures c.requires.each c.in-Some.ensures
    (subst (λ (next : List ℕ). IsWalkOf next c.in-Some.first c.in_ok-list-in-Some.list.items) c.deref.ensures.value c.in_ok-list-in-Some.ensures)
