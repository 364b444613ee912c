use Rattle.std.proofs.Common.{get_or, refl, arith}
use Rattle.std.proofs.lemmas.List.Elements.{Contains-get_or}
use Rattle.b2_sched.proofs.WalkComesToTheCycle.{pointed_more}
use Rattle.b2_sched.proofs.cycles.point.Goals as goal

pub index_mut-requires : goal.index_mut-requires
index_mut-requires c =
    let within = c.requires (get_or c.args.dependents.now c.loop-dependent.dependent-index 0) (Contains-get_or c.args.dependents.now c.loop-dependent.dependent-index 0 c.loop-dependent-test.true) in
    omega (arith, within, c.loop-dependent.invariant.size)

pub loop-dependent-preserved : goal.loop-dependent-preserved
loop-dependent-preserved c =
    pointed_more c.args.dependents.now c.loop-dependent.dependent-index c.args.number c.args.next.now.items c.loop-dependent.next.items _ c.loop-dependent-test.true
    (c.requires (get_or c.args.dependents.now c.loop-dependent.dependent-index 0) (Contains-get_or c.args.dependents.now c.loop-dependent.dependent-index 0 c.loop-dependent-test.true)) refl c.loop-dependent.invariant
