use Rattle.jam_prepare.proofs.prepare.plan_in.Goals as goal

pub returns : goal.returns
returns g c =
    let p = c.jam_plan-planned.ensures in
    record { planned = p.planned; apart = p.apart; whole = p.whole; disk = p.disk; children = p.children; keeps = p.keeps; counts = p.counts }
