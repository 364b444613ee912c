use Rattle.std.proofs.Common.{Err, sym, subst}
use Rattle.b2_prepare.specs.PlanningParts.{Asks}
use Rattle.b2_prepare.proofs.RequestGetsPlanOrRefusal.{asks_planned, asks_refused}
use Rattle.b2_prepare.proofs.prepare.ask.Goals as goal

pub returns-in-Ok : goal.returns-in-Ok
returns-in-Ok g c =
    asks_planned c.args.words.now c.args.declared.now c.args.world (g.F.Files.outside c.args.files.now) (g.F.Files.outside c.plan_request.new.files) c.in-Ok.request.sets c.in-Ok.request.targets c.plan_request.result
    c.in-Ok.ensures.sets c.in-Ok.ensures.targets c.in-Ok.ensures.sound c.plan_request.ensures

pub returns-in-Err : goal.returns-in-Err
returns-in-Err g c =
    let o = g.F.Files.outside c.args.files.now in
    subst (λ s. Asks c.args.words.now c.args.declared.now c.args.world o o (Err s)) (sym c.not_asked.ensures)
    (asks_refused c.args.words.now c.args.declared.now c.args.world o o c.in-Err.fault c.in-Err.ensures.cause)
