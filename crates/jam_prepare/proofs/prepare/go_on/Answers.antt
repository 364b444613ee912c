use Rattle.std.proofs.Common.{Result, Err, IfOk, refl, sym, subst}
use Rattle.b2_plan.specs.declared.plan.Plan.{Plan}
use Rattle.jam_graph.specs.declared.fault.JamFault.{JamFault}
use Rattle.jam_graph.specs.declared.graph.Graph.{Graph}
use Rattle.jam_graph.specs.Graphs.{IsReady}
use Rattle.jam_prepare.specs.Parts.{GoesOn}
use Rattle.jam_prepare.proofs.prepare.go_on.Goals as goal

pub plan_in-requires : goal.plan_in-requires
plan_in-requires g c = subst (λ (r : Result Graph JamFault). IfOk r IsReady) c.in-Ok.is c.requires

pub returns-in-Ok : goal.returns-in-Ok
returns-in-Ok g c =
    subst (λ (r : Result Graph JamFault). GoesOn c.args.words.now r (g.F.Files.outside c.args.files.now) (g.F.Files.outside c.plan_in.new.files) c.plan_in.result) (sym c.in-Ok.is) c.plan_in.ensures

pub returns-in-Err : goal.returns-in-Err
returns-in-Err g c =
    let host = g.F.Files.outside c.args.files.now in
    let refused : Result Plan JamFault = Err c.in-Err.fault in
    subst (λ (r : Result Graph JamFault). GoesOn c.args.words.now r host host refused) (sym c.in-Err.is) (refl, refl)
