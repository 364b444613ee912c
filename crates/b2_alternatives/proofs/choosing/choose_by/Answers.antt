use Rattle.std.proofs.Common.{subst}
use Rattle.b2_alternatives.specs.Picking.{IsSelected}
use Rattle.b2_alternatives.proofs.ChoiceFollowsSettling.{choose_none}
use Rattle.b2_alternatives.proofs.choosing.choose_by.Goals as goal

pub returns-in-Err : goal.returns-in-Err
returns-in-Err g c =
    choose_none g.E.Evaluate.answers g.E.Evaluate.kept g.E.Evaluate.faults g.E.Evaluate.is_host_fault g.E.Evaluate.is_out_of_memory g.E.Evaluate.CanFault c.args.asker.now.index.now c.args.asker.now.evaluator c.args.name.now c.args.set.now c.in-Err.fault
    (subst (IsSelected c.args.asker.now.index.now c.args.name.now c.args.set.now) c.in-Err.is c.select.ensures)

pub settle_on-requires-clause-selected : goal.settle_on-requires-clause-selected
settle_on-requires-clause-selected g c = subst (IsSelected c.args.asker.now.index.now c.args.name.now c.args.set.now) c.in-Ok.is c.select.ensures

pub settle_on-requires-clause-numbered : goal.settle_on-requires-clause-numbered
settle_on-requires-clause-numbered g c = c.requires

pub returns-in-Ok : goal.returns-in-Ok
returns-in-Ok g c = c.settle_on.ensures
