use Rattle.b2_alternatives.proofs.RequirementsAskKnownRules.{requirements_ask}
use Rattle.b2_alternatives.proofs.ChoiceFollowsSettling.{choose_ok, choose_err}
use Rattle.b2_alternatives.proofs.choosing.settle_on.Goals as goal

pub settle_for-requires-clause-set : goal.settle_for-requires-clause-set
settle_for-requires-clause-set g c = c.requires.selected.is_set

pub settle_for-requires-clause-rules : goal.settle_for-requires-clause-rules
settle_for-requires-clause-rules g c =
    requirements_ask c.args.asker.now.index.now c.args.name.now c.requires.selected.at.place c.args.selected.target.now c.requires.numbered c.requires.selected.at.at

pub returns-in-Err : goal.returns-in-Err
returns-in-Err g c =
    choose_err g.E.Evaluate.answers g.E.Evaluate.kept g.E.Evaluate.faults g.E.Evaluate.is_host_fault g.E.Evaluate.is_out_of_memory g.E.Evaluate.CanFault c.args.asker.now.index.now c.args.asker.now.evaluator c.args.name.now c.args.set.now c.args.selected c.requires.selected c.settle_for.new.asker.evaluator c.settle_for.new.asker.index.now c.settle_for.result c.settle_for.ensures c.in-Err.fault c.in-Err.is

pub returns : goal.returns
returns g c =
    choose_ok g.E.Evaluate.answers g.E.Evaluate.kept g.E.Evaluate.faults g.E.Evaluate.is_host_fault g.E.Evaluate.is_out_of_memory g.E.Evaluate.CanFault c.args.asker.now.index.now c.args.asker.now.evaluator c.args.name.now c.args.set.now c.args.selected c.requires.selected c.settle_for.new.asker.evaluator c.settle_for.new.asker.index.now c.settle_for.result c.settle_for.ensures c.in-Ok.set c.in-Ok.is
