use Rattle.std.proofs.Common.{reverse, refl}
use Rattle.b2_alternatives.specs.Picking.{seen}
use Rattle.b2_generate.specs.Machine.{standing_of}
use Rattle.b2_generate.specs.ToldOutcomes.{loaded_of}
use Rattle.b2_generate.proofs.EarlyExitGivesTheFault.{exit_is, none_made, is_refused, same_left, out_left}
use Rattle.b2_generate.proofs.StepsAreThoseDefined.{grows_none, finishes}
use Rattle.b2_generate.proofs.making.finish.Goals as goal

pub supplies_of-requires : goal.supplies_of-requires
supplies_of-requires g c = c.requires

pub returns-in_err-supplied-clause-made : goal.returns-in_err-supplied-clause-made
returns-in_err-supplied-clause-made g c = λ told is. none_made c.from_residual.result _ _ (exit_is c.from_residual.result _ c.from_residual.ensures.1)

pub returns-in_err-supplied-clause-refused : goal.returns-in_err-supplied-clause-refused
returns-in_err-supplied-clause-refused g c = λ told is.
    is_refused g.E.Evaluate.is_host_fault g.E.Evaluate.is_out_of_memory _ c.from_residual.result _ (exit_is c.from_residual.result _ c.from_residual.ensures.1) (record {})

pub returns-in_err-supplied-clause-set : goal.returns-in_err-supplied-clause-set
returns-in_err-supplied-clause-set g c = none_made c.from_residual.result _ _ (exit_is c.from_residual.result _ c.from_residual.ensures.1)

pub returns-in_err-supplied-clause-grows : goal.returns-in_err-supplied-clause-grows
returns-in_err-supplied-clause-grows g c = grows_none c.args.roots.now c.args.builder.now

pub returns-in_err-supplied-clause-leaves : goal.returns-in_err-supplied-clause-leaves
returns-in_err-supplied-clause-leaves g c =
    out_left g.E.Evaluate.answers g.E.Evaluate.kept g.E.Evaluate.faults g.E.Evaluate.is_host_fault g.E.Evaluate.is_out_of_memory g.E.Evaluate.CanFault c.args.evaluator.now c.args.evaluator.now
    c.from_residual.result (exit_is c.from_residual.result _ c.from_residual.ensures.1) refl refl

pub steps_of-requires : goal.steps_of-requires
steps_of-requires g c = c.in_ok-supplied.ensures

pub returns-in_err-supply-clause-made : goal.returns-in_err-supply-clause-made
returns-in_err-supply-clause-made g c = λ told is.
    none_made c.from_residual-in_err-supply.result _ _ (exit_is c.from_residual-in_err-supply.result _ c.from_residual-in_err-supply.ensures.1)

pub returns-in_err-supply-clause-refused : goal.returns-in_err-supply-clause-refused
returns-in_err-supply-clause-refused g c = λ told is.
    is_refused g.E.Evaluate.is_host_fault g.E.Evaluate.is_out_of_memory _ c.from_residual-in_err-supply.result c.in_err-supply.field-0.0
    (exit_is c.from_residual-in_err-supply.result _ c.from_residual-in_err-supply.ensures.1) (c.in_err-supply.ensures.refused told is)

pub returns-in_err-supply-clause-set : goal.returns-in_err-supply-clause-set
returns-in_err-supply-clause-set g c = none_made c.from_residual-in_err-supply.result _ _ (exit_is c.from_residual-in_err-supply.result _ c.from_residual-in_err-supply.ensures.1)

pub returns-in_err-supply-clause-grows : goal.returns-in_err-supply-clause-grows
returns-in_err-supply-clause-grows g c = c.in_err-supply.ensures.grows

pub returns-in_err-supply-clause-leaves : goal.returns-in_err-supply-clause-leaves
returns-in_err-supply-clause-leaves g c =
    same_left g.E.Evaluate.answers g.E.Evaluate.kept g.E.Evaluate.faults g.E.Evaluate.is_host_fault g.E.Evaluate.is_out_of_memory g.E.Evaluate.CanFault c.args.evaluator.now c.steps_of.new.evaluator
    c.from_residual-in_err-supply.result c.in_err-supply.field-0.0 (exit_is c.from_residual-in_err-supply.result _ c.from_residual-in_err-supply.ensures.1) c.in_err-supply.ensures.leaves

pub returns-in_err-usage-clause-made : goal.returns-in_err-usage-clause-made
returns-in_err-usage-clause-made g c = λ told is. none_made c.from_residual-in_err-usage.result _ _ (exit_is c.from_residual-in_err-usage.result _ c.from_residual-in_err-usage.ensures.1)

pub returns-in_err-usage-clause-refused : goal.returns-in_err-usage-clause-refused
returns-in_err-usage-clause-refused g c = λ told is.
    is_refused g.E.Evaluate.is_host_fault g.E.Evaluate.is_out_of_memory _ c.from_residual-in_err-usage.result _ (exit_is c.from_residual-in_err-usage.result _ c.from_residual-in_err-usage.ensures.1) (record {})

pub returns-in_err-usage-clause-set : goal.returns-in_err-usage-clause-set
returns-in_err-usage-clause-set g c = none_made c.from_residual-in_err-usage.result _ _ (exit_is c.from_residual-in_err-usage.result _ c.from_residual-in_err-usage.ensures.1)

pub returns-in_err-usage-clause-grows : goal.returns-in_err-usage-clause-grows
returns-in_err-usage-clause-grows g c = c.in_ok-supply.ensures.grows

pub returns-in_err-usage-clause-leaves : goal.returns-in_err-usage-clause-leaves
returns-in_err-usage-clause-leaves g c =
    out_left g.E.Evaluate.answers g.E.Evaluate.kept g.E.Evaluate.faults g.E.Evaluate.is_host_fault g.E.Evaluate.is_out_of_memory g.E.Evaluate.CanFault c.args.evaluator.now c.steps_of.new.evaluator
    c.from_residual-in_err-usage.result (exit_is c.from_residual-in_err-usage.result _ c.from_residual-in_err-usage.ensures.1) c.in_ok-supply.ensures.leaves.same_answers c.in_ok-supply.ensures.leaves.same_kept

pub returns-clause-made : goal.returns-clause-made
returns-clause-made g c = λ told is.
    finishes (loaded_of c.args.index.now c.args.roots.now told) (seen c.args.frame.now.name c.args.frame.now.chosen) (standing_of (reverse c.args.nodes.now) c.args.frame.now) c.args.builder.now c.steps_of.new.builder
    c.in_ok-supply.supply c.in_ok-usage.usage c.in_ok-supplied.supplied.set (c.in_ok-supply.ensures.made told is) c.in_ok-supplied.ensures.set c.in_ok-usage.ensures

pub returns-clause-set : goal.returns-clause-set
returns-clause-set g c = c.in_ok-supplied.ensures.is_set

pub returns-clause-grows : goal.returns-clause-grows
returns-clause-grows g c = c.in_ok-supply.ensures.grows

pub returns-clause-leaves : goal.returns-clause-leaves
returns-clause-leaves g c = record {
  same_answers = c.in_ok-supply.ensures.leaves.same_answers;
  same_kept = c.in_ok-supply.ensures.leaves.same_kept;
  counted = c.in_ok-supply.ensures.leaves.counted;
  known = record {};
}
