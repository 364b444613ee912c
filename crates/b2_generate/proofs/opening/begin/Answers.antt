use Rattle.std.proofs.Common.{◌≡◌, true, Ok, sym, subst}
use Rattle.b2_props.specs.Sets.{IsSet}
use Rattle.b2_references.specs.Names.{features, is_target}
use Rattle.b2_alternatives.specs.Choosing.{Chooses}
use Rattle.b2_alternatives.specs.Picking.{seen}
use Rattle.b2_generate.specs.Opening.{IsOpened}
use Rattle.b2_generate.proofs.EarlyExitGivesTheFault.{exit_is, none_made, is_refused, same_left, out_left}
use Rattle.b2_generate.proofs.opening.begin.Goals as goal

pub chosen_for-requires : goal.chosen_for-requires
chosen_for-requires g c = c.requires

pub frame_of-requires-clause-set : goal.frame_of-requires-clause-set
frame_of-requires-clause-set g c = subst (λ d. IsSet (features d) c.in_ok-chosen.chosen.set) (sym c.in_ok-chosen.ensures.project) c.in_ok-chosen.ensures.set

pub frame_of-requires-clause-target : goal.frame_of-requires-clause-target
frame_of-requires-clause-target g c = subst (λ d. is_target d c.args.name ≡ true) (sym c.in_ok-chosen.ensures.project) c.in_ok-chosen.ensures.target

pub returns-in_err-chosen-clause-opened : goal.returns-in_err-chosen-clause-opened
returns-in_err-chosen-clause-opened g c = none_made c.from_residual.result _ _ (exit_is c.from_residual.result _ c.from_residual.ensures.1)

pub returns-in_err-chosen-clause-chosen : goal.returns-in_err-chosen-clause-chosen
returns-in_err-chosen-clause-chosen g c = λ told is. none_made c.from_residual.result _ _ (exit_is c.from_residual.result _ c.from_residual.ensures.1)

pub returns-in_err-chosen-clause-refused : goal.returns-in_err-chosen-clause-refused
returns-in_err-chosen-clause-refused g c = λ told is.
    is_refused g.E.Evaluate.is_host_fault g.E.Evaluate.is_out_of_memory _ c.from_residual.result c.in_err-chosen.field-0.0 (exit_is c.from_residual.result _ c.from_residual.ensures.1) (c.in_err-chosen.ensures.refused told is)

pub returns-in_err-chosen-clause-leaves : goal.returns-in_err-chosen-clause-leaves
returns-in_err-chosen-clause-leaves g c =
    same_left g.E.Evaluate.answers g.E.Evaluate.kept g.E.Evaluate.faults g.E.Evaluate.is_host_fault g.E.Evaluate.is_out_of_memory g.E.Evaluate.CanFault c.args.asker.now.evaluator c.chosen_for.new.asker.evaluator
    c.from_residual.result c.in_err-chosen.field-0.0 (exit_is c.from_residual.result _ c.from_residual.ensures.1) c.in_err-chosen.ensures.leaves

pub returns-in_err-chosen-clause-project : goal.returns-in_err-chosen-clause-project
returns-in_err-chosen-clause-project g c = c.in_err-chosen.ensures.project

pub returns-in_err-frame-clause-opened : goal.returns-in_err-frame-clause-opened
returns-in_err-frame-clause-opened g c = none_made c.from_residual-in_err-frame.result _ _ (exit_is c.from_residual-in_err-frame.result _ c.from_residual-in_err-frame.ensures.1)

pub returns-in_err-frame-clause-chosen : goal.returns-in_err-frame-clause-chosen
returns-in_err-frame-clause-chosen g c = λ told is. none_made c.from_residual-in_err-frame.result _ _ (exit_is c.from_residual-in_err-frame.result _ c.from_residual-in_err-frame.ensures.1)

pub returns-in_err-frame-clause-refused : goal.returns-in_err-frame-clause-refused
returns-in_err-frame-clause-refused g c = λ told is.
    is_refused g.E.Evaluate.is_host_fault g.E.Evaluate.is_out_of_memory _ c.from_residual-in_err-frame.result _ (exit_is c.from_residual-in_err-frame.result _ c.from_residual-in_err-frame.ensures.1) (record {})

pub returns-in_err-frame-clause-leaves : goal.returns-in_err-frame-clause-leaves
returns-in_err-frame-clause-leaves g c =
    out_left g.E.Evaluate.answers g.E.Evaluate.kept g.E.Evaluate.faults g.E.Evaluate.is_host_fault g.E.Evaluate.is_out_of_memory g.E.Evaluate.CanFault c.args.asker.now.evaluator c.chosen_for.new.asker.evaluator
    c.from_residual-in_err-frame.result (exit_is c.from_residual-in_err-frame.result _ c.from_residual-in_err-frame.ensures.1) c.in_ok-chosen.ensures.leaves.same_answers c.in_ok-chosen.ensures.leaves.same_kept

pub returns-in_err-frame-clause-project : goal.returns-in_err-frame-clause-project
returns-in_err-frame-clause-project g c = c.in_ok-chosen.ensures.project

pub returns-clause-opened : goal.returns-clause-opened
returns-clause-opened g c = subst (λ d. IsOpened d c.args.name c.args.asked c.args.earliest c.in_ok-frame.frame) c.in_ok-chosen.ensures.project c.in_ok-frame.ensures.opened

pub returns-clause-chosen : goal.returns-clause-chosen
returns-clause-chosen g c = λ told is.
    subst (λ k. Chooses c.args.asker.now.index.now told.returned c.args.name c.args.asked (Ok (seen c.args.name k))) (sym c.in_ok-frame.ensures.chosen) (c.in_ok-chosen.ensures.chosen told is)

pub returns-clause-leaves : goal.returns-clause-leaves
returns-clause-leaves g c = record {
  same_answers = c.in_ok-chosen.ensures.leaves.same_answers;
  same_kept = c.in_ok-chosen.ensures.leaves.same_kept;
  counted = c.in_ok-chosen.ensures.leaves.counted;
  known = record {};
}

pub returns-clause-project : goal.returns-clause-project
returns-clause-project g c = c.in_ok-chosen.ensures.project
