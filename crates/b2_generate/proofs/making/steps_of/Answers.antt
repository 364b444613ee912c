use Rattle.std.proofs.Common.{reverse, Ok, refl, sym, ap, subst, ◌∙◌}
use Rattle.b2_making.specs.Answers.{IsRefused}
use Rattle.b2_props.specs.Sets.{IsSet}
use Rattle.b2_alternatives.specs.Picking.{seen}
use Rattle.b2_references.specs.Names.{dir_of}
use Rattle.b2_generate.specs.Machine.{standing_of}
use Rattle.b2_generate.specs.Making.{IsHome}
use Rattle.b2_generate.specs.ToldOutcomes.{loaded_of}
use Rattle.b2_generate.proofs.EarlyExitGivesTheFault.{exit_is, none_made, is_refused, out_left}
use Rattle.b2_generate.proofs.StepsAreThoseDefined.{grows_none, acts_are, refusal}
use Rattle.b2_generate.proofs.making.steps_of.Goals as goal

pub returns-in_err-dir-clause-made : goal.returns-in_err-dir-clause-made
returns-in_err-dir-clause-made g c = λ told is. none_made c.from_residual.result _ _ (exit_is c.from_residual.result _ c.from_residual.ensures.1)

pub returns-in_err-dir-clause-refused : goal.returns-in_err-dir-clause-refused
returns-in_err-dir-clause-refused g c = λ told is.
    is_refused g.E.Evaluate.is_host_fault g.E.Evaluate.is_out_of_memory _ c.from_residual.result _ (exit_is c.from_residual.result _ c.from_residual.ensures.1) (record {})

pub returns-in_err-dir-clause-grows : goal.returns-in_err-dir-clause-grows
returns-in_err-dir-clause-grows g c = grows_none c.args.roots.now c.args.builder.now

pub returns-in_err-dir-clause-leaves : goal.returns-in_err-dir-clause-leaves
returns-in_err-dir-clause-leaves g c =
    out_left g.E.Evaluate.answers g.E.Evaluate.kept g.E.Evaluate.faults g.E.Evaluate.is_host_fault g.E.Evaluate.is_out_of_memory g.E.Evaluate.CanFault c.args.evaluator.now c.args.evaluator.now
    c.from_residual.result (exit_is c.from_residual.result _ c.from_residual.ensures.1) refl refl

pub home_of-home-requires-clause-dir : goal.home_of-home-requires-clause-dir
home_of-home-requires-clause-dir g c = c.in_ok-dir.ensures ∙ ap (λ d. dir_of d c.args.frame.now.chosen.target.now.project) (sym c.declared-declared.ensures)

pub home_of-home-requires-clause-empty : goal.home_of-home-requires-clause-empty
home_of-home-requires-clause-empty g c = c.empty_text-empty.ensures

pub make-requires : goal.make-requires
make-requires g c = subst (λ d. IsSet d.registry c.args.supplied.now.set) (sym c.declared-declared.ensures) c.requires.is_set

pub returns-in-Ok-clause-made : goal.returns-in-Ok-clause-made
returns-in-Ok-clause-made g c = λ told is.
    subst (λ act. act c.args.builder.now (Ok (c.in-Ok.supply, c.make.new.builder)))
    (acts_are c.declared-declared.result.now c.args.index.now c.args.roots.now told (seen c.args.frame.now.name c.args.frame.now.chosen) (standing_of (reverse c.args.nodes.now) c.args.frame.now) c.home_of-home.result
    c.args.supplied.now c.sources.result.now c.as_slice.result.now c.as_slice-2.result.now c.declared-declared.ensures (subst (λ d. IsHome d c.args.frame.now.chosen.target.now.project c.home_of-home.result) c.declared-declared.ensures c.home_of-home.ensures) c.requires c.sources.ensures c.as_slice.ensures c.as_slice-2.ensures)
    (c.in-Ok.ensures.made told is)

pub returns-in-Ok-clause-grows : goal.returns-in-Ok-clause-grows
returns-in-Ok-clause-grows g c = c.in-Ok.ensures.grows

pub returns-in-Ok-clause-leaves : goal.returns-in-Ok-clause-leaves
returns-in-Ok-clause-leaves g c = record { same_answers = c.in-Ok.ensures.answers; same_kept = c.in-Ok.ensures.kept; counted = c.in-Ok.ensures.counted; known = record {} }

pub returns-clause-refused : goal.returns-clause-refused
returns-clause-refused g c = λ told is.
    refusal g.E.Evaluate.is_host_fault g.E.Evaluate.is_out_of_memory (loaded_of c.args.index.now c.args.roots.now told) (seen c.args.frame.now.name c.args.frame.now.chosen)
    (standing_of (reverse c.args.nodes.now) c.args.frame.now) c.args.builder.now c.in-Err.fault
    (subst (λ act. IsRefused g.E.Evaluate.is_host_fault g.E.Evaluate.is_out_of_memory act c.args.builder.now c.in-Err.fault)
    (acts_are c.declared-declared.result.now c.args.index.now c.args.roots.now told (seen c.args.frame.now.name c.args.frame.now.chosen) (standing_of (reverse c.args.nodes.now) c.args.frame.now) c.home_of-home.result
    c.args.supplied.now c.sources.result.now c.as_slice.result.now c.as_slice-2.result.now c.declared-declared.ensures (subst (λ d. IsHome d c.args.frame.now.chosen.target.now.project c.home_of-home.result) c.declared-declared.ensures c.home_of-home.ensures) c.requires c.sources.ensures c.as_slice.ensures c.as_slice-2.ensures)
    (c.in-Err.ensures.refused told is))

pub returns-clause-grows : goal.returns-clause-grows
returns-clause-grows g c = c.in-Err.ensures.grows

pub returns-clause-leaves : goal.returns-clause-leaves
returns-clause-leaves g c = record { same_answers = c.in-Err.ensures.answers; same_kept = c.in-Err.ensures.kept; counted = c.in-Err.ensures.counted; known = c.in-Err.ensures.known }
