use Rattle.std.proofs.Common.{◌==◌, ◌||◌, ◌++◌, ◌∷◌, [], length, ap, ap₂, sym, ◌∙◌}
use Rattle.std.specs.Prelude.{not}
use Rattle.std.proofs.lemmas.Result.{on_ok_weaker}
use Rattle.b2_references.specs.Names.{is_same, target_text}
use Rattle.b2_generate.proofs.EarlyExitGivesTheFault.{exit_is, none_made}
use Rattle.b2_generate.proofs.CycleListsOpenTargets.{pushed_next, passed_next}
use Rattle.b2_generate.proofs.opening.push_next.Goals as goal

pub returns-in_err-target_text : goal.returns-in_err-target_text
returns-in_err-target_text c = λ before held. none_made c.from_residual.result _ _ (exit_is c.from_residual.result _ c.from_residual.ensures.1)

pub returns-in_ok-target_text : goal.returns-in_ok-target_text
returns-in_ok-target_text c = λ before held.
    on_ok_weaker c.push.result
    (λ pushed. pushed_next (target_text c.args.index.now) c.args.name.now before c.args.frame.now.name c.args.targets.now c.push.new.self held
    (ap (λ ts. not (length ts == 0) || is_same c.args.name.now c.args.frame.now.name) (sym c.as_slice.ensures) ∙ sym c.is_of_cycle.ensures ∙ c.if-is_of_cycle.true)
    (pushed ∙ ap (λ t. c.args.targets.now ++ t ∷ []) (c.in_ok-target_text.ensures ∙ ap₂ (λ p n. target_text c.args.index.now (p, n)) c.project.ensures c.name.ensures)))
    c.push.ensures.ok

pub returns-else-is_of_cycle : goal.returns-else-is_of_cycle
returns-else-is_of_cycle c = λ before held.
    passed_next (target_text c.args.index.now) c.args.name.now before c.args.frame.now.name c.args.targets.now held
    (ap (λ ts. not (length ts == 0) || is_same c.args.name.now c.args.frame.now.name) (sym c.as_slice.ensures) ∙ sym c.is_of_cycle.ensures ∙ c.if-is_of_cycle.false)
