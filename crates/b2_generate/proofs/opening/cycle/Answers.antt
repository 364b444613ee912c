use Rattle.std.proofs.Common.{◌++◌, ◌∷◌, [], map, ap, ap₂, ◌∙◌}
use Rattle.b2_references.specs.Names.{target_text}
use Rattle.b2_generate.specs.Generation.{from_first}
use Rattle.b2_generate.proofs.EarlyExitGivesTheFault.{exit_is, none_made}
use Rattle.b2_generate.proofs.CycleListsOpenTargets.{cycle_is}
use Rattle.b2_generate.proofs.opening.cycle.Goals as goal

pub push_from-requires : goal.push_from-requires
push_from-requires c = c.new-targets.ensures

pub returns-in_err-push_from : goal.returns-in_err-push_from
returns-in_err-push_from c = none_made c.from_residual.result _ _ (exit_is c.from_residual.result _ c.from_residual.ensures.1)

pub returns-in_err-target_text : goal.returns-in_err-target_text
returns-in_err-target_text c = none_made c.from_residual-in_err-target_text.result _ _ (exit_is c.from_residual-in_err-target_text.result _ c.from_residual-in_err-target_text.ensures.1)

pub returns-in_err-push : goal.returns-in_err-push
returns-in_err-push c = none_made c.from_residual-in_err-push.result _ _ (exit_is c.from_residual-in_err-push.result _ c.from_residual-in_err-push.ensures.1)

pub returns : goal.returns
returns c =
    let text = target_text c.args.index.now in
    cycle_is text c.args.name.now c.args.stack.now.newest c.args.stack.now.below.items c.push_from.new.targets c.push.new.self c.requires
    (c.in_ok-push_from.ensures ∙ ap (λ fs. map text (from_first c.args.name.now (map (λ f. f.name) fs))) c.as_slice.ensures.value)
    (c.in_ok-push.ensures.ok ∙ ap (λ t. c.push_from.new.targets ++ t ∷ []) (c.in_ok-target_text.ensures ∙ ap₂ (λ p n. target_text c.args.index.now (p, n)) c.project.ensures c.name.ensures))
