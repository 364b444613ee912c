use Rattle.std.proofs.Common.{[], ◌∷◌, ◌∙◌, List, Ok, Err, sym, ap, subst}
use Rattle.std.proofs.lemmas.List.{take_all}
use Rattle.std.proofs.lemmas.Result.{err_from_is_err_and}
use Rattle.b2_plan.specs.declared.step.Step.{Step}
use Rattle.b2_explain.specs.Removing.{HaveOwnOuts, CleansMore}
use Rattle.b2_explain.proofs.StepsAreCleaned.{cleans_none}
use Rattle.b2_explain.proofs.LoopsOfCleaning.{own_step, steps_more, steps_stop}
use Rattle.b2_explain.proofs.clean.clean_steps.Goals as goal

pub loop-step-init : goal.loop-step-init
loop-step-init g c = cleans_none 0 (g.F.Files.outside c.args.files.now) (g.S.Sink.output c.args.out.now) c.args.journal.now

pub clean_step-requires-clause-own : goal.clean_step-requires-clause-own
clean_step-requires-clause-own g c = subst (λ (s : Step). HaveOwnOuts (s ∷ [])) (sym c.step-item.is) (own_step c.args.steps.now c.requires.own c.loop-step.step-index c.step-item.result c.loop-step-test.true)

pub returns-in_err-removed : goal.returns-in_err-removed
returns-in_err-removed g c =
    let y = g.F.Files.outside c.loop-step.files in
    let z = g.F.Files.outside c.clean_step.new.files in
    let b = g.S.Sink.output c.loop-step.out in
    let d = g.S.Sink.output c.clean_step.new.out in
    let fault = c.in_err-removed.field-0.0 in
    let next = subst (λ (s : Step). CleansMore (s ∷ []) c.loop-step.removed y b c.loop-step.journal z d c.clean_step.new.journal (Err fault)) c.step-item.is c.in_err-removed.ensures in
    let (w, e, q) = err_from_is_err_and c.from_residual.result c.from_residual.ensures.1 in
    steps_stop c.args.steps.now c.requires.own c.loop-step.step-index c.step-item.result c.loop-step-test.true c.loop-step.removed (g.F.Files.outside c.args.files.now) y z (g.S.Sink.output c.args.out.now) b d c.args.journal.now c.loop-step.journal c.clean_step.new.journal
    c.loop-step.invariant fault c.from_residual.result (e ∙ ap Err q) next

pub loop-step-preserved : goal.loop-step-preserved
loop-step-preserved g c =
    let y = g.F.Files.outside c.loop-step.files in
    let z = g.F.Files.outside c.clean_step.new.files in
    let b = g.S.Sink.output c.loop-step.out in
    let d = g.S.Sink.output c.clean_step.new.out in
    let next = subst (λ (s : Step). CleansMore (s ∷ []) c.loop-step.removed y b c.loop-step.journal z d c.clean_step.new.journal (Ok c.in_ok-removed.removed)) c.step-item.is c.in_ok-removed.ensures in
    steps_more c.args.steps.now c.requires.own c.loop-step.step-index c.step-item.result c.loop-step-test.true c.loop-step.removed (g.F.Files.outside c.args.files.now) y z (g.S.Sink.output c.args.out.now) b d c.args.journal.now c.loop-step.journal c.clean_step.new.journal
    c.loop-step.invariant c.in_ok-removed.removed next

pub returns : goal.returns
returns g c =
    subst (λ (steps : List Step). CleansMore steps 0 (g.F.Files.outside c.args.files.now) (g.S.Sink.output c.args.out.now) c.args.journal.now (g.F.Files.outside c.loop-step.files) (g.S.Sink.output c.loop-step.out) c.loop-step.journal (Ok c.loop-step.removed)) (take_all c.loop-step.step-index c.args.steps.now c.loop-step-test.false) c.loop-step.invariant
