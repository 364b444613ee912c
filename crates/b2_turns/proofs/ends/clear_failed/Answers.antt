use Rattle.std.proofs.Common.{◌≡◌, ℕ, List, Some, IfSome, Ok, Err, ap, subst, ◌∙◌}
use Rattle.std.proofs.lemmas.Result.{err_from_is_err_and}
use Rattle.b2_plan.specs.declared.step.Step.{Step}
use Rattle.b2_plan.specs.Plans.{step_at}
use Rattle.b2_turns.specs.Clearing.{AreGone, RemovesFiles}
use Rattle.b2_turns.proofs.FailedStepIsCleared.{fewer_removed, fewer_cleared, told_not_removed, told_cleared}
use Rattle.b2_turns.proofs.ends.clear_failed.Goals as goal

pub returns-in_err-remove_all-clause-fewer : goal.returns-in_err-remove_all-clause-fewer
returns-in_err-remove_all-clause-fewer g c = fewer_removed c.as_slice-2.result.now (g.F.Files.outside c.args.files.now).disk (g.F.Files.outside c.remove_all.new.files).disk c.in_err-remove_all.ensures.removes.files

pub returns-in_err-remove_all-clause-told : goal.returns-in_err-remove_all-clause-told
returns-in_err-remove_all-clause-told g c =
    let step = c.step_of-step.result.now in
    let at = subst (λ (steps : List Step). step_at steps c.args.number ≡ Some step) c.as_slice.ensures c.step_of-step.ensures in
    let x = g.F.Files.outside c.args.files.now in
    let y = g.F.Files.outside c.remove_all.new.files in
    let fault = c.in_err-remove_all.field-0.0 in
    let (stop, e, q) = err_from_is_err_and c.from_residual.result c.from_residual.ensures.1 in
    told_not_removed c.args.plan.now c.args._looks.now c.args.number step at x y c.args.sights.now fault c.from_residual.result (e ∙ ap Err q)
    (subst (λ (outs : List (List ℕ)). RemovesFiles {T = Unit {0}} outs x y (Err fault)) c.as_slice-2.ensures c.in_err-remove_all.ensures.removes) (g.met.F.Files.consistent c.remove_all.new.files)

pub returns-clause-fewer : goal.returns-clause-fewer
returns-clause-fewer g c = fewer_cleared c.as_slice-2.result.now (g.F.Files.outside c.args.files.now).disk (g.F.Files.outside c.remove_all.new.files).disk (g.F.Files.outside c.note_drop.new.files).disk c.in_ok-remove_all.ensures.removes.files c.note_drop.ensures.only_log.files

pub returns-clause-told : goal.returns-clause-told
returns-clause-told g c =
    let step = c.step_of-step.result.now in
    let at = subst (λ (steps : List Step). step_at steps c.args.number ≡ Some step) c.as_slice.ensures c.step_of-step.ensures in
    let x = g.F.Files.outside c.args.files.now in
    let y = g.F.Files.outside c.remove_all.new.files in
    let z = g.F.Files.outside c.note_drop.new.files in
    told_cleared c.args.plan.now c.args._looks.now c.args.number step at x y c.args.sights.now z c.note_drop.new.sights c.note_drop.result
    (subst (λ (outs : List (List ℕ)). RemovesFiles {T = Unit {0}} outs x y (Ok tt)) c.as_slice-2.ensures c.in_ok-remove_all.ensures.removes)
    (subst (λ (outs : List (List ℕ)). IfSome y.disk (AreGone outs)) c.as_slice-2.ensures c.in_ok-remove_all.ensures.gone)
    c.note_drop.ensures (g.met.F.Files.consistent c.remove_all.new.files) (g.met.F.Files.consistent c.note_drop.new.files)
