use Rattle.std.proofs.Common.{Bool, true, false, Ok, Err, ap, subst, ◌∙◌}
use Rattle.std.proofs.lemmas.Result.{err_from_is_err_and}
use Rattle.b2_verdicts.specs.VerdictCalls.{IsOfStep}
use Rattle.b2_looks.specs.Looks.{LooksAtFiles}
use Rattle.b2_looks.proofs.FilesAreLookedAt.{looks_err, looks_ok}
use Rattle.b2_turns.proofs.StepHasLeft.{not_all_stand, looks_left, looks_failed, left_failed, left_gone, left_noted, left_stopped}
use Rattle.b2_turns.proofs.ends.note_left.Goals as goal

pub returns-in_err-have_left-clause-looks : goal.returns-in_err-have_left-clause-looks
returns-in_err-have_left-clause-looks g c steps roots =
    let (y, e, q) = err_from_is_err_and c.from_residual.result c.from_residual.ensures.1 in
    looks_failed c.args.step.now c.args.numbers.now (g.F.Files.outside c.args.files.now) (g.F.Files.outside c.have_left.new.files) c.args.sights.now steps roots c.in_err-have_left.field-0.0 c.from_residual.result (e ∙ ap Err q) c.in_err-have_left.ensures.effect

pub returns-in_err-have_left-clause-told : goal.returns-in_err-have_left-clause-told
returns-in_err-have_left-clause-told g c =
    let (y, e, q) = err_from_is_err_and c.from_residual.result c.from_residual.ensures.1 in
    left_failed c.args.step.now c.args.numbers.now (g.F.Files.outside c.args.files.now) (g.F.Files.outside c.have_left.new.files) c.args.sights.now c.in_err-have_left.field-0.0 c.from_residual.result (e ∙ ap Err q) c.in_err-have_left.ensures.effect

pub returns-then-not-branch-clause-looks : goal.returns-then-not-branch-clause-looks
returns-then-not-branch-clause-looks g c steps roots = looks_left c.args.step.now c.args.numbers.now (g.F.Files.outside c.args.files.now) (g.F.Files.outside c.have_left.new.files) c.args.sights.now steps roots false c.in_ok-have_left.ensures.effect

pub returns-then-not-branch-clause-missed : goal.returns-then-not-branch-clause-missed
returns-then-not-branch-clause-missed g c = λ off. not_all_stand c.in_ok-have_left.field-0 c.args.step.now.outs c.as_slice.result.now (g.F.Files.outside c.args.files.now).disk c.if-not-branch.true c.as_slice.ensures c.in_ok-have_left.ensures.answer

pub returns-then-not-branch-clause-told : goal.returns-then-not-branch-clause-told
returns-then-not-branch-clause-told g c =
    let x = g.F.Files.outside c.args.files.now in
    left_gone c.args.step.now c.args.numbers.now x (g.F.Files.outside c.have_left.new.files) c.args.sights.now false c.in_ok-have_left.ensures.effect
    (not_all_stand c.in_ok-have_left.field-0 c.args.step.now.outs c.as_slice.result.now x.disk c.if-not-branch.true c.as_slice.ensures c.in_ok-have_left.ensures.answer)

pub returns-in_err-note_record-clause-looks : goal.returns-in_err-note_record-clause-looks
returns-in_err-note_record-clause-looks g c steps roots =
    let (y, e, q) = err_from_is_err_and c.from_residual-in_err-note_record.result c.from_residual-in_err-note_record.ensures.1 in
    let s = c.args.sights.now in
    let v = c.note_record.new.sights in
    let P = IsOfStep c.args.numbers.now in
    let a = g.F.Files.outside c.args.files.now in
    let d = g.F.Files.outside c.note_record.new.files in
    let stop = c.in_err-note_record.field-0.0 in
    looks_err steps roots {T = Unit {0}} {S = Bool} P s v a d stop c.from_residual-in_err-note_record.result (e ∙ ap Err q)
    (subst (λ o. LooksAtFiles {T = Unit {0}} steps roots P s o v d (Err stop)) c.in_ok-have_left.ensures.effect (c.in_err-note_record.ensures.looks steps roots))

pub returns-in_err-note_record-clause-told : goal.returns-in_err-note_record-clause-told
returns-in_err-note_record-clause-told g c =
    let (y, e, q) = err_from_is_err_and c.from_residual-in_err-note_record.result c.from_residual-in_err-note_record.ensures.1 in
    left_stopped c.args.step.now c.args.numbers.now (g.F.Files.outside c.args.files.now) (g.F.Files.outside c.have_left.new.files) (g.F.Files.outside c.note_record.new.files) c.args.sights.now c.note_record.new.sights c.in_ok-have_left.ensures.effect
    c.in_err-note_record.field-0.0 c.from_residual-in_err-note_record.result (e ∙ ap Err q) c.in_err-note_record.ensures.told

pub returns-clause-looks : goal.returns-clause-looks
returns-clause-looks g c steps roots =
    let s = c.args.sights.now in
    let v = c.note_record.new.sights in
    let P = IsOfStep c.args.numbers.now in
    let a = g.F.Files.outside c.args.files.now in
    let d = g.F.Files.outside c.note_record.new.files in
    looks_ok steps roots P s v a d c.in_ok-note_record.field-0 true
    (subst (λ o. LooksAtFiles {T = Unit {0}} steps roots P s o v d (Ok c.in_ok-note_record.field-0)) c.in_ok-have_left.ensures.effect (c.in_ok-note_record.ensures.looks steps roots))

pub returns-clause-told : goal.returns-clause-told
returns-clause-told g c = left_noted c.args.step.now c.args.numbers.now (g.F.Files.outside c.args.files.now) (g.F.Files.outside c.have_left.new.files) (g.F.Files.outside c.note_record.new.files) c.args.sights.now c.note_record.new.sights c.in_ok-have_left.ensures.effect
    c.in_ok-note_record.field-0 c.in_ok-note_record.ensures.told
