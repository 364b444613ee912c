use Rattle.std.proofs.Common.{◌∙◌, [], Err, ap}
use Rattle.std.proofs.lemmas.Result.{err_from_is_err_and}
use Rattle.b2_runs.proofs.FirstElementOrLater.{Contains_here}
use Rattle.b2_explain.proofs.LoopsOfCleaning.{step_cut, step_undropped, step_cleaned}
use Rattle.b2_explain.proofs.clean.clean_step.Goals as goal

pub returns-in_err-removed : goal.returns-in_err-removed
returns-in_err-removed g c =
    let (y, e, q) = err_from_is_err_and c.from_residual.result c.from_residual.ensures.1 in
    let x = g.F.Files.outside c.args.files.now in
    let z = g.F.Files.outside c.remove_made.new.files in
    step_cut c.args.step.now c.requires.own c.args.count x z z (g.S.Sink.output c.args.out.now) (g.S.Sink.output c.remove_made.new.out) c.args.journal.now c.args.journal.now c.in_err-removed.field-0.0 c.from_residual.result (e ∙ ap Err q) c.in_err-removed.ensures

pub drop_record-requires : goal.drop_record-requires
drop_record-requires g c = record { some_out = c.requires.own.some_out c.args.step.now (Contains_here c.args.step.now []) }

pub returns-in_err-drop_record : goal.returns-in_err-drop_record
returns-in_err-drop_record g c =
    let (y, e, q) = err_from_is_err_and c.from_residual-in_err-drop_record.result c.from_residual-in_err-drop_record.ensures.1 in
    step_undropped c.args.step.now c.requires.own c.args.count (g.F.Files.outside c.args.files.now) (g.F.Files.outside c.remove_made.new.files) (g.F.Files.outside c.drop_record.new.files) (g.S.Sink.output c.args.out.now) (g.S.Sink.output c.remove_made.new.out) c.args.journal.now c.drop_record.new.journal
    c.in_ok-removed.removed c.in_err-drop_record.field-0.0 c.from_residual-in_err-drop_record.result (e ∙ ap Err q) c.in_ok-removed.ensures c.in_err-drop_record.ensures

pub returns : goal.returns
returns g c =
    step_cleaned c.args.step.now c.requires.own c.args.count (g.F.Files.outside c.args.files.now) (g.F.Files.outside c.remove_made.new.files) (g.F.Files.outside c.drop_record.new.files) (g.S.Sink.output c.args.out.now) (g.S.Sink.output c.remove_made.new.out) c.args.journal.now c.drop_record.new.journal
    c.in_ok-removed.removed c.in_ok-removed.ensures c.in_ok-drop_record.ensures
