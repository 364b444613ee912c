use Rattle.std.proofs.Common.{◌≡◌, ◌∙◌, ℕ, not, List, Err, ap}
use Rattle.std.specs.Option.{option_copied}
use Rattle.std.proofs.lemmas.Result.{err_from_is_err_and}
use Rattle.b2_log.specs.Finding.{find_record}
use Rattle.b2_explain.proofs.OutputsAreTaken.{present, drop_fails}
use Rattle.b2_explain.proofs.clean.drop_record.Goals as goal

pub returns-in_err-note : goal.returns-in_err-note
returns-in_err-note g c =
    let outs = c.args.step.now.outs in
    let log = c.args.journal.now in
    let found : option_copied c.record.result ≡ find_record outs log = c.record.ensures.exact ∙ ap (λ (os : List (List ℕ)). find_record os log) c.as_slice-outs.ensures in
    let (r, is, proper) = present outs log c.record.result (c.is_none.ensures ∙ ap not c.if-is_none.false) found c.record.ensures.proper in
    let (y, e, q) = err_from_is_err_and c.from_residual-in_err-note.result c.from_residual-in_err-note.ensures.1 in
    drop_fails c.args.step.now (g.F.Files.outside c.args.files.now) (g.F.Files.outside c.note.new.files) log c.note.new.self r c.in_ok-outs.outs (c.in_ok-outs.ensures ∙ c.as_slice-outs.ensures) is c.in_err-note.ensures.only_log
    c.in_err-note.field-0.0 c.from_residual-in_err-note.result (e ∙ ap Err q) c.in_err-note.ensures.err c.in_err-note.ensures.appends c.in_err-note.ensures.counts c.in_err-note.ensures.notes
