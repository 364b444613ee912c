use Rattle.std.proofs.Common.{sym, ap, ◌∙◌, option_map}
use Rattle.jam_scan.proofs.IncludesArePutTogether.{no_hash, hash}
use Rattle.jam_scan.proofs.line.after_directive.Goals as goal

pub returns-in_err-rest : goal.returns-in_err-rest
returns-in_err-rest c = ap (option_map (λ rest. rest.now)) c.from_residual.ensures ∙ sym (no_hash c.args.line.now c.after_blanks.result.now c.after_blanks.ensures c.in_err-rest.ensures)

pub returns : goal.returns
returns c = c.after_word-2.ensures ∙ hash c.args.line.now c.after_blanks.result.now c.in_ok-rest.rest.now c.after_blanks-2.result.now c.after_blanks.ensures c.in_ok-rest.ensures c.after_blanks-2.ensures
