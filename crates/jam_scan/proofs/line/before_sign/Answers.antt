use Rattle.std.proofs.Common.{sym, ◌∙◌, ap, option_map}
use Rattle.jam_scan.proofs.PartsOfLinesAreRead.{sign_read, sign_not_read}
use Rattle.jam_scan.proofs.line.before_sign.Goals as goal

pub returns-in_err-at : goal.returns-in_err-at
returns-in_err-at c = ap (option_map (λ front. front.now)) c.from_residual.ensures ∙ sym (sign_not_read c.args.sign c.args.text.now c.in_err-at.ensures)

pub returns : goal.returns
returns c = sym (sign_read c.args.sign c.args.text.now c.in_ok-at.at c.in_ok-at.ensures.0 c.in_ok-at.ensures.1)
