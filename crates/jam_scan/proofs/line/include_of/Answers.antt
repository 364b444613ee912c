use Rattle.std.proofs.Common.{◌≡◌, ap, ◌∙◌}
use Rattle.std.proofs.lemmas.Result.{IfOk-weaker}
use Rattle.jam_scan.specs.IncludeLines.{include_at, include_of}
use Rattle.jam_scan.proofs.IncludesArePutTogether.{no_directive, directive}
use Rattle.jam_scan.proofs.line.include_of.Goals as goal

pub returns-in-None : goal.returns-in-None
returns-in-None c = no_directive c.args.line.now c.in-None.ensures

pub returns-in-Some : goal.returns-in-Some
returns-in-Some c =
    IfOk-weaker c.include_at.result (λ found. found ≡ include_at c.after_blanks.result.now) (λ found. found ≡ include_of c.args.line.now)
    (λ found is. is ∙ ap include_at c.after_blanks.ensures ∙ directive c.args.line.now c.in-Some.rest.now c.in-Some.ensures) c.include_at.ensures
