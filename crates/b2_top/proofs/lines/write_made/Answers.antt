use Rattle.std.proofs.Common.{List, ℕ, subst, ◌∙◌}
use Rattle.b2_top.specs.Writing.{Writes}
use Rattle.b2_top.proofs.PiecesWrittenMakeTheWhole.{writes_nothing, made_bytes}
use Rattle.b2_top.proofs.lines.write_made.Goals as goal

pub returns-in-Ok : goal.returns-in-Ok
returns-in-Ok g c = λ bytes made.
    subst (λ (b : List ℕ). Writes b (g.S.Sink.output c.args.out.now) (g.S.Sink.output c.write_text.new.out) c.write_text.result)
    (c.as_str.ensures.value ∙ made_bytes c.args.made c.in-Ok.text bytes c.in-Ok.is made) c.write_text.ensures

pub returns-in-Err : goal.returns-in-Err
returns-in-Err g c = λ bytes made. writes_nothing bytes (g.S.Sink.output c.args.out.now)
