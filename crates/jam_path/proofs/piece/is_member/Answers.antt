use Rattle.std.proofs.Common.{◌∷◌, ◌∙◌, sym, ap}
use Rattle.std.specs.Str.{chars}
use Rattle.jam_path.specs.Patterns.{is_member}
use Rattle.jam_path.proofs.ClassUpToBracket.{alone, below_range, above_range}
use Rattle.jam_path.proofs.piece.is_member.Goals as goal
use Rattle.jam_path.proofs.piece.is_member.Goals.{else-low-character-2-via-then-low-character-2+else-character-high, else-low-character-2-via-else-low-character-2}

pub loop-low-preserved-in-None : goal.loop-low-preserved-in-None
loop-low-preserved-in-None c = (
  c.in-Some.ensures.utf8,
  sym (alone c.in-Some.low c.args.character (chars c.in-Some.more.now) c.in-None.ensures.exact c.if-low-character.false)
      ∙ sym (ap (λ r. is_member r c.args.character) c.in-Some.ensures.exact) ∙ c.loop-low.invariant.1,
)

pub loop-low-preserved : goal.loop-low-preserved
loop-low-preserved c =
    let after = chars c.in-Some-after_dash.after.now in
    let whole = ap (λ r. is_member r c.args.character) (c.in-Some.ensures.exact ∙ ap (λ r. c.in-Some.low ∷ r) c.in-Some-after_dash.ensures.exact) in (
      c.in-Some-after_dash.ensures.utf8,
      elim c.else-low-character-2.branch [
        | else-low-character-2-via-then-low-character-2+else-character-high w ↦ sym (above_range c.in-Some.low c.in-Some-after_dash.high c.args.character after w.if-character-high.false) ∙ sym whole ∙ c.loop-low.invariant.1
        | else-low-character-2-via-else-low-character-2 w ↦ sym (below_range c.in-Some.low c.in-Some-after_dash.high c.args.character after w.if-low-character-2.false) ∙ sym whole ∙ c.loop-low.invariant.1
      ],
    )
