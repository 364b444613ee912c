use Rattle.std.proofs.Common.{refl}
use Rattle.jam_lexer.proofs.UnquotingGoesByteByByte.{step_literal, step_backslash, step_quote, step_plain}
use Rattle.jam_lexer.proofs.word.unquoted.Goals.{then-literal+in_ok-push, else-literal+then-byte-eq92, else-literal+else-byte-eq92+then-byte-ne34+in_ok-push-2, else-literal+else-byte-eq92+else-byte-ne34}
use Rattle.jam_lexer.proofs.word.unquoted.Goals as goal

pub loop-byte-preserved : goal.loop-byte-preserved
loop-byte-preserved c =
    elim c.if-literal.branch [
      | then-literal+in_ok-push w ↦ rw (w.text-is, w.literal-is, w.in_ok-push.ensures.items) (step_literal _ _ _ _ c.loop-byte-test.true refl (rw w.if-literal.true at c.loop-byte.invariant))
      | else-literal+then-byte-eq92 w ↦ rw (w.text-is, w.literal-is) (step_backslash _ _ _ _ c.loop-byte-test.true refl (rw w.if-literal.false at c.loop-byte.invariant) w.if-byte-eq92.true)
      | else-literal+else-byte-eq92+then-byte-ne34+in_ok-push-2 w ↦ rw (w.text-is, w.literal-is, w.if-literal.false, w.in_ok-push-2.ensures.items) (step_plain _ _ _ _ c.loop-byte-test.true refl (rw w.if-literal.false at c.loop-byte.invariant) w.if-byte-eq92.false w.if-byte-ne34.true)
      | else-literal+else-byte-eq92+else-byte-ne34 w ↦ rw (w.text-is, w.literal-is, w.if-literal.false) (step_quote _ _ _ _ c.loop-byte-test.true refl (rw w.if-literal.false at c.loop-byte.invariant) w.if-byte-eq92.false w.if-byte-ne34.false)
    ]
