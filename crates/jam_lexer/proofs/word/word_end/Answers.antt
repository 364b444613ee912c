use Rattle.std.proofs.Common.{◌≡◌, true, get_or, sym, ◌∙◌, subst}
use Rattle.std.proofs.lemmas.Bool.{true≢false}
use Rattle.b2_base.specs.Bytes.{is_white}
use Rattle.jam_lexer.proofs.WordsGrowLetterByLetter.{IsReading, reading_plain, reading_quote, reading_literal}
use Rattle.jam_lexer.proofs.word.word_end.Goals.{else-is_white-via-then-is_white+else-not-quoted, else-is_white-via-else-is_white}
use Rattle.jam_lexer.proofs.word.word_end.Goals as goal

pub loop-at-preserved-then-byte-eq92 : goal.loop-at-preserved-then-byte-eq92
loop-at-preserved-then-byte-eq92 c =
    subst (λ to. IsReading c.args.bytes.now c.args.start to c.loop-at.quoted) (sym c.after_literal-at.ensures)
    (reading_literal _ _ _ _ c.loop-at.invariant c.loop-at-test.true c.if-byte-eq92.true)

pub loop-at-preserved-then-byte-eq34 : goal.loop-at-preserved-then-byte-eq34
loop-at-preserved-then-byte-eq34 c = reading_quote _ _ _ _ c.loop-at.invariant c.loop-at-test.true c.if-byte-eq34.true

pub loop-at-preserved : goal.loop-at-preserved
loop-at-preserved c =
    let space : is_white (get_or c.args.bytes.now c.loop-at.at 0) ≡ true → c.loop-at.quoted ≡ true = λ white. elim c.else-is_white.branch [
      | else-is_white-via-then-is_white+else-not-quoted w ↦ w.if-not-quoted.false
      | else-is_white-via-else-is_white w ↦ absurd (true≢false (sym white ∙ sym c.is_white.ensures ∙ w.if-is_white.false))
    ] in
    reading_plain _ _ _ _ c.loop-at.invariant c.loop-at-test.true c.if-byte-eq92.false c.if-byte-eq34.false space
