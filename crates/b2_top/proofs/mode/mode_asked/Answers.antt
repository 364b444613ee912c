use Rattle.std.proofs.Common.{List, ℕ, is_some, ap, sym, ◌∙◌, codes}
use Rattle.std.specs.Str.{bytes_eq}
use Rattle.b2_top.specs.Modes.{mode_named}
use Rattle.b2_top.proofs.ModeIsFoundBeforeDashes.{ends_here, mode_here, word_passed, no_word}
use Rattle.b2_top.proofs.mode.mode_asked.Goals as goal

pub returns-then-eq : goal.returns-then-eq
returns-then-eq c =
    ends_here c.args.words.now c.loop-word.word-index c.word-item.result c.loop-word-test.true c.word-item.is
    (ap (λ (t : List ℕ). bytes_eq t (codes "--")) (sym c.as_str.ensures.value) ∙ sym c.eq.ensures ∙ c.if-eq.true) c.loop-word.invariant

pub returns-then-is_some : goal.returns-then-is_some
returns-then-is_some c =
    (c.mode_named-mode.ensures ∙ ap mode_named c.as_str-in-loop-word.ensures.value)
    ∙ mode_here c.args.words.now c.loop-word.word-index c.word-item.result c.loop-word-test.true c.word-item.is
    (ap (λ (t : List ℕ). bytes_eq t (codes "--")) (sym c.as_str.ensures.value) ∙ sym c.eq.ensures ∙ c.if-eq.false)
    (ap is_some (sym (c.mode_named-mode.ensures ∙ ap mode_named c.as_str-in-loop-word.ensures.value)) ∙ sym c.is_some.ensures ∙ c.if-is_some.true) c.loop-word.invariant

pub loop-word-preserved : goal.loop-word-preserved
loop-word-preserved c =
    word_passed c.args.words.now c.loop-word.word-index c.word-item.result c.loop-word-test.true c.word-item.is
    (ap (λ (t : List ℕ). bytes_eq t (codes "--")) (sym c.as_str.ensures.value) ∙ sym c.eq.ensures ∙ c.if-eq.false)
    (ap is_some (sym (c.mode_named-mode.ensures ∙ ap mode_named c.as_str-in-loop-word.ensures.value)) ∙ sym c.is_some.ensures ∙ c.if-is_some.false) c.loop-word.invariant

pub returns : goal.returns
returns c = no_word c.args.words.now c.loop-word.word-index c.loop-word-test.false c.loop-word.invariant
