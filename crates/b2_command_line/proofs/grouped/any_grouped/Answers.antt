use Rattle.std.proofs.Common.{List, ℕ, ap, sym, ◌∙◌, codes}
use Rattle.std.specs.Str.{bytes_eq}
use Rattle.b2_command_line.specs.Grouped.{is_grouped}
use Rattle.b2_command_line.proofs.EachDecidesOrRestDoes.{ends_here, grouped_here, word_passed, no_word}
use Rattle.b2_command_line.proofs.grouped.any_grouped.Goals as goal

pub returns-then-eq : goal.returns-then-eq
returns-then-eq c =
    ends_here c.args.words.now c.loop-word.word-index c.word-item.result c.loop-word-test.true c.word-item.is
    (ap (λ (t : List ℕ). bytes_eq t (codes "--")) (sym c.as_str.ensures.value) ∙ sym c.eq.ensures ∙ c.if-eq.true) c.loop-word.invariant

pub returns-then-is_grouped : goal.returns-then-is_grouped
returns-then-is_grouped c =
    grouped_here c.args.words.now c.loop-word.word-index c.word-item.result c.loop-word-test.true c.word-item.is
    (ap (λ (t : List ℕ). bytes_eq t (codes "--")) (sym c.as_str.ensures.value) ∙ sym c.eq.ensures ∙ c.if-eq.false)
    (ap is_grouped (sym (c.as_bytes.ensures.value ∙ c.as_str-in-loop-word.ensures.value)) ∙ sym c.is_grouped.ensures ∙ c.if-is_grouped.true) c.loop-word.invariant

pub loop-word-preserved : goal.loop-word-preserved
loop-word-preserved c =
    word_passed c.args.words.now c.loop-word.word-index c.word-item.result c.loop-word-test.true c.word-item.is
    (ap (λ (t : List ℕ). bytes_eq t (codes "--")) (sym c.as_str.ensures.value) ∙ sym c.eq.ensures ∙ c.if-eq.false)
    (ap is_grouped (sym (c.as_bytes.ensures.value ∙ c.as_str-in-loop-word.ensures.value)) ∙ sym c.is_grouped.ensures ∙ c.if-is_grouped.false) c.loop-word.invariant

pub returns : goal.returns
returns c = no_word c.args.words.now c.loop-word.word-index c.loop-word-test.false c.loop-word.invariant
