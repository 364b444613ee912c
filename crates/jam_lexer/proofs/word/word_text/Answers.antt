use Rattle.std.proofs.Common.{sym, ◌∙◌, subst}
use Rattle.jam_lexer.specs.Tokens.{IsText}
use Rattle.jam_lexer.proofs.UnquotingGoesByteByByte.{text_of_text}
use Rattle.jam_lexer.proofs.word.word_text.Goals as goal

pub text_from-requires : goal.text_from-requires
text_from-requires c = subst IsText (sym (c.as_slice.ensures.value ∙ c.in_ok-text.ensures)) (text_of_text c.args.word.now c.requires)
