use Rattle.jam_lexer.proofs.FirstBadByteEndsText.{bad_is_no_text}
use Rattle.jam_lexer.proofs.OneAnswer.{tokens_no_quote, tokens_no_actions}
use Rattle.jam_lexer.proofs.laws.no_fault.Goals as goal

pub returns : goal.returns
returns c = record {
  not_utf8 = λ bytes tokens at are bad. bad_is_no_text bytes at bad are.0;
  open_quote = tokens_no_quote;
  open_actions = tokens_no_actions;
}
