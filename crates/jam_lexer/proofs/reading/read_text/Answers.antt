use Rattle.std.proofs.Common.{false, List, sym, subst}
use Rattle.b2_base.specs.declared.token.Token.{Token}
use Rattle.jam_lexer.specs.Tokens.{NextWord}
use Rattle.jam_lexer.specs.Progress.{HasRead}
use Rattle.jam_lexer.proofs.ReadingGoesTokenByToken.{nothing_read, all_read}
use Rattle.jam_lexer.proofs.reading.read_text.Goals as goal

pub loop-start-init : goal.loop-start-init
loop-start-init c = subst (λ (tokens : List Token). HasRead c.args.bytes.now NextWord tokens (record { at = 0; line = 1; awaits = false })) (sym c.new-tokens.ensures.items) (nothing_read c.args.bytes.now c.requires.text.0)

pub returns-clause-ok : goal.returns-clause-ok
returns-clause-ok c = all_read _ _ _ c.loop-start.invariant c.in_default.ensures.none
