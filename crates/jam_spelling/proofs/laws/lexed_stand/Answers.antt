use Rattle.std.proofs.lemmas.List.Elements.{All-weaker}
use Rattle.jam_spelling.proofs.LexedTextsFitTheirKind.{SaysRight, lexed_right}
use Rattle.jam_spelling.proofs.laws.lexed_stand.Goals as goal

pub returns-clause-keys : goal.returns-clause-keys
returns-clause-keys c = λ bytes tokens are. All-weaker SaysRight _ (λ token right. right.0) tokens (lexed_right bytes tokens are)

pub returns-clause-bodies : goal.returns-clause-bodies
returns-clause-bodies c = λ bytes tokens are. All-weaker SaysRight _ (λ token right. right.1) tokens (lexed_right bytes tokens are)
