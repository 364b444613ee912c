use Rattle.std.proofs.Common.{arith}
use Rattle.std.proofs.lemmas.Str.{IsCharBoundary-before_ascii}
use Rattle.jam_lexer.proofs.SlicesJoinAndStayTexts.{text_between}
use Rattle.jam_lexer.proofs.reading.body_token.Goals as goal

pub text_from-requires : goal.text_from-requires
text_from-requires c =
    text_between _ _ _ c.requires.text c.requires.body.order c.requires.boundary
    (IsCharBoundary-before_ascii _ _ c.requires.body.within (omega (arith, c.requires.body.brace)))
