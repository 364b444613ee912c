use Rattle.jam_lexer.proofs.SlicesJoinAndStayTexts.{text_between}
use Rattle.jam_lexer.proofs.WordsCutNoCharacter.{word_end_boundary}
use Rattle.jam_lexer.proofs.reading.word_token.Goals as goal

pub word_text-requires : goal.word_text-requires
word_text-requires c = text_between _ _ _ c.requires.text c.requires.word.order c.requires.boundary (word_end_boundary _ _ _ c.requires.word)
