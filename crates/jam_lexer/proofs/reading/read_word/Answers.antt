use Rattle.std.proofs.Common.{◌<◌, arith}
use Rattle.jam_lexer.proofs.WordsCutNoCharacter.{start_boundary}
use Rattle.jam_lexer.proofs.ReadingGoesTokenByToken.{word_read, word_opens, word_goes, meets_open_quote}
use Rattle.jam_lexer.proofs.reading.read_word.Goals as goal

pub returns-in_default-clause-err : goal.returns-in_default-clause-err
returns-in_default-clause-err c = (c.args.tokens.now.items, meets_open_quote _ _ _ c.args.start _ c.requires.read c.requires.begins c.in_default.ensures.none c.line_after-line.ensures)

pub word_token-requires-clause-boundary : goal.word_token-requires-clause-boundary
word_token-requires-clause-boundary c = start_boundary _ _ _ c.requires.text.0 c.requires.read.boundary c.requires.begins

pub read_body-requires-clause-opened : goal.read_body-requires-clause-opened
read_body-requires-clause-opened c =
    rw (c.in_ok-push.ensures.items, c.awaits_after-awaits.ensures, c.in_ok-token.ensures)
    (word_opens _ _ _ _ _ _ _ c.requires.read c.requires.begins c.in-Some.ensures.found c.line_after-line.ensures c.line_after.ensures (rw c.in_ok-token.ensures at c.if-opens.ensures))

pub returns-else-opens-clause-ok : goal.returns-else-opens-clause-ok
returns-else-opens-clause-ok c =
    rw (c.in_ok-push.ensures.items, c.awaits_after-awaits.ensures, c.in_ok-token.ensures)
    (word_read _ _ _ _ _ _ _ _ c.requires.read c.requires.begins c.in-Some.ensures.found c.line_after-line.ensures c.line_after.ensures (rw c.in_ok-token.ensures at c.if-opens.ensures))

pub returns-else-opens-clause-goes : goal.returns-else-opens-clause-goes
returns-else-opens-clause-goes c =
    let goes : c.args.start < c.in-Some.end = word_goes _ _ _ _ c.requires.begins c.in-Some.ensures.found in
    omega (arith, c.requires.begins.after)
