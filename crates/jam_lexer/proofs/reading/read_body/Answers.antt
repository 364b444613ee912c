use Rattle.jam_lexer.proofs.ReadingGoesTokenByToken.{body_read, meets_open_actions}
use Rattle.jam_lexer.proofs.reading.read_body.Goals as goal

pub returns-in_default-clause-err : goal.returns-in_default-clause-err
returns-in_default-clause-err c = (c.args.tokens.now.items, meets_open_actions _ _ _ _ c.requires.opened c.in_default.ensures.none)

pub returns-clause-ok : goal.returns-clause-ok
returns-clause-ok c = rw (c.in_ok-push-2.ensures.items, c.in_ok-push.ensures.items, c.in_ok-body.ensures, c.in_ok-close.ensures)
    (body_read _ _ _ _ _ c.requires.text.0 c.requires.opened.has_read c.in-Some.ensures.found c.line_after-line.ensures)
