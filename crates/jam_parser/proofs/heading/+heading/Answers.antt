use Rattle.std.proofs.lemmas.Result.{MatchResult-weaker}
use Rattle.jam_parser.proofs.HeadingsAreReadInTurn.{modifier_read, modifier_fault, name_read}
use Rattle.jam_parser.proofs.heading.+heading.Goals as goal

pub returns-in-Some : goal.returns-in-Some
returns-in-Some t c =
    let at = c.in-Some in
    let d = c.args.depth in
    MatchResult-weaker c.heading.result c.heading.ensures
    (λ r h. modifier_read c.args.stood at.more r.0 r.1 c.args.rest.now at.after.now r.2.now d at.ensures h)
    (λ e h. modifier_fault c.args.stood at.more c.args.rest.now at.after.now d e at.ensures h)

pub returns-in_ok-copy-in-Some-word_of : goal.returns-in_ok-copy-in-Some-word_of
returns-in_ok-copy-in-Some-word_of t c =
    let at = c.in-Some-word_of in
    name_read c.args.stood at.first.now c.args.rest.now at.after.now c.in_ok-copy-in-Some-word_of.field-0 c.args.depth c.in-None.ensures at.ensures.0 at.ensures.1 c.in_ok-copy-in-Some-word_of.ensures
