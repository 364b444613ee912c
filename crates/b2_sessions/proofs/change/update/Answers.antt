use Rattle.std.proofs.Common.{[], ◌∷◌, refl}
use Rattle.b2_top.specs.Askings.{build_of}
use Rattle.b2_sessions.proofs.EventsFollowOneAnother.{ready_after}
use Rattle.b2_sessions.proofs.change.update.Goals as goal

pub call-answer-requires : goal.call-answer-requires
call-answer-requires g c = c.requires.ready.idle

pub returns-clause-more : goal.returns-clause-more
returns-clause-more g c =
    let ready = ready_after (build_of c.args.words.now) c.call-answer.result _ _ c.requires.ready.calm c.call-answer.ensures in
    (c.call-answer.result ∷ [], c.push_reserved.ensures.items, (c.call-answer.result, refl, c.call-answer.ensures, ready.idle))

pub returns-clause-ready : goal.returns-clause-ready
returns-clause-ready g c = ready_after (build_of c.args.words.now) c.call-answer.result _ _ c.requires.ready.calm c.call-answer.ensures
