use Rattle.std.proofs.Common.{[], ◌∷◌, refl}
use Rattle.b2_sessions.proofs.change.stop.Goals as goal

pub returns-clause-more : goal.returns-clause-more
returns-clause-more g c = (c.stopped-answer.result ∷ [], c.push_reserved.ensures.items, (c.stopped-answer.result, refl, c.stopped-answer.ensures.stopped))
