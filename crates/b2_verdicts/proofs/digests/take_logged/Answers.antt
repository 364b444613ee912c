use Rattle.b2_facts.proofs.IncludesAreNotLearned.{includes_digest}
use Rattle.b2_verdicts.proofs.DigestsAreCompared.{logged_known}
use Rattle.b2_verdicts.proofs.digests.take_logged.Goals as goal

pub returns : goal.returns
returns c = λ disk. logged_known c.args.facts.now c.set_digest.new.self c.args.number c.args.stamp c.args.digest.now c.in_ok-digest.digest disk c.in_ok-digest.ensures (c.wants_digest.ensures c.if-not-wants_digest.false).1 c.set_digest.ensures.learns (includes_digest c.args.facts.now c.set_digest.new.self c.args.number c.in_ok-digest.digest c.requires.number c.set_digest.ensures.exact) c.set_digest.ensures.told
