use Rattle.b2_verdicts.proofs.StampsAreCompared.{not_named}
use Rattle.b2_verdicts.proofs.comparing.have_paths.Goals as goal

pub returns-then-not-is_named_at-clause-no : goal.returns-then-not-is_named_at-clause-no
returns-then-not-is_named_at-clause-no c = λ e. not_named c.args.facts.now c.args.logged.now c.args.numbers.now c.loop-place.place c.loop-place-test.true (c.is_named_at.ensures.no c.if-not-is_named_at.true)
