use Rattle.b2_generators.proofs.AnswerNamesShortestChains.{id_none, id_some}
use Rattle.b2_generators.proofs.chain.push_id.Goals as goal

pub returns-in-None : goal.returns-in-None
returns-in-None c = id_none c.args.generators.now c.args.place c.args.ids.now c.in-None.ensures

pub returns-in_ok-push-in-Some : goal.returns-in_ok-push-in-Some
returns-in_ok-push-in-Some c = id_some c.args.generators.now c.args.place c.args.ids.now c.push.new.self c.in_ok-copy-in-Some.field-0 c.in-Some.generator.now c.in-Some.ensures c.in_ok-copy-in-Some.ensures c.in_ok-push-in-Some.ensures.ok
