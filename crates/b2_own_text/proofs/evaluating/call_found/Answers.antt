use Rattle.jam_effects.specs.Spots.{spot_of}
use Rattle.b2_own_text.proofs.EvaluationsGiveWhatIsTold.{no_rule, no_rule_there, rule_there}
use Rattle.b2_own_text.proofs.evaluating.call_found.Goals as goal

pub returns-then-is_none-clause-does : goal.returns-then-is_none-clause-does
returns-then-is_none-clause-does g c =
    no_rule (spot_of c.args.at.now) c.args.rule.now c.args.properties.now c.args.world.now (g.F.Files.outside c.args.files.now) c.unknown_rule.result
    (no_rule_there _ _ _ c.args.rule.now c.as_str.result.now c.args.world.now.now c.as_str.ensures.value c.find_rule.ensures.found c.is_none.ensures c.if-is_none.true) c.unknown_rule.ensures

pub call_there-requires : goal.call_there-requires
call_there-requires g c = rule_there _ _ _ c.args.rule.now c.as_str.result.now c.args.world.now.now c.as_str.ensures.value c.find_rule.ensures.found c.is_none.ensures c.if-is_none.false

pub returns-clause-does : goal.returns-clause-does
returns-clause-does g c = c.call_there.ensures.does
