use Rattle.std.proofs.Common.{Ok}
use Rattle.b2_declared.specs.Gathering.{usages_in}
use Rattle.b2_declared.proofs.RefusalIsTheStepsFault.{reading_is_fault}
use Rattle.b2_declared.proofs.lists.read_usage_texts.Goals as goal

pub returns-in-Err-clause-fault : goal.returns-in-Err-clause-fault
returns-in-Err-clause-fault c = reading_is_fault c.args.visit.now c.args.call.now (usages_in c.args.registry.now c.args.visit.now c.args.texts.now) Ok c.in-Err.fault c.feature_refusal.result c.in-Err.ensures.fault c.feature_refusal.ensures
