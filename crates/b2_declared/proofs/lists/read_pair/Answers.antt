use Rattle.std.proofs.Common.{Ok}
use Rattle.b2_property_texts.specs.Readings.{property_reading}
use Rattle.b2_declared.proofs.RefusalIsTheStepsFault.{reading_is_fault}
use Rattle.b2_declared.proofs.lists.read_pair.Goals as goal

pub returns-in-Err-clause-fault : goal.returns-in-Err-clause-fault
returns-in-Err-clause-fault c = reading_is_fault c.args.visit.now c.args.call.now (property_reading c.args.registry.now c.args.visit.now.dir c.args.text.now) Ok c.in-Err.fault c.feature_refusal.result c.in-Err.ensures.fault c.feature_refusal.ensures
