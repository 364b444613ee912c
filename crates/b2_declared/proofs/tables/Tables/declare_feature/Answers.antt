use Rattle.std.proofs.Common.{Ok, ◌∷◌, [], ◌++◌, subst}
use Rattle.b2_features.specs.Table.{declared}
use Rattle.b2_features.specs.Faults.{feature_fault, IsBy}
use Rattle.b2_declared.specs.Carrying.{with_features, with_feature}
use Rattle.b2_declared.specs.Views.{seen}
use Rattle.b2_declared.proofs.RefusalIsTheStepsFault.{cause_is_fault}
use Rattle.b2_declared.proofs.tables.Tables.declare_feature.Goals as goal

pub returns-in-Err-clause-fault : goal.returns-in-Err-clause-fault
unfolding with_feature
returns-in-Err-clause-fault c =
    let table = c.args.self.now.registry in
    cause_is_fault c.args.visit.now c.args.call.now (feature_fault table c.args.name.now c.args.values.now c.args.attributes.now)
    (Ok (with_features (seen c.args.self.now) (table ++ declared c.args.name.now c.args.values.now c.args.attributes.now ∷ []))) c.in-Err.fault c.feature_refusal.result
    (subst (λ n. IsBy (feature_fault table n c.args.values.now c.args.attributes.now) c.in-Err.fault) c.as_str.ensures.value c.in-Err.ensures.cause) c.feature_refusal.ensures
