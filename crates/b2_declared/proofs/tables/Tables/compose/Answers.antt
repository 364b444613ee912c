use Rattle.std.proofs.Common.{Ok, subst}
use Rattle.b2_features.specs.Table.{composed}
use Rattle.b2_features.specs.Faults.{compose_fault, IsBy}
use Rattle.b2_declared.specs.Carrying.{with_features, with_parts}
use Rattle.b2_declared.specs.Views.{seen}
use Rattle.b2_declared.proofs.RefusalIsTheStepsFault.{cause_is_fault}
use Rattle.b2_declared.proofs.tables.Tables.compose.Goals as goal

pub returns-in-Err-clause-fault : goal.returns-in-Err-clause-fault
unfolding with_parts
returns-in-Err-clause-fault c =
    let table = c.args.self.now.registry in
    let p = c.args.property.now in
    cause_is_fault c.args.visit.now c.args.call.now (compose_fault table p.0 p.1 c.args.parts.now) (Ok (with_features (seen c.args.self.now) (composed table p.0 p.1 c.args.parts.now)))
    c.in-Err.fault c.feature_refusal.result
    (subst (λ n. IsBy (compose_fault table n p.1 c.args.parts.now) c.in-Err.fault) c.as_str.ensures.value (subst (λ w. IsBy (compose_fault table c.as_str.result.now w c.args.parts.now) c.in-Err.fault) c.as_str-2.ensures.value c.in-Err.ensures.cause)) c.feature_refusal.ensures
