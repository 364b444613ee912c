use Rattle.jam_expand.specs.Limits.{within}
use Rattle.jam_effects.specs.Spots.{spot_of}
use Rattle.jam_effects.proofs.AnswersDoAsDefined.{answered_err}
use Rattle.jam_effects.proofs.calling.small.Goals as goal

pub returns-in-Err : goal.returns-in-Err
returns-in-Err c =
    answered_err (λ (u : Unit {0}). c.args.texts.now) (within c.args.texts.now) c.in-Err.fault (spot_of c.args.at.now) c.expand_fault.result
    c.in-Err.ensures c.expand_fault.ensures
