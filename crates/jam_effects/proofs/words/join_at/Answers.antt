use Rattle.std.proofs.Common.{◌++◌}
use Rattle.jam_expand.specs.Limits.{within}
use Rattle.jam_effects.specs.Spots.{spot_of}
use Rattle.jam_effects.proofs.AnswersDoAsDefined.{answered_err}
use Rattle.jam_effects.proofs.words.join_at.Goals as goal

pub returns-in-Err : goal.returns-in-Err
returns-in-Err c =
    answered_err (λ (u : Unit {0}). c.join.new.gathered) (within (c.args.gathered.now ++ c.args.texts.now)) c.in-Err.fault (spot_of c.args.at.now) c.expand_fault.result
    c.in-Err.ensures.given c.expand_fault.ensures
