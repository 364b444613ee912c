use Rattle.jam_journal.specs.Scopes.{look}
use Rattle.jam_expand.specs.Expansions.{expansion}
use Rattle.jam_effects.specs.Views.{value}
use Rattle.jam_effects.specs.Spots.{spot_of}
use Rattle.jam_effects.proofs.AnswersDoAsDefined.{answered_err}
use Rattle.jam_effects.proofs.words.word.Goals as goal

pub returns-in-Err : goal.returns-in-Err
returns-in-Err c =
    answered_err value (expansion (look c.args.world.now.now.scopes) c.args.word.now) c.in-Err.fault (spot_of c.args.at.now) c.expand_fault.result
    c.in-Err.ensures c.expand_fault.ensures
