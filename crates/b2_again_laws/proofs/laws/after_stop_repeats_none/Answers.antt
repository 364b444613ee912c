use Rattle.b2_again_laws.proofs.NothingIsRepeated.{after_stop_repeats_none}
use Rattle.b2_again_laws.proofs.laws.after_stop_repeats_none.Goals as goal

pub returns : goal.returns
returns c = after_stop_repeats_none c.one_meaning.ensures
