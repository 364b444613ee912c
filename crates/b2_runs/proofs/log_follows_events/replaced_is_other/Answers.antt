use Rattle.b2_runs.proofs.ReplacedIsOther.{replaced_is_other}
use Rattle.b2_runs.proofs.log_follows_events.replaced_is_other.Goals as goal

pub returns : goal.returns
returns c = replaced_is_other
