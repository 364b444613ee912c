use Rattle.b2_runs.proofs.DigestsTell.{already_is_noted}
use Rattle.b2_runs.proofs.log_follows_events.already_is_noted.Goals as goal

pub returns : goal.returns
returns c = already_is_noted
