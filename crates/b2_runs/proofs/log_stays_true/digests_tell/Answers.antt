use Rattle.b2_runs.proofs.DigestsTell.{digests_tell}
use Rattle.b2_runs.proofs.log_stays_true.digests_tell.Goals as goal

pub returns : goal.returns
returns c = digests_tell
