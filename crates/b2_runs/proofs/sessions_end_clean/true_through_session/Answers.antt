use Rattle.b2_runs.proofs.TrueThroughSession.{true_through_session}
use Rattle.b2_runs.proofs.sessions_end_clean.true_through_session.Goals as goal

pub returns : goal.returns
returns g c = true_through_session g.F.Follow.follows g.F.Follow.needs
