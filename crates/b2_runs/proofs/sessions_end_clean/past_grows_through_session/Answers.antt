use Rattle.b2_runs.proofs.TrueThroughSession.{past_grows_through_session}
use Rattle.b2_runs.proofs.sessions_end_clean.past_grows_through_session.Goals as goal

pub returns : goal.returns
returns g c = past_grows_through_session g.F.Follow.follows
