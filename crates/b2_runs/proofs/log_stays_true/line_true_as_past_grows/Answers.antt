use Rattle.b2_runs.proofs.TrueWithLine as lemmas
use Rattle.b2_runs.proofs.log_stays_true.line_true_as_past_grows.Goals as goal

pub returns : goal.returns
returns c = lemmas.line_grows
