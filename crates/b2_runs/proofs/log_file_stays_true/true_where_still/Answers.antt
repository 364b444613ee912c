use Rattle.b2_runs.proofs.TrueByFile as lemmas
use Rattle.b2_runs.proofs.log_file_stays_true.true_where_still.Goals as goal

pub returns : goal.returns
returns c = lemmas.true_where_still
