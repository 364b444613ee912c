use Rattle.b2_runs.proofs.TornAppendLeaves as lemmas
use Rattle.b2_runs.proofs.log_file_stays_true.torn_append_leaves.Goals as goal

pub returns : goal.returns
returns c = lemmas.torn_append_leaves
