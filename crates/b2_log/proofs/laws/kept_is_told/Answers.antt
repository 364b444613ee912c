use Rattle.b2_log.proofs.KeptLinesTellTheSame as lemmas
use Rattle.b2_log.proofs.laws.kept_is_told.Goals as goal

pub returns : goal.returns
returns c = lemmas.kept_is_told
