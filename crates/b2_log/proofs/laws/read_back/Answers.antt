use Rattle.b2_log.proofs.BytesHaveOneReading as lemmas
use Rattle.b2_log.proofs.laws.read_back.Goals as goal

pub returns : goal.returns
returns c = lemmas.read_back
