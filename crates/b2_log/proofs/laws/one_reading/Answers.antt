use Rattle.b2_log.proofs.BytesHaveOneReading as lemmas
use Rattle.b2_log.proofs.laws.one_reading.Goals as goal

pub returns : goal.returns
returns c = lemmas.one_reading
