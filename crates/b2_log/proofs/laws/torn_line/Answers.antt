use Rattle.b2_log.proofs.BytesHaveOneReading as lemmas
use Rattle.b2_log.proofs.laws.torn_line.Goals as goal

pub returns : goal.returns
returns c = lemmas.torn_line
