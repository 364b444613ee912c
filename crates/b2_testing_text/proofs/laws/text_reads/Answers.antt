use Rattle.b2_testing_text.proofs.TextReadsInOneWay.{text_reads}
use Rattle.b2_testing_text.proofs.laws.text_reads.Goals as goal

pub returns : goal.returns
returns c = text_reads
