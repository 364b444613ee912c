use Rattle.jam_grammar.proofs.SameSayingReadsAlike.{asked_reads}
use Rattle.jam_grammar.proofs.laws.alike.Goals as goal

pub returns : goal.returns
returns c = asked_reads
