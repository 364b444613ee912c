use Rattle.b2_drill_text.proofs.TokensSpellTheTree.{drill_reads}
use Rattle.b2_drill_text.proofs.laws.drill_reads.Goals as goal

pub returns : goal.returns
returns c = drill_reads
