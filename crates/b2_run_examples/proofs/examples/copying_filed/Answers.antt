use Rattle.b2_run_examples.proofs.LogIsTrueEvenTorn as lemmas
use Rattle.b2_run_examples.proofs.examples.copying_filed.Goals as goal

pub returns : goal.returns
returns c = lemmas.copying_filed
