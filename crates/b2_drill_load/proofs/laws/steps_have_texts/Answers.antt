use Rattle.b2_drill_load.proofs.StepsHaveTexts.{text_in_copy}
use Rattle.b2_drill_load.proofs.laws.steps_have_texts.Goals as goal

pub returns : goal.returns
returns c = text_in_copy
