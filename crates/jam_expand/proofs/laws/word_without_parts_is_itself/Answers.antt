use Rattle.jam_expand.proofs.PlainWordsExpandToThemselves.{no_part_is_itself, no_signs_is_itself}
use Rattle.jam_expand.proofs.laws.word_without_parts_is_itself.Goals as goal

pub returns-clause-no_part : goal.returns-clause-no_part
returns-clause-no_part c = no_part_is_itself

pub returns-clause-no_signs : goal.returns-clause-no_signs
returns-clause-no_signs c = no_signs_is_itself
