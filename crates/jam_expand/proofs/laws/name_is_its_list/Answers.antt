use Rattle.jam_expand.proofs.PlainWordsExpandToThemselves.{name_is_its_list}
use Rattle.jam_expand.proofs.laws.name_is_its_list.Goals as goal

pub returns : goal.returns
returns c = name_is_its_list
