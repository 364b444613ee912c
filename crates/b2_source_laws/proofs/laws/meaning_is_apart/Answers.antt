use Rattle.b2_source_laws.proofs.MeaningIsApart.{meaning_is_apart}
use Rattle.b2_source_laws.proofs.laws.meaning_is_apart.Goals as goal

pub returns : goal.returns
returns c = meaning_is_apart c.ids_are_distinct.ensures c.plans_are_apart.ensures
