use Rattle.b2_property_texts.proofs.SplitGivesTheNamedPair.{pair_of, pair_clean}
use Rattle.b2_property_texts.proofs.cuts.pair_after.Goals as goal

pub returns-clause-named : goal.returns-clause-named
returns-clause-named c = pair_of c.args.rest.now c.split_once.result c.split_once.ensures.cases

pub returns-clause-clean : goal.returns-clause-clean
returns-clause-clean c = pair_clean c.args.rest.now c.split_once.result c.requires c.split_once.ensures.cases
