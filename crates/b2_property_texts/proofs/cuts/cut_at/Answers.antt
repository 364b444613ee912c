use Rattle.b2_property_texts.proofs.CutIsAtFirstMark.{cut_of, cut_clean}
use Rattle.b2_property_texts.proofs.cuts.cut_at.Goals as goal

pub returns-clause-cut : goal.returns-clause-cut
returns-clause-cut c = cut_of c.args.mark.now c.args.text.now c.split_once.result c.requires.mark c.split_once.ensures.cases

pub returns-clause-clean : goal.returns-clause-clean
returns-clause-clean c = cut_clean c.args.mark.now c.args.text.now c.split_once.result c.requires.text c.split_once.ensures.cases
