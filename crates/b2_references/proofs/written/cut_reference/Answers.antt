use Rattle.std.proofs.Common.{lit<}
use Rattle.std.specs.Prelude.{codes}
use Rattle.b2_property_texts.proofs.CutIsAtFirstMark.{cut_of, cut_clean}
use Rattle.b2_references.proofs.written.cut_reference.Goals as goal

pub returns-clause-cut : goal.returns-clause-cut
returns-clause-cut c = cut_of (codes "//") c.args.text.now c.split_once.result (lit< tt) c.split_once.ensures.cases

pub returns-clause-clean : goal.returns-clause-clean
returns-clause-clean c = cut_clean (codes "//") c.args.text.now c.split_once.result c.requires c.split_once.ensures.cases
