use Rattle.b2_testing_text.proofs.TextReadsInOneWay.{never_other, tree_is}
use Rattle.b2_testing_text.proofs.defining.text_tree.Goals as goal

pub unreachable-requires : goal.unreachable-requires
unreachable-requires c = never_other c.testing_text.result.now c.in_ok-tree.field-0 c.testing_text.ensures c.in_ok-tree.ensures c.in_default.not-File

pub returns : goal.returns
returns c = tree_is c.testing_text.result.now c.in_ok-tree.field-0 c.in-File.tree c.testing_text.ensures c.in_ok-tree.ensures c.in-File.is
