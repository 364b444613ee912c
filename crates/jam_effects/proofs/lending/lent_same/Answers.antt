use Rattle.jam_grammar.specs.Trees.{arg_tree}
use Rattle.jam_effects.proofs.LentListsDecide.{same_first}
use Rattle.jam_effects.proofs.lending.lent_same.Goals as goal

pub returns-in-Some : goal.returns-in-Some
returns-in-Some c =
    same_first c.args.world.now.now.scopes c.in-Some.first.now (arg_tree c.args.left.now) (arg_tree c.args.right.now) c.same_lent.result c.in-Some.ensures c.same_lent.ensures
