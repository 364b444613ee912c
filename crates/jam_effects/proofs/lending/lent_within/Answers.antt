use Rattle.jam_grammar.specs.Trees.{arg_tree, args_tree}
use Rattle.jam_effects.proofs.LentListsDecide.{within_first}
use Rattle.jam_effects.proofs.lending.lent_within.Goals as goal

pub returns-in-Some : goal.returns-in-Some
returns-in-Some c =
    within_first c.args.world.now.now.scopes c.in-Some.texts.now (arg_tree c.args.left.now) (args_tree c.args.among.now) c.within_lent.result c.in-Some.ensures c.within_lent.ensures
