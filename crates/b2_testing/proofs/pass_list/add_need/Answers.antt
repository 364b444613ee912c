use Rattle.std.proofs.Common.{sym, ◌∙◌, arith}
use Rattle.b2_sched.proofs.WantedFilesAddTheirMakers.{maker_within}
use Rattle.b2_testing.proofs.pass_list.add_need.Goals as goal

pub index_mut-list-requires : goal.index_mut-list-requires
index_mut-list-requires c = let within = maker_within c.args.plan.now.steps c.args.path.now c.in-Some.maker (sym c.maker.ensures ∙ c.in-Some.is) in omega (arith, within.1)
