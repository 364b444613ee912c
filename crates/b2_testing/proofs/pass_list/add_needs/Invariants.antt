use Rattle.std.proofs.Common.{take}
use Rattle.b2_testing.specs.Leading.{HasNeeds}
use Rattle.b2_testing.proofs.pass_list.add_needs.Given as goal

abbrev pub invariant-loop-path : goal.invariant-loop-path
invariant-loop-path l = HasNeeds l.plan.steps l.number (take l.path-index l.ins) l.initial.dependents.items l.dependents.items
