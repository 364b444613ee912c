use Rattle.b2_testing.specs.Leading.{AreDependentsTo}
use Rattle.b2_testing.proofs.pass_list.dependents_of.Given as goal

abbrev pub invariant-loop-place : goal.invariant-loop-place
invariant-loop-place l = AreDependentsTo l.plan.steps l.place l.dependents.items
