use Rattle.std.proofs.Common.{List, sym, subst}
use Rattle.b2_plan.specs.declared.step.Step.{Step}
use Rattle.b2_virtual.specs.Ready.{IsReady}
use Rattle.b2_virtual.proofs.MapHoldsExactlyTheOutputs.{ready_empty}
use Rattle.b2_virtual.proofs.builder.Builder.new.Goals as goal

pub invariant_of-result : goal.invariant_of-result
invariant_of-result c = subst (λ (steps : List Step). IsReady steps c.new-numbers.result) (sym c.new-steps.ensures) (ready_empty c.new-numbers.result c.new-numbers.ensures)
