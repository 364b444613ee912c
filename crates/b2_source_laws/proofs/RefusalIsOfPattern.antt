-- A call that is refused although its words and files come to a plan is refused for a pattern that reads as one.
use Rattle.std.proofs.Common.{◌≡◌, List, Some, sym, ◌∙◌, subst}
use Rattle.b2_host.specs.Disks.{Disk}
use Rattle.b2_prepare.specs.Laws.{OneMeaning}
use Rattle.b2_refusals.specs.Wholes.{IsPlanRefusal}
use Rattle.b2_refusals.specs.declared.fault.Fault.TheVariants as faults
use Rattle.b2_refusals.specs.declared.fault.PlanRefusal.{PlanRefusal}
use Rattle.b2_command_line.specs.Words.{Word}
use Rattle.b2_top.specs.Causes.{HasNoPlan}
use Rattle.b2_top.specs.Plans.{HasPlan}
use Rattle.b2_top.specs.RefusalCauses.{HasCause, IsOfPattern}
use Rattle.b2_top.specs.declared.build_command.BuildCommand.{BuildCommand}
use Rattle.b2_top.proofs.OnlyPatternsRefuseAPlan.{pattern_refused}

one_command : (a b : BuildCommand) → Some a ≡ Some b → a ≡ b
one_command a b e = cc

-- what a call is refused for that has a plan
pub refused_for_pattern : OneMeaning → (words : List Word) (disk : Disk) (plan : HasPlan words disk) (why : PlanRefusal) → IsPlanRefusal why → (echoes : List Word)
    → HasNoPlan words disk echoes (faults.Plan why) → IsOfPattern (faults.Plan why)
refused_for_pattern one_meaning words disk plan why whole echoes none =
    let same : plan.command ≡ none.command = one_command plan.command none.command (sym plan.asked ∙ none.asked) in
    (pattern_refused one_meaning disk plan.command.words plan.echoes echoes plan.planned plan.means why whole
    (subst (λ (c : BuildCommand). HasCause disk c.words echoes (faults.Plan why)) (sym same) none.cause)).0
