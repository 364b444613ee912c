-- Out of memory as one fault.
use Rattle.std.specs.Prelude.{◌≢◌}
use Rattle.b2_alternatives.specs.declared.fault.ChoiceFault.{ChoiceFault}
use Rattle.b2_alternatives.specs.declared.fault.ChoiceFault.TheVariants as choices
use Rattle.b2_making.specs.declared.fault.MakingFault.{MakingFault}
use Rattle.b2_making.specs.declared.fault.MakingFault.TheVariants as makings
use Rattle.b2_generate.specs.declared.fault.GenFault.{GenFault}
use Rattle.b2_generate.specs.declared.fault.GenFault.TheVariants as faults

-- the one of a crate below is that of this one
abbrev pub whole_choice : {E : Type 0} → ChoiceFault E → GenFault E
whole_choice (choices.NoAlternative target set) = faults.NotChosen (choices.NoAlternative target set)
whole_choice (choices.AmbiguousAlternative target set i k) = faults.NotChosen (choices.AmbiguousAlternative target set i k)
whole_choice (choices.Unstable target first second) = faults.NotChosen (choices.Unstable target first second)
whole_choice (choices.BadAnswer target rule word) = faults.NotChosen (choices.BadAnswer target rule word)
whole_choice (choices.Eval fault) = faults.NotChosen (choices.Eval fault)
whole_choice choices.OutOfMemory = faults.OutOfMemory

abbrev pub whole_making : {E : Type 0} → MakingFault E → GenFault E
whole_making (makings.NoChain from to) = faults.NotMade (makings.NoChain from to)
whole_making (makings.TwoChains from to first second) = faults.NotMade (makings.TwoChains from to first second)
whole_making (makings.PathClash path) = faults.NotMade (makings.PathClash path)
whole_making (makings.LocationOutside path) = faults.NotMade (makings.LocationOutside path)
whole_making (makings.TooManySteps count) = faults.NotMade (makings.TooManySteps count)
whole_making (makings.Eval fault) = faults.NotMade (makings.Eval fault)
whole_making makings.OutOfMemory = faults.OutOfMemory

abbrev pub whole_fault : {E : Type 0} → GenFault E → GenFault E
whole_fault (faults.NoTarget name) = faults.NoTarget name
whole_fault (faults.TargetCycle targets) = faults.TargetCycle targets
whole_fault (faults.UsageConflict target feature first second) = faults.UsageConflict target feature first second
whole_fault (faults.NotChosen fault) = whole_choice fault
whole_fault (faults.NotMade fault) = whole_making fault
whole_fault faults.OutOfMemory = faults.OutOfMemory

-- a fault is not that of a crate below for out of memory
pub record IsWhole {E : Type 0} (fault : GenFault E) : Type 0 where
  pub chosen : fault ≢ faults.NotChosen choices.OutOfMemory
  pub made : fault ≢ faults.NotMade makings.OutOfMemory
