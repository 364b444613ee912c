-- What the code answers, as outcomes of the definition, where the project's own text is told; and what is promised of the evaluation.
use Rattle.std.specs.Prelude.{◌≡◌, ℕ, Bool, true, false, Option, Some, None, List, Result, IfErr}
use Rattle.b2_declared.specs.declared.whole.Declared.{Declared}
use Rattle.b2_evaluator.specs.Answers.{Answers}
use Rattle.b2_base.specs.Counts.{IsCounted}
use Rattle.b2_alternatives.specs.IndirectRules as asking
use Rattle.b2_alternatives.specs.declared.fault.ChoiceFault.{ChoiceFault}
use Rattle.b2_alternatives.specs.declared.fault.ChoiceFault.TheVariants as choices
use Rattle.b2_making.specs.Answers as making
use Rattle.b2_making.specs.declared.fault.MakingFault.{MakingFault}
use Rattle.b2_making.specs.declared.fault.MakingFault.TheVariants as makings
use Rattle.b2_making.specs.Faults as made
use Rattle.b2_generate.specs.Faults.{Fault, no_target, target_cycle, usage_conflict, not_chosen, not_made}
use Rattle.b2_generate.specs.LoadedProjects.{LoadedProject}
use Rattle.b2_generate.specs.declared.fault.GenFault.{GenFault}
use Rattle.b2_generate.specs.declared.fault.GenFault.TheVariants as faults

-- a loaded project whose own text has these answers
abbrev pub loaded_of : {E : Type 0} → Declared → List (List ℕ) → Answers E → LoadedProject E
loaded_of d roots told = record { declared = d; roots = roots; answers = told }

-- ---- a fault as data; none for a fault of the host and for out of memory

abbrev pub unless : {E : Type 0} → Bool → Bool → Fault E → Option (Fault E)
unless false false fault = Some fault
unless false true fault = None
unless true is_memory fault = None

module _ {E : Type 0} (is_host is_out : E → Bool) where
  abbrev pub chosen_fault : ChoiceFault E → Option (Fault E)
  chosen_fault (choices.NoAlternative target set) = Some (not_chosen (choices.NoAlternative target set))
  chosen_fault (choices.AmbiguousAlternative target set i k) = Some (not_chosen (choices.AmbiguousAlternative target set i k))
  chosen_fault (choices.Unstable target first second) = Some (not_chosen (choices.Unstable target first second))
  chosen_fault (choices.BadAnswer target rule word) = Some (not_chosen (choices.BadAnswer target rule word))
  chosen_fault (choices.Eval fault) = unless (is_host fault) (is_out fault) (not_chosen (choices.Eval fault))
  chosen_fault choices.OutOfMemory = None

  abbrev pub made_fault : MakingFault E → Option (Fault E)
  made_fault (makings.NoChain from to) = Some (not_made (made.no_chain from to))
  made_fault (makings.TwoChains from to first second) = Some (not_made (made.two_chains from to first second))
  made_fault (makings.PathClash path) = Some (not_made (made.path_clash path))
  made_fault (makings.LocationOutside path) = Some (not_made (made.location_outside path))
  made_fault (makings.TooManySteps count) = Some (not_made (made.too_many_steps count))
  made_fault (makings.Eval fault) = unless (is_host fault) (is_out fault) (not_made (made.eval fault))
  made_fault makings.OutOfMemory = None

  abbrev pub fault_of : GenFault E → Option (Fault E)
  fault_of (faults.NoTarget name) = Some (no_target name)
  fault_of (faults.TargetCycle targets) = Some (target_cycle targets)
  fault_of (faults.UsageConflict target feature first second) = Some (usage_conflict target feature first second)
  fault_of (faults.NotChosen fault) = chosen_fault fault
  fault_of (faults.NotMade fault) = made_fault fault
  fault_of faults.OutOfMemory = None

-- something holds of a fault, where there is one
abbrev pub IfFault : {E : Type 0} → (Fault E → Type 0) → Option (Fault E) → Type 0
IfFault Holds None = Unit {0}
IfFault Holds (Some fault) = Holds fault

-- it holds of what the code answers, unless that is a fault of the host or out of memory
abbrev pub IsRefusal : {E : Type 0} → (E → Bool) → (E → Bool) → (Fault E → Type 0) → GenFault E → Type 0
IsRefusal is_host is_out Holds fault = IfFault Holds (fault_of is_host is_out fault)

-- ---- the evaluation

-- whether a fault is one of the evaluation of this kind
abbrev pub is_eval : {E : Type 0} → (E → Bool) → GenFault E → Bool
is_eval test (faults.NoTarget name) = false
is_eval test (faults.TargetCycle targets) = false
is_eval test (faults.UsageConflict target feature first second) = false
is_eval test (faults.NotChosen fault) = asking.is_eval test fault
is_eval test (faults.NotMade fault) = making.is_of_eval test fault
is_eval test faults.OutOfMemory = false

-- whether a fault is out of memory, where this tells which ones of the evaluation are
abbrev pub is_memory : {E : Type 0} → (E → Bool) → GenFault E → Bool
is_memory test (faults.NoTarget name) = false
is_memory test (faults.TargetCycle targets) = false
is_memory test (faults.UsageConflict target feature first second) = false
is_memory test (faults.NotChosen fault) = asking.is_memory test fault
is_memory test (faults.NotMade fault) = making.is_of_eval test fault
is_memory test faults.OutOfMemory = true

-- what is known of each fault of the evaluation is known of the one of an answer
abbrev pub IsKnown : {E : Type 0} → (E → Type 0) → GenFault E → Type 0
IsKnown Known (faults.NoTarget name) = Unit {0}
IsKnown Known (faults.TargetCycle targets) = Unit {0}
IsKnown Known (faults.UsageConflict target feature first second) = Unit {0}
IsKnown Known (faults.NotChosen fault) = asking.IsKnown Known fault
IsKnown Known (faults.NotMade fault) = making.IsKnownFault Known fault
IsKnown Known faults.OutOfMemory = Unit {0}

-- A call leaves what the evaluation tells and keeps, counts a fault of the host where it answers with one, and promises of a fault
-- what the evaluation promises.
pub record Leaves {S E K T : Type 0} (answers : S → Option (Answers E)) (kept : S → K) (faults : S → ℕ) (is_host is_out : E → Bool) (CanFault : K → E → Type 0) (old new : S) (result : Result T (GenFault E)) : Type 0 where
  pub same_answers : answers new ≡ answers old
  pub same_kept : kept new ≡ kept old
  pub counted : IsCounted (is_eval is_host) (is_memory is_out) (faults old) (faults new) result
  pub known : IfErr result (IsKnown (CanFault (kept old)))
