-- Why a request has no plan.
use Rattle.std.specs.Prelude.{ℕ, List}
use Rattle.b2_alternatives.specs.declared.fault.ChoiceFault.{ChoiceFault}
use Rattle.b2_making.specs.Faults.{Fault as Making}

-- The first refusal. Targets are written as in the table of main targets. `E` is why a rule of the project, or the text of a
-- step, has no value.
pub data Fault (E : Type 0) : Type 0 where
  no_target : (name : List ℕ) → Fault E
  target_cycle : (targets : List (List ℕ)) → Fault E
  usage_conflict : (target feature first second : List ℕ) → Fault E
  not_chosen : (fault : ChoiceFault E) → Fault E
  not_made : (fault : Making E) → Fault E
