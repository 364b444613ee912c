-- Laws of refusals.
use Rattle.std.specs.Prelude.{◌≢◌}
use Rattle.b2_refusals.specs.Wholes.{IsEvalRefusal, IsLoadRefusal}
use Rattle.b2_project_walk.specs.Faults.{IsWhole}
use Rattle.b2_project_walk.specs.declared.fault.LoadFault.{LoadFault}
use Rattle.b2_project_walk.specs.declared.fault.LoadFault.TheVariants as loading
use Rattle.jam_effects.specs.Causes.{HoldsNoMemory}
use Rattle.jam_effects.specs.declared.fault.EvalFault.{EvalFault}
use Rattle.jam_effects.specs.declared.fault.EvalFault.TheVariants as evaluating

-- Why an evaluation has no value is a refusal, unless it is a fault of the host or out of memory.
abbrev pub EvaluationsAreRefused : Type 0
EvaluationsAreRefused = (fault : EvalFault) → HoldsNoMemory fault → fault ≢ evaluating.Host → fault ≢ evaluating.OutOfMemory → IsEvalRefusal fault

-- Why a load has no project is a refusal, unless it is a fault of the host or out of memory.
abbrev pub LoadsAreRefused : Type 0
LoadsAreRefused = (fault : LoadFault) → IsWhole fault → fault ≢ loading.Host → fault ≢ loading.OutOfMemory → IsLoadRefusal fault
