use Rattle.std.specs.Prelude.{◌≡◌, Bool, false, List}
use Rattle.b2_features.specs.Table.{DeclaredFeature}
use Rattle.b2_props.specs.Sets.{Pair}
use Rattle.b2_props.specs.declared.requirement.Requirement.{Requirement}
use Rattle.b2_refine.specs.Answers.{Answer}
use Rattle.b2_refine.specs.Conditions.{IsUnstable, IsAsked}
use Rattle.b2_refine.specs.declared.fault.RefineFault.{RefineFault}
use Rattle.b2_refine.specs.declared.fault.RefineFault.TheVariants.{Unstable, Asked, OutOfMemory}

-- an answer that says unstable has the two sets of the last round and the one after it
abbrev pub IsUnstableBy : {F : Type 0} → Answer F → List DeclaredFeature → List Pair → List Requirement → RefineFault F → Type 0
IsUnstableBy answer table request required (Unstable first second) = IsUnstable answer table request required first second
IsUnstableBy answer table request required (Asked fault) = Unit {0}
IsUnstableBy answer table request required OutOfMemory = Unit {0}

-- an answer that says asked has the fault that the evaluation meets, or one of the host, or out of memory
abbrev pub IsAskedBy : {F : Type 0} → (F → Bool) → (F → Bool) → Answer F → List DeclaredFeature → List Pair → List Requirement → RefineFault F → Type 0
IsAskedBy is_host is_memory answer table request required (Unstable first second) = Unit {0}
IsAskedBy is_host is_memory answer table request required (Asked fault) = is_host fault ≡ false → is_memory fault ≡ false → IsAsked answer table request required fault
IsAskedBy is_host is_memory answer table request required OutOfMemory = Unit {0}

-- what is known of each fault that a rule answers is known of the one of an answer
abbrev pub IsKnownFault : {F : Type 0} → (F → Type 0) → RefineFault F → Type 0
IsKnownFault Known (Unstable first second) = Unit {0}
IsKnownFault Known (Asked fault) = Known fault
IsKnownFault Known OutOfMemory = Unit {0}

-- whether an answer has a fault of this kind
abbrev pub is_asked : {F : Type 0} → (F → Bool) → RefineFault F → Bool
is_asked test (Unstable first second) = false
is_asked test (Asked fault) = test fault
is_asked test OutOfMemory = false
