-- The declaring calls of a load, and how one of them is refused.
use Rattle.std.specs.Prelude.{◌≡◌, Bool, List, [], Option, Some, None, Result, Ok, Err, slice_get, unwrap_or, if◌then◌else◌}
use Rattle.b2_features.specs.declared.fault.FeatureFault.{FeatureFault}
use Rattle.b2_features.specs.declared.fault.FeatureFault.TheVariants as features
use Rattle.b2_declared.specs.declared.visit.Visit.{Visit}
use Rattle.b2_declared.specs.declared.visit.Call.{Call}
use Rattle.b2_declared.specs.declared.fault.DeclaringFault.{DeclaringFault}
use Rattle.b2_declared.specs.declared.fault.DeclaringFault.TheVariants.{Declaration, Feature, OutOfMemory}

-- a project that was not visited
abbrev pub nowhere : Visit
nowhere = record { dir = []; file = []; «module» = []; parent = None }

-- the project whose file made a call
abbrev pub visit_of : List Visit → Call → Visit
visit_of visits c = unwrap_or (slice_get visits c.project) nowhere

-- the fault of a call that does not declare what its rule may
abbrev pub refusal : Visit → Call → DeclaringFault
refusal v c = Declaration v.file c.rule c.line

-- a step that is refused where something holds
abbrev pub unless : {X : Type 0} → Visit → Call → Bool → Result X DeclaringFault → Result X DeclaringFault
unless v c refused next = if refused then Err (refusal v c) else next

-- a step that is refused where there is a fault of a feature
abbrev pub unless_fault : {X : Type 0} → Visit → Call → Option FeatureFault → Result X DeclaringFault → Result X DeclaringFault
unless_fault v c None next = next
unless_fault v c (Some fault) next = Err (Feature v.file c.line fault)

-- what follows from what was read of property texts
abbrev pub after_reading : {X Y : Type 0} → Visit → Call → Result X FeatureFault → (X → Result Y DeclaringFault) → Result Y DeclaringFault
after_reading v c (Ok x) next = next x
after_reading v c (Err fault) next = Err (Feature v.file c.line fault)

-- what was read of the property texts of a call
abbrev pub at_call : {X : Type 0} → Visit → Call → Result X FeatureFault → Result X DeclaringFault
at_call v c reading = after_reading v c reading Ok

-- ---- answers

-- an answer is this fault, or out of memory
abbrev pub IsRefusal : DeclaringFault → DeclaringFault → Type 0
IsRefusal fault OutOfMemory = Unit {0}
IsRefusal fault answer = answer ≡ fault

-- an answer is a fault of a feature at a call, or out of memory
abbrev pub IsFeatureRefusal : Visit → Call → FeatureFault → DeclaringFault → Type 0
IsFeatureRefusal v c fault OutOfMemory = Unit {0}
IsFeatureRefusal v c features.OutOfMemory answer = ⊥
IsFeatureRefusal v c fault answer = answer ≡ Feature v.file c.line fault
