-- A step that is refused has the fault that is answered, and one that is not refused goes on; for each kind of refusal.
use Rattle.std.proofs.Common.{◌≡◌, Bool, true, false, Option, None, Ok, Err, sym, ◌∙◌, ap, subst}
use Rattle.std.specs.Prelude.{Result}
use Rattle.b2_features.specs.declared.fault.FeatureFault.{FeatureFault}
use Rattle.b2_features.specs.declared.fault.FeatureFault.TheVariants.{Twice, Unknown, BadValue, ComposeConflict, OutOfMemory}
use Rattle.b2_features.specs.Faults.{IsBy}
use Rattle.b2_property_texts.specs.Readings.{IsFaultOf as IsReadFault}
use Rattle.b2_declared.specs.declared.fault.DeclaringFault.{DeclaringFault}
use Rattle.b2_declared.specs.declared.fault.DeclaringFault.TheVariants.{Declaration, Feature, OutOfMemory as Exhausted}
use Rattle.b2_declared.specs.declared.visit.Visit.{Visit}
use Rattle.b2_declared.specs.declared.visit.Call.{Call}
use Rattle.b2_declared.specs.Outcomes.{IsFaultOf}
use Rattle.b2_declared.specs.DeclaringCalls.{refusal, unless, unless_fault, after_reading, at_call, IsRefusal, IsFeatureRefusal}

module _ (v : Visit) (c : Call) where
  -- an answer that refuses a call is the fault of a step that is refused
  pub refused_is_fault : {X : Type 0} (outcome : Result X DeclaringFault) (answer : DeclaringFault) → outcome ≡ Err (refusal v c) → IsRefusal (refusal v c) answer → IsFaultOf outcome answer
  refused_is_fault outcome (Declaration path rule line) e answers = e ∙ ap Err (sym answers)
  refused_is_fault outcome (Feature path line fault) e answers = cc
  refused_is_fault outcome Exhausted e answers = tt

  -- the same of a step that is refused where something holds
  pub unless_refused : {X : Type 0} (refused : Bool) (next : Result X DeclaringFault) (answer : DeclaringFault) → refused ≡ true → IsRefusal (refusal v c) answer → IsFaultOf (unless v c refused next) answer
  unless_refused refused next answer e answers = refused_is_fault (unless v c refused next) answer (ap (λ b. unless v c b next) e) answers

  -- an answer with the fault of a feature is that of a step that has this fault
  pub feature_is_fault : {X : Type 0} (outcome : Result X DeclaringFault) (fault : FeatureFault) (answer : DeclaringFault) → outcome ≡ Err (Feature v.file c.line fault) → IsFeatureRefusal v c fault answer → IsFaultOf outcome answer
  feature_is_fault outcome fault Exhausted e answers = tt
  feature_is_fault outcome OutOfMemory (Declaration path rule line) e answers = absurd answers
  feature_is_fault outcome OutOfMemory (Feature path line given) e answers = absurd answers
  feature_is_fault outcome (Twice word) (Declaration path rule line) e answers = cc
  feature_is_fault outcome (Unknown word) (Declaration path rule line) e answers = cc
  feature_is_fault outcome (BadValue word) (Declaration path rule line) e answers = cc
  feature_is_fault outcome (ComposeConflict word) (Declaration path rule line) e answers = cc
  feature_is_fault outcome (Twice word) (Feature path line given) e answers = e ∙ ap Err (sym answers)
  feature_is_fault outcome (Unknown word) (Feature path line given) e answers = e ∙ ap Err (sym answers)
  feature_is_fault outcome (BadValue word) (Feature path line given) e answers = e ∙ ap Err (sym answers)
  feature_is_fault outcome (ComposeConflict word) (Feature path line given) e answers = e ∙ ap Err (sym answers)

  -- of no fault of a feature nothing is answered but out of memory
  exhausted_is_fault : {X : Type 0} (outcome : Result X DeclaringFault) (answer : DeclaringFault) → IsFeatureRefusal v c OutOfMemory answer → IsFaultOf outcome answer
  exhausted_is_fault outcome Exhausted answers = tt
  exhausted_is_fault outcome (Declaration path rule line) answers = absurd answers
  exhausted_is_fault outcome (Feature path line given) answers = absurd answers

  -- a cause that was found
  pub cause_is_fault : {X : Type 0} (cause : Option FeatureFault) (next : Result X DeclaringFault) (fault : FeatureFault) (answer : DeclaringFault) → IsBy cause fault → IsFeatureRefusal v c fault answer → IsFaultOf (unless_fault v c cause next) answer
  cause_is_fault cause next OutOfMemory answer by answers = exhausted_is_fault (unless_fault v c cause next) answer answers
  cause_is_fault cause next (Twice word) answer by answers = feature_is_fault (unless_fault v c cause next) (Twice word) answer (ap (λ o. unless_fault v c o next) by) answers
  cause_is_fault cause next (Unknown word) answer by answers = feature_is_fault (unless_fault v c cause next) (Unknown word) answer (ap (λ o. unless_fault v c o next) by) answers
  cause_is_fault cause next (BadValue word) answer by answers = feature_is_fault (unless_fault v c cause next) (BadValue word) answer (ap (λ o. unless_fault v c o next) by) answers
  cause_is_fault cause next (ComposeConflict word) answer by answers = feature_is_fault (unless_fault v c cause next) (ComposeConflict word) answer (ap (λ o. unless_fault v c o next) by) answers

  -- a text that was not read
  pub reading_is_fault : {X Y : Type 0} (reading : Result X FeatureFault) (next : X → Result Y DeclaringFault) (fault : FeatureFault) (answer : DeclaringFault) → IsReadFault reading fault → IsFeatureRefusal v c fault answer → IsFaultOf (after_reading v c reading next) answer
  reading_is_fault reading next OutOfMemory answer by answers = exhausted_is_fault (after_reading v c reading next) answer answers
  reading_is_fault reading next (Twice word) answer by answers = feature_is_fault (after_reading v c reading next) (Twice word) answer (ap (λ r. after_reading v c r next) by) answers
  reading_is_fault reading next (Unknown word) answer by answers = feature_is_fault (after_reading v c reading next) (Unknown word) answer (ap (λ r. after_reading v c r next) by) answers
  reading_is_fault reading next (BadValue word) answer by answers = feature_is_fault (after_reading v c reading next) (BadValue word) answer (ap (λ r. after_reading v c r next) by) answers
  reading_is_fault reading next (ComposeConflict word) answer by answers = feature_is_fault (after_reading v c reading next) (ComposeConflict word) answer (ap (λ r. after_reading v c r next) by) answers

  -- the fault of texts that were not read is that of all that follows from them
  pub read_fault_then : {X Y : Type 0} (reading : Result X FeatureFault) (next : X → Result Y DeclaringFault) (answer : DeclaringFault) → IsFaultOf (at_call v c reading) answer → IsFaultOf (after_reading v c reading next) answer
  read_fault_then reading next Exhausted fault = tt
  read_fault_then (Ok x) next (Declaration path rule line) fault = cc
  read_fault_then (Ok x) next (Feature path line given) fault = cc
  read_fault_then (Err f) next (Declaration path rule line) fault = cc
  read_fault_then (Err f) next (Feature path line given) fault = let same : Feature v.file c.line f ≡ Feature path line given = cc in ap Err same

  -- ---- what goes on

  -- what follows from texts that were read
  pub read_then : {X Y : Type 0} (reading : Result X FeatureFault) (next : X → Result Y DeclaringFault) (x : X) (outcome : Result Y DeclaringFault) → reading ≡ Ok x → next x ≡ outcome → after_reading v c reading next ≡ outcome
  read_then reading next x outcome read e = ap (λ r. after_reading v c r next) read ∙ e

  pub read_then_fault : {X Y : Type 0} (reading : Result X FeatureFault) (next : X → Result Y DeclaringFault) (x : X) (answer : DeclaringFault) → reading ≡ Ok x → IsFaultOf (next x) answer → IsFaultOf (after_reading v c reading next) answer
  read_then_fault reading next x answer read fault = subst (λ r. IsFaultOf (after_reading v c r next) answer) (sym read) fault

  -- a step that is not refused
  pub unrefused : {X : Type 0} (refused : Bool) (next : Result X DeclaringFault) → refused ≡ false → unless v c refused next ≡ next
  unrefused refused next e = ap (λ b. unless v c b next) e

  pub unrefused_fault : {X : Type 0} (refused : Bool) (next : Result X DeclaringFault) (answer : DeclaringFault) → refused ≡ false → IsFaultOf next answer → IsFaultOf (unless v c refused next) answer
  unrefused_fault refused next answer e fault = subst (λ r. IsFaultOf r answer) (sym (unrefused refused next e)) fault

  -- a step without a fault of a feature
  pub faultless : {X : Type 0} (cause : Option FeatureFault) (next : Result X DeclaringFault) → cause ≡ None → unless_fault v c cause next ≡ next
  faultless cause next e = ap (λ o. unless_fault v c o next) e

  pub faultless_fault : {X : Type 0} (cause : Option FeatureFault) (next : Result X DeclaringFault) (answer : DeclaringFault) → cause ≡ None → IsFaultOf next answer → IsFaultOf (unless_fault v c cause next) answer
  faultless_fault cause next answer e fault = subst (λ r. IsFaultOf r answer) (sym (faultless cause next e)) fault
