-- Of two parts the fault is that of the first, or of the second where the first has none; for declaring features.
use Rattle.std.proofs.Common.{◌≡◌, ◌∙◌, Option, None, ap}
use Rattle.std.specs.Option.{option_or}
use Rattle.b2_features.specs.declared.fault.FeatureFault.{FeatureFault}
use Rattle.b2_features.specs.declared.fault.FeatureFault.TheVariants.{Twice, Unknown, BadValue, ComposeConflict, OutOfMemory}
use Rattle.b2_features.specs.Faults.{IsBy}

-- the first of two causes
pub earlier_fault : (a b : Option FeatureFault) (f : FeatureFault) → IsBy a f → IsBy (option_or a b) f
earlier_fault a b (Twice word) e = ap (λ o. option_or o b) e
earlier_fault a b (Unknown word) e = ap (λ o. option_or o b) e
earlier_fault a b (BadValue word) e = ap (λ o. option_or o b) e
earlier_fault a b (ComposeConflict word) e = ap (λ o. option_or o b) e
earlier_fault a b OutOfMemory e = tt

-- the second one, where there is no first
pub later_fault : (a b : Option FeatureFault) (f : FeatureFault) → a ≡ None → IsBy b f → IsBy (option_or a b) f
later_fault a b (Twice word) none e = ap (λ o. option_or o b) none ∙ e
later_fault a b (Unknown word) none e = ap (λ o. option_or o b) none ∙ e
later_fault a b (BadValue word) none e = ap (λ o. option_or o b) none ∙ e
later_fault a b (ComposeConflict word) none e = ap (λ o. option_or o b) none ∙ e
later_fault a b OutOfMemory none e = tt
