use Rattle.std.specs.Prelude.{◌≡◌, ◌⊎◌, ℕ, suc, ◌≤◌, Bool, false, List, [], ◌∷◌, Option, Result, Ok, Err, IfErr, if◌then◌else◌}
use Rattle.b2_features.specs.Table.{DeclaredFeature}
use Rattle.b2_props.specs.Sets.{Pair}
use Rattle.b2_props.specs.Membership.{has_all}
use Rattle.b2_props.specs.declared.requirement.Requirement.{Requirement}
use Rattle.b2_refine.specs.Answers.{Answer}
use Rattle.b2_base.specs.Counts.{IsCounted}
use Rattle.b2_refine.specs.Conditions.{round_set, last_round}
use Rattle.b2_refine.specs.Faults.{IsKnownFault, is_asked}
use Rattle.b2_refine.specs.declared.fault.RefineFault.{RefineFault}
use Rattle.b2_refine.specs.declared.fault.RefineFault.TheVariants.{Unstable, Asked, OutOfMemory}

-- what the parts of an evaluation promise

-- a part answers what the definition gives, but for faults of the host and out of memory
abbrev pub IsOutcome : {F : Type 0} → (F → Bool) → (F → Bool) → Result (List Pair) F → Result (List Pair) (RefineFault F) → Type 0
IsOutcome is_host is_memory outcome (Ok pairs) = outcome ≡ Ok pairs
IsOutcome is_host is_memory outcome (Err (Unstable first second)) = ⊥
IsOutcome is_host is_memory outcome (Err (Asked fault)) = is_host fault ≡ false → is_memory fault ≡ false → outcome ≡ Err fault
IsOutcome is_host is_memory outcome (Err OutOfMemory) = Unit {0}

-- a call leaves what those who answer mean, counts a fault of the host where it answers with one, and promises of a fault
-- what they promise
pub record LeavesAsker {S F K T : Type 0} (rules : S → ℕ) (answer : S → Option (Answer F)) (kept : S → K) (faults : S → ℕ) (is_host is_memory : F → Bool) (CanFault : K → F → Type 0) (old new : S) (result : Result T (RefineFault F)) : Type 0 where
  pub same_rules : rules new ≡ rules old
  pub same_answer : answer new ≡ answer old
  pub same_kept : kept new ≡ kept old
  pub counted : IsCounted (is_asked is_host) (is_asked is_memory) (faults old) (faults new) result
  pub known : IfErr result (IsKnownFault (CanFault (kept old)))

-- whether a requirement with these conditions and no rule gives its property in a round: it has conditions, and they are met
abbrev pub is_given : List Pair → List Pair → Bool
is_given set [] = false
is_given set (condition ∷ conditions) = has_all set (condition ∷ conditions)

-- what it gives
abbrev pub plain_pairs : List Pair → List Pair → Pair → List Pair
plain_pairs set conditions property = if is_given set conditions then property ∷ [] else []

-- the sets of a round and of the next one, which are the same, or those of the last round
pub record AreLastRounds {F : Type 0} (answer : Answer F) (table : List DeclaredFeature) (request : List Pair) (required : List Requirement) (first second : List Pair) : Type 0 where
  pub round : ℕ
  pub within : round ≤ last_round required
  pub first_is : round_set answer table request required round ≡ Ok first
  pub second_is : round_set answer table request required (suc round) ≡ Ok second
  pub ended : (first ≡ second) ⊎ (round ≡ last_round required)

-- an answer does not say unstable
abbrev pub IsNotUnstable : {F : Type 0} → RefineFault F → Type 0
IsNotUnstable (Unstable first second) = ⊥
IsNotUnstable (Asked fault) = Unit {0}
IsNotUnstable OutOfMemory = Unit {0}
