-- What is to be done with a member.
use Rattle.std.specs.Prelude.{◌≡◌, ◌⊎◌, ℕ, Bool, true, false, not, List, Some}
use Rattle.b2_plan.specs.declared.step.Step.{Step}
use Rattle.b2_plan.specs.Plans.{step_at}
use Rattle.b2_facts.specs.declared.file_facts.FileFacts.{FileFacts}
use Rattle.b2_facts.specs.Facts.{Knowledge}
use Rattle.b2_facts.specs.Asks.{IsGivenBy, IsNotGivenBy}
use Rattle.b2_reach.specs.declared.due.Due.{Due}
use Rattle.b2_reach.specs.declared.due.Due.TheVariants as dues
use Rattle.b2_reach.specs.Files.{IsOwedByNone, IsAtHand}
use Rattle.b2_reach.specs.Reaches.{IsDone, IsToWait}

-- whether a step owes a file at each of its outputs
abbrev pub IsOwing : List Step → ℕ → Bool → Type 0
IsOwing steps number owes = (step : Step) × (step_at steps number ≡ Some step) × (owes ≡ not step.notfile)

-- what is to be done with a scanned output of a step
abbrev pub IsMadeDue : List Step → (ℕ → Type 0) → ℕ → Due → Type 0
IsMadeDue steps settled number dues.Nothing = (step : Step) × (step_at steps number ≡ Some step) × (step.notfile ≡ true)
IsMadeDue steps settled number dues.Lack = ⊥
IsMadeDue steps settled number dues.Wait =
    ((step : Step) × (step_at steps number ≡ Some step) × (step.notfile ≡ false)) × (settled number → ⊥)
IsMadeDue steps settled number dues.Read =
    ((step : Step) × (step_at steps number ≡ Some step) × (step.notfile ≡ false)) × settled number

-- a member has no bytes that are scanned
abbrev pub IsUnread : List Step → FileFacts → Type 0
IsUnread steps file = (IsGivenBy file × (file.scanned ≡ false)) ⊎ IsOwedByNone steps file

-- a member waits for a step that is not settled
abbrev pub WaitsFor : List Step → (ℕ → Type 0) → FileFacts → Type 0
WaitsFor steps settled file = IsToWait steps file × ((number : ℕ) → file.maker ≡ Some number → settled number → ⊥)

-- what is to be done with a member, by what is known of it
abbrev pub IsDue : List Step → (ℕ → Type 0) → FileFacts → Due → Type 0
IsDue steps settled file dues.Nothing = IsUnread steps file
IsDue steps settled file dues.Lack = IsNotGivenBy file
IsDue steps settled file dues.Wait = WaitsFor steps settled file
IsDue steps settled file dues.Read = (file.scanned ≡ true) × IsAtHand steps settled file

-- how a member stands once this was done
abbrev pub IsAfter : List Step → (ℕ → Type 0) → Knowledge → ℕ → List ℕ → ℕ → FileFacts → Due → Type 0
IsAfter steps settled f list members n file dues.Nothing = IsDone steps settled f list members n file
IsAfter steps settled f list members n file dues.Lack = IsNotGivenBy file
IsAfter steps settled f list members n file dues.Wait = WaitsFor steps settled file
IsAfter steps settled f list members n file dues.Read = IsDone steps settled f list members n file
