-- Where the clean build is defined and no step failed, nothing is left, missing or stuck, so an update ends well.
use Rattle.std.proofs.Common.{◌≡◌, ℕ, ◌≤◌, List, [], ◌∷◌, inl, inr, refl, arith}
use Rattle.std.specs.List.{Contains}
use Rattle.b2_host.specs.declared.children.ChildEvent.{ChildEvent}
use Rattle.b2_plan.specs.Plans.{Apart}
use Rattle.b2_runs.specs.CompleteLaws.{CleanIsDefined}
use Rattle.b2_runs.specs.Cycles.{IsStepCycle}
use Rattle.b2_runs.specs.Outcomes.{IsFailed, IsLeft, Skipped}
use Rattle.b2_runs.specs.Outcomes.Skipped.{missing, failed, skipped, quits}
use Rattle.b2_runs.specs.Reports.{Lists, AreLists}
use Rattle.b2_runs.specs.Runs.{IsRun}
use Rattle.b2_runs.specs.Staleness.{Update}
use Rattle.b2_runs.specs.UpdateAnswers.{SomethingLacks}
use Rattle.b2_runs.proofs.NothingIsLeft.{nothing_is_left, nothing_is_missed}

none_listed : {X : Type 0} (xs : List X) → ((x : X) → Contains xs x → ⊥) → xs ≡ []
none_listed [] h = refl
none_listed (x ∷ xs) h = absurd (h x (0, omega arith, refl))

skipped_left : (u : Update) (events : List ChildEvent) (i : ℕ) → Skipped u events i → IsLeft u events i
skipped_left u events _ (missing i step path left at known lacks) = left
skipped_left u events _ (failed i step path k other left at known makes bad) = left
skipped_left u events _ (skipped i step path k other left at known makes more) = left
skipped_left u events _ (quits i k left quit bad) = left

module _ (u : Update) (events : List ChildEvent) (apart : Apart u.build.steps u.build.roots) (jobs : 1 ≤ u.jobs) (run : IsRun u events)
    (defined : CleanIsDefined u events) (well : (i : ℕ) → IsFailed events i → ⊥) where
  pub nothing_lacks : (lists : Lists) → AreLists u events lists → SomethingLacks lists → ⊥
  nothing_lacks lists are (inl some) = some (none_listed lists.failed (λ i h. well i (are.failed.each i h)))
  nothing_lacks lists are (inr (inl some)) =
      some (none_listed lists.skipped (λ i h. nothing_is_left u events apart jobs run defined well i (skipped_left u events _ (are.skipped.each i h))))
  nothing_lacks lists are (inr (inr some)) = some (none_listed lists.missing (λ path h. nothing_is_missed u events apart defined path (are.missing.each path h)))

  pub no_cycle : (list : List ℕ) → IsStepCycle u events list → ⊥
  no_cycle list cycle = nothing_is_left u events apart jobs run defined well cycle.first cycle.starts.has.left
