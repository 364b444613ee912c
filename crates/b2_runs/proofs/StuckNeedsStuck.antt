use Rattle.std.proofs.Common.{◌≡◌, ℕ, ◌≤◌, Bool, true, false, List, inl, inr, sym, subst, arith, Some}
use Rattle.std.specs.List.{Contains}
use Rattle.b2_host.specs.declared.children.ChildEvent.{ChildEvent}
use Rattle.b2_host.specs.declared.children.ChildEvent.TheVariants.{Start, Done}
use Rattle.b2_plan.specs.declared.step.Step.{Step}
use Rattle.b2_plan.specs.Plans.{Apart, Makes, step_at}
use Rattle.b2_plan.specs.Closures.{Value, Known, IsClosure}
use Rattle.b2_runs.specs.Staleness.{Update}
use Rattle.b2_runs.specs.Runs.{Settled, Settled.source, Settled.done_well, Settled.fresh, on_settled, Needed.member, CanStart, IsRun}
use Rattle.b2_runs.specs.Outcomes.{IsStuck, Skipped.missing, Skipped.failed, Skipped.skipped, Skipped.quits}
use Rattle.b2_runs.specs.StuckLaws.{StuckByStuck, StuckNeedsStuck}
use Rattle.b2_runs.proofs.NumberHasOneStep.{one_step}
use Rattle.b2_runs.proofs.SourcesAreKept.{source_clean}
use Rattle.b2_runs.proofs.SettledStays.{closure_on_settled}
use Rattle.b2_runs.proofs.RunGoesOn.{settled_has_value}
use Rattle.b2_runs.proofs.StartsAreDone.{starts_are_done}
use Rattle.b2_runs.proofs.ValuesCanBeGathered.{gather}

-- what a stuck step needs is not settled only where its maker is stuck
pub stuck_by_stuck : StuckByStuck
stuck_by_stuck u events i k step other path stuck at known makes not_settled = record {
  left = record {
    needed = member k other i step path stuck.left.needed at known makes;
    not_settled = not_settled;
    not_failed = λ bad. stuck.not_skipped (failed i step path k other stuck.left at known makes bad);
  };
  not_skipped = λ bad. stuck.not_skipped (skipped i step path k other stuck.left at known makes bad);
}

-- a step that is stuck was not started
stuck_not_started : (u : Update) (events : List ChildEvent) (i : ℕ) → IsRun u events → IsStuck u events i → Contains events (Start i) → ⊥
stuck_not_started u events i run stuck started = run.none_open i (started, λ well d. go well d)
  where
    go : (well : Bool) → Contains events (Done i well) → ⊥
    go true d = stuck.left.not_settled (λ step path makes. done_well i step path makes d)
    go false d = stuck.left.not_failed d

-- a step that is stuck could start, if all of its closure were settled
stuck_could_start : (u : Update) (events : List ChildEvent) (i : ℕ) (step : Step) (members : List (List ℕ × Value)) → Apart u.build.steps u.build.roots → 1 ≤ u.jobs → IsRun u events → IsStuck u events i → step_at u.build.steps i ≡ Some step
    → IsClosure u.build (on_settled u events) step members → CanStart u events i
stuck_could_start u events i step members apart jobs run stuck at closure =
    let not_started : Contains events (Start i) → ⊥ = stuck_not_started u events i run stuck in
    let (by_clean, inside) = (closure_on_settled u events step members apart).0 closure in
    record {
      step = step;
      at = at;
      needed = stuck.left.needed;
      not_started = not_started;
      members = members;
      closure = closure;
      stale = λ f. stuck.left.not_settled (λ other path makes.
          let same : step ≡ other = one_step u.build.steps i step other at makes.at in
          fresh i step path members (subst (λ s. Makes u.build.steps i s path) (sym same) makes) not_started by_clean inside f);
      room = (let e = starts_are_done u events run.each run.none_open in omega arith);
      goes_on = λ quit k bad. stuck.not_skipped (quits i k stuck.left quit bad);
    }

-- a stuck step needs a stuck step
pub stuck_needs_stuck : StuckNeedsStuck
stuck_needs_stuck u events i step names apart jobs run stuck at whole none =
    gather (Known u.build (on_settled u events) step) (on_settled u events) has_value names (λ g.
    run.none_left i (stuck_could_start u events i step g.list apart jobs run stuck at
    (record { ordered = g.ordered; each = g.each; whole = λ path known. g.whole path (whole path known) known })))
  where
    has_value : (path : List ℕ) → Known u.build (on_settled u events) step path → ((x : Value) → on_settled u events path x → ⊥) → ⊥
    has_value path known no_value =
        stuck.not_skipped (missing i step path stuck.left at known (λ given. elim given [
          | inl (bytes, s) ↦ no_value (Some bytes) (source path bytes s, source_clean u.build apart path bytes s)
          | inr (k, other, makes) ↦ none path k other known makes (stuck_by_stuck u events i k step other path stuck at known makes (λ settled.
              let here : Settled u events path = settled other path makes in
              let (x, clean) = settled_has_value u events path apart run.each here in
              no_value x (here, clean)))
        ]))
