use Rattle.std.proofs.Common.{arith, ◌≡◌, ℕ, true, false, List, [], ◌∷◌, inr, refl, sym, subst, Some}
use Rattle.std.specs.List.{Contains}
use Rattle.b2_host.specs.declared.children.ChildEvent.TheVariants.{Start, Done}
use Rattle.b2_plan.specs.declared.step.Step.{Step}
use Rattle.b2_plan.specs.Plans.{step_at, Makes, Apart}
use Rattle.b2_plan.specs.Sources.{IsMissing}
use Rattle.b2_plan.specs.Closures.{Value, Values, Known, Known.input, Known.include, IsClosure}
use Rattle.b2_plan.specs.Cleans.{Clean}
use Rattle.b2_runs.specs.Runs.{Settled, Settled.source, Settled.done_well, Settled.fresh, on_settled, Needed, Needed.wanted, Needed.member, CanStart, IsRun}
use Rattle.b2_runs.specs.Outcomes.{IsStuck, Skipped, Skipped.missing, Skipped.failed, Skipped.skipped, Skipped.quits}
use Rattle.b2_runs.specs.Cycles.{IsStepCycle}
use Rattle.b2_run_examples.specs.Examples.{out_path, step_from, circling, CirclingHolds}
use Rattle.b2_runs.proofs.FirstElementOrLater.{Contains_here, Contains_nil}
use Rattle.b2_runs.proofs.MakerIsOne.{source_not_made}
use Rattle.b2_run_examples.proofs.OneStepPlan.{only_number, only_is, one_of, makes_out, is_apart}

abbrev circle_step : Step
circle_step = step_from (out_path ∷ [])

apart : Apart circling.build.steps circling.build.roots
apart = is_apart (out_path ∷ [])

-- what it reads is what it writes
known_out : (v : Values) (path : List ℕ) → Known circling.build v circle_step path → out_path ≡ path
known_out v path (input p c) = one_of out_path p c
known_out v path (include p bytes found k says inc) = absurd (Contains_nil inc.include inc.listed)

reads_itself : (v : Values) (i : ℕ) (step : Step) (members : List (List ℕ × Value)) → step_at circling.build.steps i ≡ Some step → IsClosure circling.build v step members → (value : Value) × Contains members (out_path, value)
reads_itself v i step members at closure =
    let same : circle_step ≡ step = only_is (out_path ∷ []) i step at in
    closure.whole out_path (subst (λ s. Known circling.build v s out_path) same (input out_path (Contains_here out_path [])))

-- so it is never settled
not_settled : (path : List ℕ) → Settled circling [] path → out_path ≡ path → ⊥
not_settled path (source p bytes s) e = source_not_made circling.build apart p bytes s 1 circle_step (subst (Makes circling.build.steps 1 circle_step) e (makes_out (out_path ∷ [])))
not_settled path (done_well i step p makes done) e = Contains_nil (Done i true) done
not_settled path (fresh i step p members makes not_started closure inside f) e =
    let (value, c) = reads_itself (Clean circling.build) i step members makes.at closure in
    not_settled out_path (inside out_path value c) refl

none_starts : (i : ℕ) → CanStart circling [] i → ⊥
none_starts i can =
    let (value, c) = reads_itself (on_settled circling []) i can.step can.members can.at can.closure in
    not_settled out_path (can.closure.each out_path value c).1.0 refl

run : IsRun circling []
run = record { each = tt; none_open = λ i o. Contains_nil (Start i) o.0; none_left = none_starts }

not_missing : (v : Values) (i : ℕ) (step : Step) (path : List ℕ) → step_at circling.build.steps i ≡ Some step → Known circling.build v step path → IsMissing circling.build path → ⊥
not_missing v i step path at known miss =
    let same : circle_step ≡ step = only_is (out_path ∷ []) i step at in
    let e : out_path ≡ path = known_out v path (subst (λ s. Known circling.build v s path) (sym same) known) in
    miss (inr (1, circle_step, subst (Makes circling.build.steps 1 circle_step) e (makes_out (out_path ∷ []))))

none_skipped : (i : ℕ) → Skipped circling [] i → ⊥
none_skipped i (missing k step path left at known miss) = not_missing (on_settled circling []) k step path at known miss
none_skipped i (failed k step path j other left at known makes bad) = Contains_nil (Done j false) bad
none_skipped i (skipped k step path j other left at known makes bad) = none_skipped j bad
none_skipped i (quits k j left quit bad) = Contains_nil (Done j false) bad

stuck : IsStuck circling [] 1
stuck = record {
  left = record {
    needed = wanted 1 circle_step out_path (Contains_here out_path []) (makes_out (out_path ∷ []));
    not_settled = λ all. not_settled out_path (all circle_step out_path (makes_out (out_path ∷ []))) refl;
    not_failed = λ bad. Contains_nil (Done 1 false) bad;
  };
  not_skipped = none_skipped 1;
}

needed_number : (k : ℕ) → Needed circling [] k → k ≡ 1
needed_number k (wanted j step path c makes) = only_number (out_path ∷ []) k step makes.at
needed_number k (member j step i other path needed at known makes) = only_number (out_path ∷ []) k step makes.at

cycle : IsStepCycle circling [] (1 ∷ [])
cycle = record {
  first = 1;
  more = [];
  starts = record { has = stuck; lowest = λ k less s. (let e = needed_number k s.left.needed in omega (arith, less, e)) };
  back = 1;
  leads = record {
    has = record { stuck = stuck; step = circle_step; at = refl; other = circle_step; path = out_path; makes = makes_out (out_path ∷ []); known = input out_path (Contains_here out_path []) };
    lowest = λ k less n. (let e = only_number (out_path ∷ []) k n.other n.makes.at in omega (arith, less, e));
  };
  once = λ i j d lt h. absurd (omega arith);
  front = [];
  rest = [];
  walk = refl;
  list_is = refl;
}

-- the example holds
pub circling_holds : CirclingHolds
circling_holds = record { apart = apart; run = run; stuck = stuck; cycle = cycle }
