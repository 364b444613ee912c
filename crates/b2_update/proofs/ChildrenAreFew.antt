-- No more children run than the plan has steps.
use Rattle.std.proofs.Common.{◌≡◌, ◌≢◌, ℕ, ◌<◌, ◌≤◌, ◌+◌, Bool, true, false, List, [], ◌∷◌, length, get_or, cond, zero, suc, Some, None, sym, ap, ◌∙◌, arith, count_by}
use Rattle.std.specs.Prelude.{slice_set, replicate}
use Rattle.std.specs.List.{Contains, AllPairs}
use Rattle.std.proofs.lemmas.List.{get_or-set_other, get_or-replicate, length-replicate, length-set}
use Rattle.std.proofs.lemmas.List.Sums.{sum_by-set, count_by-le-length}
use Rattle.std.proofs.lemmas.Option.{slice_get_within}
use Rattle.b2_host.specs.declared.children.ChildEvent.{ChildEvent}
use Rattle.b2_host.specs.ChildProcesses.{Child}
use Rattle.b2_plan.specs.declared.step.Step.{Step}
use Rattle.b2_plan.specs.Plans.{step_at}
use Rattle.b2_runs.specs.PlanChildren.{AreOfOpenSteps, ArePlanChildren}
use Rattle.b2_runs.proofs.FirstElementOrLater.{Contains_here, Contains_there, AllPairs_head, AllPairs_tail}

-- the number of a step is within the plan
pub step_within : (steps : List Step) (i : ℕ) (step : Step) → step_at steps i ≡ Some step → i < length steps + 1
step_within steps zero step at = absurd (let e : None ≡ Some step = at in cc)
step_within steps (suc place) step at = let low = slice_get_within steps place step at in omega (arith, low)

-- children of different steps, each with a flag that is set, are no more than such flags
few_flags : (flags : List Bool) (running : List Child) → AllPairs (λ child other. child.step ≢ other.step) running → ((child : Child) → Contains running child → (child.step < length flags) × (get_or flags child.step false ≡ true))
    → length running ≤ count_by (λ flag. flag) flags
few_flags flags [] once each = omega arith
few_flags flags (child ∷ more) once each =
    let (low, is) = each child (Contains_here child more) in
    let others = few_flags (slice_set flags child.step false) more (AllPairs_tail (λ c d. c.step ≢ d.step) child more once) (λ other among. (
    let (within, set) = each other (Contains_there child other more among) in
    let apart = AllPairs_head (λ c d. c.step ≢ d.step) child other more once among in
    (omega (arith, within, length-set flags child.step false), get_or-set_other flags child.step other.step false false (λ e. apart (sym e)) ∙ set))) in
    let less = sum_by-set (λ flag. cond flag 1 0) flags child.step false false low in
    let one : ◌≡◌ {A = ℕ} (cond (get_or flags child.step false) 1 0) 1 = ap (λ flag. cond flag 1 0) is in
    omega (arith, others, less, one)

pub children_are_few : (steps : List Step) (settled : ℕ → Bool) (events : List ChildEvent) (running : List Child) → AreOfOpenSteps events running → ArePlanChildren steps settled running → length running ≤ length steps + 1
children_are_few steps settled events running opened planned =
    let flags = replicate (length steps + 1) true in
    let few = few_flags flags running opened.once (λ child runs. (
    let p = planned child runs in
    let low = step_within steps child.step p.step p.at in
    (omega (arith, low, length-replicate (length steps + 1) true), get_or-replicate (length steps + 1) child.step true false low))) in
    let most = count_by-le-length (λ flag. flag) flags in
    omega (arith, few, most, length-replicate (length steps + 1) true)
