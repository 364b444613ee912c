-- What the search over dependents reaches is what leads to a failed step; and the verdicts that follow.
use Rattle.std.proofs.Common.{◌≡◌, ◌↔◌, ◌⊎◌, inl, inr, ℕ, ◌+◌, ◌<◌, ◌≤◌, Bool, true, false, List, length, Option, Some, None, refl, sym, ◌∙◌, ap, subst, arith}
use Rattle.std.specs.List.{Contains}
use Rattle.std.proofs.lemmas.Bool.{false≢true}
use Rattle.std.proofs.lemmas.Option.{slice_get_within}
use Rattle.b2_plan.specs.declared.step.Step.{Step}
use Rattle.b2_plan.specs.Plans.{Apart, Makes, step_at, maker_of}
use Rattle.b2_endings.specs.declared.failed_lists.FailedLists.{FailedLists}
use Rattle.b2_endings.specs.Endings.{lists_of}
use Rattle.b2_reach.proofs.FoundMakerMakesPath.{maker_makes, none_makes}
use Rattle.b2_runs.specs.Numbers.{first, of_needed}
use Rattle.b2_runs.proofs.NumberHasOneStep.{place_of}
use Rattle.b2_sched.specs.Cycles.{NeedsIn}
use Rattle.b2_sched.specs.NumberSets.{Has}
use Rattle.b2_sched.specs.Reaches.{Reached}
use Rattle.b2_testing.specs.declared.pass_list.MarkedNumbers.{MarkedNumbers}
use Rattle.b2_testing.specs.declared.pass_list.Judge.{Judge}
use Rattle.b2_testing.specs.declared.verdict.Verdict.TheVariants.{Passed, Failed, NotRun}
use Rattle.b2_testing.specs.Leading.{AreMarks, AreDependents, IsJudgeOf}
use Rattle.b2_testing.specs.Verdicts.{Reaches, here, on, IsJudgedBy, has_passed, has_failed, was_not_run}

-- a step's number is at most their count
pub number_within : (steps : List Step) (i : ℕ) (step : Step) → step_at steps i ≡ Some step → i ≤ length steps
number_within steps i step at =
    let (place, e, is) = place_of steps i step at in
    omega (arith, e, slice_get_within steps place step is)

-- what makes a path is its maker
pub makes_is : (steps : List Step) (roots : List (List ℕ)) (k : ℕ) (other : Step) (path : List ℕ) → Apart steps roots → Makes steps k other path → maker_of steps path ≡ Some k
makes_is steps roots k other path apart makes = go (maker_of steps path) refl
  where
    go : (m : Option ℕ) → maker_of steps path ≡ m → maker_of steps path ≡ Some k
    go None e = absurd (none_makes steps path e k other makes)
    go (Some n) e = let (step, made) = maker_makes steps path n e in e ∙ ap Some (apart.one_maker n k step other path made makes)

module _ (steps : List Step) (roots : List (List ℕ)) (bad : List ℕ) (dependents : List (List ℕ)) (apart : Apart steps roots) (are : AreDependents steps dependents) where
  reached_leads : (i : ℕ) → Reached bad dependents i → Reaches steps bad i
  reached_leads i (first k c) = here i c
  reached_leads i (of_needed n k reached need) =
      let m = ((are.needs n k).0 need).0 in
      let (path, among, e) = m.makes in
      let (other, made) = maker_makes steps path k e in
      on n m.step path k other m.at among made (reached_leads k reached)

  leads_reached : (i : ℕ) → Reaches steps bad i → Reached bad dependents i
  leads_reached i (here j c) = first i c
  leads_reached i (on j step path k other at among makes leads) =
      of_needed i k (leads_reached k leads) ((are.needs i k).1 (record { step = step; at = at; makes = (path, among, makes_is steps roots k other path apart makes) }, number_within steps i step at))

  pub leads_where_reached : (i : ℕ) → Reached bad dependents i ↔ Reaches steps bad i
  leads_where_reached i = (reached_leads i, leads_reached i)

  -- what is needed is needed by a step
  pub needs_within : (i k : ℕ) → NeedsIn dependents i k → i < length dependents
  needs_within i k need = omega (arith, are.size, ((are.needs i k).0 need).1)

-- what leads to some of the steps leads to one of more
pub leads_to_more : (steps : List Step) (few bad : List ℕ) → ((i : ℕ) → Contains few i → Contains bad i) → (i : ℕ) → Reaches steps few i → Reaches steps bad i
leads_to_more steps few bad all i (here j c) = here i (all i c)
leads_to_more steps few bad all i (on j step path k other at among makes leads) = on i step path k other at among makes (leads_to_more steps few bad all k leads)

-- what leads to a number is that number, or leads to a step
pub leads_to_steps : (steps : List Step) (bad few : List ℕ) → ((i : ℕ) → Contains bad i → i < length steps + 1 → Contains few i) → (i : ℕ) → Reaches steps bad i → Contains bad i ⊎ Reaches steps few i
leads_to_steps steps bad few all i (here j c) = inl c
leads_to_steps steps bad few all i (on j step path k other at among makes leads) = inr (go (leads_to_steps steps bad few all k leads))
  where
    go : Contains bad k ⊎ Reaches steps few k → Reaches steps few i
    go (inl c) = on i step path k other at among makes (here k (all k c (let w = number_within steps k other makes.at in omega arith)))
    go (inr led) = on i step path k other at among makes led

-- ---- the search

-- the numbers from which the search begins, and all that it comes to, have lists
pub first_within : (steps : List Step) (numbers start : List ℕ) (given dependents : List (List ℕ)) (size : ℕ) (marks : MarkedNumbers) → size ≡ length steps + 1 → AreMarks size numbers marks → start ≡ marks.numbers.items → given ≡ dependents → AreDependents steps dependents
    → (i : ℕ) → Contains start i → i < length given
first_within steps numbers start given dependents size marks whole are same those needs i c =
    let w = ((are.below i).0 (subst (λ (xs : List ℕ). Contains xs i) same c)).1 in
    omega (arith, w, whole, needs.size, ap length those)

pub all_within : (steps : List Step) (given dependents : List (List ℕ)) → given ≡ dependents → AreDependents steps dependents → (i k : ℕ) → NeedsIn given i k → i < length given
all_within steps given dependents those needs i k need =
    let w = ((needs.needs i k).0 (subst (λ (ds : List (List ℕ)). NeedsIn ds i k) those need)).1 in
    omega (arith, w, needs.size, ap length those)

-- the judge that is made of it
pub made_judge : (steps : List Step) (roots : List (List ℕ)) (lists : FailedLists) (failed skipped start : List ℕ) (given dependents : List (List ℕ)) (size : ℕ) (judge : Judge) → Apart steps roots → size ≡ length steps + 1 → judge.lists.now ≡ lists
    → AreMarks size failed judge.failed → AreMarks size skipped judge.skipped → failed ≡ lists.failed → skipped ≡ lists.skipped → start ≡ judge.failed.numbers.items → given ≡ dependents → AreDependents steps dependents
    → ((i : ℕ) → Has judge.led.items i ↔ Reached start given i) → IsJudgeOf steps lists judge
made_judge steps roots lists failed skipped start given dependents size judge apart whole of_lists bad left f s same those needs led = record {
  of_lists = of_lists;
  failed_are = subst (λ (n : ℕ). AreMarks n lists.failed judge.failed) whole (subst (λ (xs : List ℕ). AreMarks size xs judge.failed) f bad);
  skipped_are = subst (λ (n : ℕ). AreMarks n lists.skipped judge.skipped) whole (subst (λ (xs : List ℕ). AreMarks size xs judge.skipped) s left);
  led_are = λ i. (
      let is : Has judge.led.items i ↔ Reached judge.failed.numbers.items dependents i = subst (λ (ds : List (List ℕ)). Has judge.led.items i ↔ Reached judge.failed.numbers.items ds i) those
      (subst (λ (xs : List ℕ). Has judge.led.items i ↔ Reached xs given i) same (led i)) in
      let leads = leads_where_reached steps roots judge.failed.numbers.items dependents apart needs i in
      ((λ h. leads.0 (is.0 h)), (λ r. is.1 (leads.1 r))));
}

-- ---- verdicts

-- a number is told as one of some by their marks
pub in_marks : (size : ℕ) (numbers listed : List ℕ) (marks : MarkedNumbers) (m : ℕ) (b : Bool) → listed ≡ numbers → ((size : ℕ) → AreMarks size listed marks → b ≡ true ↔ Contains listed m) → AreMarks size numbers marks → b ≡ true ↔ Contains numbers m
in_marks size numbers listed marks m b e tells are =
    subst (λ (xs : List ℕ). b ≡ true ↔ Contains xs m) e (tells size (subst (λ (xs : List ℕ). AreMarks size xs marks) (sym e) are))

-- what is found not to be so is not
pub not_so : (b : Bool) (P : Type 0) → b ≡ false → b ≡ true ↔ P → P → ⊥
not_so b P e tells p = false≢true (sym e ∙ tells.1 p)

module _ (steps : List Step) (lists : FailedLists) (judge : Judge) (m : ℕ) (is : IsJudgeOf steps lists judge) where
  pub it_failed : Contains lists.failed m → IsJudgedBy steps (lists_of lists) m Failed
  it_failed c = has_failed (inl c)

  pub it_led : Contains lists.skipped m → Has judge.led.items m → IsJudgedBy steps (lists_of lists) m Failed
  it_led c h = has_failed (inr (c, leads_to_more steps judge.failed.numbers.items lists.failed (λ i d. ((is.failed_are.below i).0 d).0) m ((is.led_are m).0 h)))

  pub it_did_not_run : Contains lists.skipped m → (Contains lists.failed m → ⊥) → (Has judge.led.items m → ⊥) → IsJudgedBy steps (lists_of lists) m NotRun
  it_did_not_run c fine none = was_not_run c fine (λ led. go (leads_to_steps steps lists.failed judge.failed.numbers.items (λ i d w. (is.failed_are.below i).1 (d, w)) m led))
    where
      go : Contains lists.failed m ⊎ Reaches steps judge.failed.numbers.items m → ⊥
      go (inl d) = fine d
      go (inr led) = none ((is.led_are m).1 led)

  pub it_passed : (Contains lists.failed m → ⊥) → (Contains lists.skipped m → ⊥) → IsJudgedBy steps (lists_of lists) m Passed
  it_passed fine run = has_passed fine run
