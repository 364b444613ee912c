use Rattle.std.proofs.Common.{arith, ◌≡◌, ℕ, zero, suc, ◌+◌, ◌<◌, true, false, List, [], ◌∷◌, ◌⊎◌, inl, inr, refl, sym, subst, Some}
use Rattle.std.specs.List.{Contains, AllPairs, slice_index}
use Rattle.std.proofs.lemmas.List.Kept.{AllPairs-from_increasing}
use Rattle.b2_host.specs.declared.children.ChildEvent.TheVariants.{Start, Done}
use Rattle.b2_plan.specs.declared.step.Step.{Step}
use Rattle.b2_plan.specs.Plans.{step_at, Makes, Apart}
use Rattle.b2_plan.specs.Closures.{Value, Values, Known, Known.input as input_of, Known.include, IsClosure}
use Rattle.b2_plan.specs.Cleans.{Clean}
use Rattle.b2_runs.specs.Runs.{Settled, Settled.source, Settled.done_well, Settled.fresh, on_settled, Needed, Needed.wanted, Needed.member, CanStart, IsRun}
use Rattle.b2_runs.specs.Outcomes.{IsListOf, IsStuck, Skipped, Skipped.missing, Skipped.failed, Skipped.skipped, Skipped.quits}
use Rattle.b2_runs.specs.Cycles.{NeedsStuck, NextStuck, IsStepCycle}
use Rattle.b2_run_examples.specs.Overlap.{copy_from, a_path, b_path, c_path}
use Rattle.b2_run_examples.specs.Examples.{tailed_copies, tailed, TailedHolds}
use Rattle.b2_runs.proofs.FirstElementOrLater.{Contains_here, Contains_cases, Contains_nil}
use Rattle.b2_runs.proofs.MakerIsOne.{source_not_made}
use Rattle.b2_runs.proofs.StepCycleIsOne.{step_cycle_is_one}
use Rattle.b2_run_examples.proofs.OneStepPlan.{one_of}
use Rattle.b2_run_examples.proofs.ThreeCopies as copies
use Rattle.b2_run_examples.proofs.ThreeCopies.{number_of}

abbrev first_step : Step
first_step = copy_from b_path a_path

abbrev second_step : Step
second_step = copy_from c_path b_path

abbrev third_step : Step
third_step = copy_from b_path c_path

which : (i : ℕ) (step : Step) → step_at tailed_copies.steps i ≡ Some step → ((i ≡ 1) × (first_step ≡ step)) ⊎ ((i ≡ 2) × (second_step ≡ step)) ⊎ ((i ≡ 3) × (third_step ≡ step))
which = copies.which b_path c_path b_path

numbered : (i : ℕ) (step : Step) (path : List ℕ) → Makes tailed_copies.steps i step path → i ≡ number_of path
numbered = copies.numbered b_path c_path b_path

apart : Apart tailed_copies.steps tailed_copies.roots
apart = copies.are_apart b_path c_path b_path

makes_a : Makes tailed_copies.steps 1 first_step a_path
makes_a = copies.makes_first b_path c_path b_path

makes_b : Makes tailed_copies.steps 2 second_step b_path
makes_b = copies.makes_second b_path c_path b_path

makes_c : Makes tailed_copies.steps 3 third_step c_path
makes_c = copies.makes_third b_path c_path b_path

-- what is known of a copy is what it reads
known_is : (v : Values) (input output path : List ℕ) → Known tailed_copies v (copy_from input output) path → input ≡ path
known_is v input output path (input_of p c) = one_of input p c
known_is v input output path (include p bytes found k says inc) = absurd (Contains_nil inc.include inc.listed)

known_at : (v : Values) (input output : List ℕ) (step : Step) (path : List ℕ) → copy_from input output ≡ step → Known tailed_copies v step path → input ≡ path
known_at v input output step path same known = known_is v input output path (subst (λ s. Known tailed_copies v s path) (sym same) known)

reads : (v : Values) (input output : List ℕ) → Known tailed_copies v (copy_from input output) input
reads v input output = input_of input (Contains_here input [])

-- An output that a step reads, as it is made.
record Read (v : Values) (members : List (List ℕ × Value)) : Type 0 where
  path : List ℕ
  value : Value
  inside : Contains members (path, value)
  number : ℕ
  maker : Step
  makes : Makes tailed_copies.steps number maker path

read_at : (v : Values) (input output : List ℕ) (step : Step) (members : List (List ℕ × Value)) (k : ℕ) (other : Step) → copy_from input output ≡ step → Makes tailed_copies.steps k other input → IsClosure tailed_copies v step members → Read v members
read_at v input output step members k other same makes closure =
    let (value, c) = closure.whole input (subst (λ s. Known tailed_copies v s input) same (reads v input output)) in
    record { path = input; value = value; inside = c; number = k; maker = other; makes = makes }

-- each closure has an output
read_of : (v : Values) (i : ℕ) (step : Step) (members : List (List ℕ × Value)) → step_at tailed_copies.steps i ≡ Some step → IsClosure tailed_copies v step members → Read v members
read_of v i step members at closure = elim (which i step at) [
  | inl (e, s) ↦ read_at v b_path a_path step members 2 second_step s makes_b closure
  | inr (inl (e, s)) ↦ read_at v c_path b_path step members 3 third_step s makes_c closure
  | inr (inr (e, s)) ↦ read_at v b_path c_path step members 2 second_step s makes_b closure
]

-- so no output is ever settled
not_settled : (path : List ℕ) → Settled tailed [] path → (k : ℕ) (other : Step) → Makes tailed_copies.steps k other path → ⊥
not_settled path (source p bytes s) k other m = source_not_made tailed_copies apart p bytes s k other m
not_settled path (done_well i step p makes done) k other m = Contains_nil (Done i true) done
not_settled path (fresh i step p members makes not_started closure inside f) k other m =
    let r = read_of (Clean tailed_copies) i step members makes.at closure in
    not_settled r.path (inside r.path r.value r.inside) r.number r.maker r.makes

none_starts : (i : ℕ) → CanStart tailed [] i → ⊥
none_starts i can =
    let r = read_of (on_settled tailed []) i can.step can.members can.at can.closure in
    not_settled r.path (can.closure.each r.path r.value r.inside).1.0 r.number r.maker r.makes

run : IsRun tailed []
run = record { each = tt; none_open = λ i o. Contains_nil (Start i) o.0; none_left = none_starts }

-- what is known is made
known_made : (v : Values) (i : ℕ) (step : Step) (path : List ℕ) → step_at tailed_copies.steps i ≡ Some step → Known tailed_copies v step path → (k : ℕ) × (other : Step) × Makes tailed_copies.steps k other path
known_made v i step path at known = elim (which i step at) [
  | inl (e, s) ↦ (2, second_step, subst (Makes tailed_copies.steps 2 second_step) (known_at v b_path a_path step path s known) makes_b)
  | inr (inl (e, s)) ↦ (3, third_step, subst (Makes tailed_copies.steps 3 third_step) (known_at v c_path b_path step path s known) makes_c)
  | inr (inr (e, s)) ↦ (2, second_step, subst (Makes tailed_copies.steps 2 second_step) (known_at v b_path c_path step path s known) makes_b)
]

none_skipped : (i : ℕ) → Skipped tailed [] i → ⊥
none_skipped i (missing k step path left at known miss) = miss (inr (known_made (on_settled tailed []) k step path at known))
none_skipped i (failed k step path j other left at known makes bad) = Contains_nil (Done j false) bad
none_skipped i (skipped k step path j other left at known makes bad) = none_skipped j bad
none_skipped i (quits k j left quit bad) = Contains_nil (Done j false) bad

stuck : (i : ℕ) (step : Step) (path : List ℕ) → Makes tailed_copies.steps i step path → Needed tailed [] i → IsStuck tailed [] i
stuck i step path makes needed = record {
  left = record {
    needed = needed;
    not_settled = λ all. not_settled path (all step path makes) i step makes;
    not_failed = λ bad. Contains_nil (Done i false) bad;
  };
  not_skipped = none_skipped i;
}

needs_first : Needed tailed [] 1
needs_first = wanted 1 first_step a_path (Contains_here a_path []) makes_a

needs_second : Needed tailed [] 2
needs_second = member 2 second_step 1 first_step b_path needs_first refl (reads (on_settled tailed []) b_path a_path) makes_b

needs_third : Needed tailed [] 3
needs_third = member 3 third_step 2 second_step c_path needs_second refl (reads (on_settled tailed []) c_path b_path) makes_c

stuck_first : IsStuck tailed [] 1
stuck_first = stuck 1 first_step a_path makes_a needs_first

stuck_second : IsStuck tailed [] 2
stuck_second = stuck 2 second_step b_path makes_b needs_second

stuck_third : IsStuck tailed [] 3
stuck_third = stuck 3 third_step c_path makes_c needs_third

-- what is needed is one of the three
made_is : (i : ℕ) (step : Step) → step_at tailed_copies.steps i ≡ Some step → (i ≡ 1) ⊎ (i ≡ 2) ⊎ (i ≡ 3)
made_is i step at = elim (which i step at) [ inl (e, s) ↦ inl e | inr (inl (e, s)) ↦ inr (inl e) | inr (inr (e, s)) ↦ inr (inr e) ]

needed_is : (i : ℕ) → Needed tailed [] i → (i ≡ 1) ⊎ (i ≡ 2) ⊎ (i ≡ 3)
needed_is i (wanted k step path c makes) = made_is i step makes.at
needed_is i (member k step j other path needed at known makes) = made_is i step makes.at

rising : AllPairs (λ (i k : ℕ). i < k) (1 ∷ 2 ∷ 3 ∷ [])
rising = AllPairs-from_increasing (1 ∷ 2 ∷ 3 ∷ []) each
  where
    each : (k : ℕ) → k + 1 < 3 → slice_index (1 ∷ 2 ∷ 3 ∷ []) k < slice_index (1 ∷ 2 ∷ 3 ∷ []) (k + 1)
    each zero h = omega arith
    each (suc zero) h = omega arith
    each (suc (suc k)) h = absurd (omega arith)

all_stuck : IsListOf (IsStuck tailed []) (1 ∷ 2 ∷ 3 ∷ [])
all_stuck = record {
  rising = rising;
  each = λ i c. elim (Contains_cases 1 i (2 ∷ 3 ∷ []) c) [
    | inl e ↦ subst (IsStuck tailed []) e stuck_first
    | inr d ↦ elim (Contains_cases 2 i (3 ∷ []) d) [
      | inl e ↦ subst (IsStuck tailed []) e stuck_second
      | inr f ↦ subst (IsStuck tailed []) (one_of 3 i f) stuck_third
    ]
  ];
  whole = λ i s. elim (needed_is i s.left.needed) [
    | inl e ↦ subst (Contains (1 ∷ 2 ∷ 3 ∷ [])) (sym e) (0, omega arith, refl)
    | inr (inl e) ↦ subst (Contains (1 ∷ 2 ∷ 3 ∷ [])) (sym e) (1, omega arith, refl)
    | inr (inr e) ↦ subst (Contains (1 ∷ 2 ∷ 3 ∷ [])) (sym e) (2, omega arith, refl)
  ];
}

-- a step that reads this one file leads to its maker alone
leads_to : (i : ℕ) (input output : List ℕ) (k : ℕ) (other : Step) → step_at tailed_copies.steps i ≡ Some (copy_from input output) → Makes tailed_copies.steps k other input → IsStuck tailed [] k
    → ((step : Step) → step_at tailed_copies.steps i ≡ Some step → copy_from input output ≡ step) → NextStuck tailed [] i k
leads_to i input output k other at makes s same = record {
  has = record { stuck = s; step = copy_from input output; at = at; other = other; path = input; makes = makes; known = reads (on_settled tailed []) input output };
  lowest = λ j less n. below j less n;
}
  where
    below : (j : ℕ) → j < k → NeedsStuck tailed [] i j → ⊥
    below j less n =
        let p : input ≡ n.path = known_at (on_settled tailed []) input output n.step n.path (same n.step n.at) n.known in
        let e : j ≡ number_of input = subst (λ q. j ≡ number_of q) (sym p) (numbered j n.other n.path n.makes) in
        let f : k ≡ number_of input = numbered k other input makes in
        omega (arith, less, e, f)

one_first : (step : Step) → step_at tailed_copies.steps 1 ≡ Some step → first_step ≡ step
one_first step e = let f : Some first_step ≡ Some step = e in cc

one_second : (step : Step) → step_at tailed_copies.steps 2 ≡ Some step → second_step ≡ step
one_second step e = let f : Some second_step ≡ Some step = e in cc

one_third : (step : Step) → step_at tailed_copies.steps 3 ≡ Some step → third_step ≡ step
one_third step e = let f : Some third_step ≡ Some step = e in cc

first_lowest : (k : ℕ) → k < 1 → IsStuck tailed [] k → ⊥
first_lowest k less s = elim (needed_is k s.left.needed) [
  | inl e ↦ omega (arith, less, e)
  | inr (inl e) ↦ omega (arith, less, e)
  | inr (inr e) ↦ omega (arith, less, e)
]

cycle : IsStepCycle tailed [] (2 ∷ 3 ∷ [])
cycle = record {
  first = 1;
  more = 2 ∷ 3 ∷ [];
  starts = record { has = stuck_first; lowest = first_lowest };
  back = 2;
  leads = (
    leads_to 1 b_path a_path 2 second_step refl makes_b stuck_second one_first,
    (leads_to 2 c_path b_path 3 third_step refl makes_c stuck_third one_second, leads_to 3 b_path c_path 2 second_step refl makes_b stuck_second one_third),
  );
  once = λ i j d lt h e. (let less = rising i j d lt h in omega (arith, less, e));
  front = 1 ∷ [];
  rest = 3 ∷ [];
  walk = refl;
  list_is = refl;
}

-- the example holds
pub tailed_holds : TailedHolds
tailed_holds = record { apart = apart; run = run; stuck = all_stuck; cycle = cycle; no_other = λ list c. step_cycle_is_one tailed [] list (2 ∷ 3 ∷ []) c cycle }
