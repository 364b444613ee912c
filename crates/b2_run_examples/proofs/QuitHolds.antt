use Rattle.std.proofs.Common.{◌≡◌, ℕ, ◌<◌, ◌+◌, Bool, true, false, List, [], ◌∷◌, ◌⊎◌, inl, inr, refl, sym, subst, arith, Some, None, count_by}
use Rattle.std.specs.List.{Contains}
use Rattle.b2_host.specs.declared.children.ChildEvent.{ChildEvent}
use Rattle.b2_host.specs.declared.children.ChildEvent.TheVariants.{Start, Done}
use Rattle.b2_plan.specs.declared.step.Step.{Step}
use Rattle.b2_plan.specs.Plans.{Makes}
use Rattle.b2_plan.specs.Sources.{IsGiven}
use Rattle.b2_plan.specs.Closures.{Value, Known, IsClosure, Known.input as input_of}
use Rattle.b2_runs.specs.Staleness.{Update}
use Rattle.b2_runs.specs.Events.{is_start, is_done, IsOpen}
use Rattle.b2_runs.specs.Runs.{Settled, Settled.source, Settled.done_well, Settled.fresh, on_settled, Needed, Needed.wanted, Needed.member, CanStart, IsRun}
use Rattle.b2_runs.specs.Outcomes.{IsFailed, IsMissed, IsLeft, Skipped, Skipped.missing, Skipped.failed, Skipped.skipped, Skipped.quits}
use Rattle.b2_run_examples.specs.Overlap.{copy_from, x_path, a_path, b_path, c_path, three_copies, two_at_once}
use Rattle.b2_run_examples.specs.Quits.{quitting, quit_run, QuitHolds}
use Rattle.b2_runs.proofs.FirstElementOrLater.{Contains_here, Contains_there, Contains_cases, Contains_nil}
use Rattle.b2_runs.proofs.MakerIsOne.{source_not_made}
use Rattle.b2_runs.proofs.SourcesAreKept.{source_clean}
use Rattle.b2_runs.proofs.OthersAreLeft.{pairs_first}
use Rattle.b2_run_examples.proofs.OneStepPlan.{one_of}
use Rattle.b2_run_examples.proofs.DigestsHold.{absent, starts_of}
use Rattle.b2_run_examples.proofs.OverlapHolds.{which, made_at, apart, makes_a, makes_b, makes_c, x_source, known_is, skip, start_not_done, done_number, start_number, wants_a, wants_b, wants_c}

module _ (quit : Bool) where
  abbrev U : Update
  U = record two_at_once { quit = quit; jobs = 1 }

  x_settled : (events : List ChildEvent) → on_settled U events x_path (Some (7 ∷ []))
  x_settled events = (source x_path (7 ∷ []) x_source, source_clean three_copies apart x_path (7 ∷ []) x_source)

  close_x : (events : List ChildEvent) (output : List ℕ) → IsClosure three_copies (on_settled U events) (copy_from x_path output) ((x_path, Some (7 ∷ [])) ∷ [])
  close_x events output = record {
    ordered = λ i j d lt h. absurd (omega arith);
    each = λ path x c.
        let e : ◌≡◌ {A = List ℕ × Value} (x_path, Some (7 ∷ [])) (path, x) = one_of (x_path, Some (7 ∷ [])) (path, x) c in
        (subst (λ (z : List ℕ × Value). Known three_copies (on_settled U events) (copy_from x_path output) z.0) e (input_of x_path (Contains_here x_path [])), subst (λ (z : List ℕ × Value). on_settled U events z.0 z.1) e (x_settled events));
    whole = λ path k. (Some (7 ∷ []), subst (λ p. Contains {X = List ℕ × Value} ((x_path, Some (7 ∷ [])) ∷ []) (p, Some (7 ∷ []))) (known_is (on_settled U events) x_path output path k) (Contains_here (x_path, Some (7 ∷ [])) []));
  }

  -- a copy of the source can start, where none is open and the update goes on
  can : (events : List ChildEvent) (i : ℕ) (output : List ℕ) → Makes three_copies.steps i (copy_from x_path output) output → Contains three_copies.wanted output → (Contains events (Start i) → ⊥) → count_by is_start events < count_by is_done events + 1
      → (quit ≡ true → (k : ℕ) → Contains events (Done k false) → ⊥) → CanStart U events i
  can events i output makes asked not_started room goes_on = record {
    step = copy_from x_path output;
    at = makes.at;
    needed = wanted i (copy_from x_path output) output asked makes;
    not_started = not_started;
    members = (x_path, Some (7 ∷ [])) ∷ [];
    closure = close_x events output;
    stale = λ f. (let e : None ≡ Some f.recorded.last = f.recorded.found in cc);
    room = room;
    goes_on = goes_on;
  }

bad_first : Contains quit_run (Done 1 false)
bad_first = (1, omega arith, refl)

first_lowest : (k : ℕ) → k < 1 → CanStart quitting [] k → ⊥
first_lowest k less c = elim (which k c.step c.at) [
  | inl (e, s) ↦ omega (arith, less, e)
  | inr (inl (e, s)) ↦ omega (arith, less, e)
  | inr (inr (e, s)) ↦ omega (arith, less, e)
]

first_open : IsOpen (Start 1 ∷ []) 1
first_open = (Contains_here (Start 1) [], λ well. skip (Start 1) (Done 1 well) [] (start_not_done 1 1 well) (λ d. Contains_nil (Done 1 well) d))

full : (i : ℕ) → CanStart quitting (Start 1 ∷ []) i → ⊥
full i c = let h : 1 < 0 + 1 = c.room in omega (arith, h)

none_open : (i : ℕ) → IsOpen quit_run i → ⊥
none_open i o = elim (Contains_cases (Start 1) (Start i) (Done 1 false ∷ []) o.0) [
  | inl e ↦ o.1 false (subst (λ j. Contains quit_run (Done j false)) (start_number 1 i e) bad_first)
  | inr d ↦ (let e : Done 1 false ≡ Start i = one_of (Done 1 false) (Start i) d in cc)
]

run : IsRun quitting quit_run
run = record {
  each = ((can true [] 1 a_path makes_a wants_a (λ c. Contains_nil (Start 1) c) (let h : 0 < 0 + 1 = omega arith in h) (λ on k c. Contains_nil (Done k false) c), first_lowest), ((first_open, full), tt));
  none_open = none_open;
  none_left = λ i c. c.goes_on refl 1 bad_first;
}

failed_is : (i : ℕ) → IsFailed quit_run i → 1 ≡ i
failed_is i c = elim (Contains_cases (Start 1) (Done i false) (Done 1 false ∷ []) c) [
  | inl e ↦ absurd (start_not_done 1 i false e)
  | inr d ↦ done_number 1 i false false (one_of (Done 1 false) (Done i false) d)
]

-- an output of another step is not settled, since none was done well
not_settled : (path : List ℕ) → Settled quitting quit_run path → (i : ℕ) (step : Step) → Makes three_copies.steps i step path → ⊥
not_settled path (source p bytes s) i step makes = source_not_made three_copies apart p bytes s i step makes
not_settled path (done_well k s p m done) i step makes = (
    let e : Contains quit_run (Done k true) = done in
    elim (Contains_cases (Start 1) (Done k true) (Done 1 false ∷ []) e) [
      | inl f ↦ start_not_done 1 k true f
      | inr d ↦ (let f : Done 1 false ≡ Done k true = one_of (Done 1 false) (Done k true) d in let g : false ≡ true = cc in cc)
    ])
not_settled path (fresh k s p members m not_started closure inside f) i step makes = let e : None ≡ Some f.recorded.last = f.recorded.found in cc

left_at : (i : ℕ) (input output : List ℕ) → Makes three_copies.steps i (copy_from input output) output → Contains three_copies.wanted output → (1 ≡ i → ⊥) → IsLeft quitting quit_run i
left_at i input output makes asked differ = record {
  needed = wanted i (copy_from input output) output asked makes;
  not_settled = λ all. not_settled output (all (copy_from input output) output makes) i (copy_from input output) makes;
  not_failed = λ bad. differ (failed_is i bad);
}

second_left : IsLeft quitting quit_run 2
second_left = left_at 2 x_path b_path makes_b wants_b (λ e. omega (arith, e))

third_left : IsLeft quitting quit_run 3
third_left = left_at 3 b_path c_path makes_c wants_c (λ e. omega (arith, e))

needed_is : (i : ℕ) → Needed quitting quit_run i → (i ≡ 1) ⊎ (i ≡ 2) ⊎ (i ≡ 3)
needed_is i (wanted k step path c makes) = elim (made_at i step path makes) [ inl (e, p) ↦ inl e | inr (inl (e, p)) ↦ inr (inl e) | inr (inr (e, p)) ↦ inr (inr e) ]
needed_is i (member k step j other path needed at known makes) = elim (made_at i step path makes) [ inl (e, p) ↦ inl e | inr (inl (e, p)) ↦ inr (inl e) | inr (inr (e, p)) ↦ inr (inr e) ]

skipped_is : (i : ℕ) → IsLeft quitting quit_run i → Contains (2 ∷ 3 ∷ []) i
skipped_is i left = elim (needed_is i left.needed) [
  | inl e ↦ absurd (left.not_failed (subst (λ j. Contains quit_run (Done j false)) (sym e) bad_first))
  | inr (inl e) ↦ subst (Contains (2 ∷ 3 ∷ [])) (sym e) (Contains_here 2 (3 ∷ []))
  | inr (inr e) ↦ subst (Contains (2 ∷ 3 ∷ [])) (sym e) (Contains_there 2 3 (3 ∷ []) (Contains_here 3 []))
]

left_of : (i : ℕ) → Skipped quitting quit_run i → IsLeft quitting quit_run i
left_of i (missing k step path left at known miss) = left
left_of i (failed k step path j other left at known makes bad) = left
left_of i (skipped k step path j other left at known makes bad) = left
left_of i (quits k j left on bad) = left

-- no path is missing: each that is wanted or read is the source or an output
none_missed : (path : List ℕ) → IsMissed quitting quit_run path → ⊥
none_missed path m = elim m.asked [
  | inl c ↦ m.missing (inr (wanted_is c))
  | inr (i, step, needed, at, c) ↦ elim (which i step at) [
    | inl (e, s) ↦ m.missing (subst (IsGiven three_copies) (reads x_path a_path step s c) (inl (7 ∷ [], x_source)))
    | inr (inl (e, s)) ↦ m.missing (subst (IsGiven three_copies) (reads x_path b_path step s c) (inl (7 ∷ [], x_source)))
    | inr (inr (e, s)) ↦ m.missing (subst (IsGiven three_copies) (reads b_path c_path step s c) (inr (2, copy_from x_path b_path, makes_b)))
  ]
]
  where
    reads : (input output : List ℕ) (step : Step) → copy_from input output ≡ step → Contains step.ins path → input ≡ path
    reads input output step s c = one_of input path (subst (λ (t : Step). Contains t.ins path) (sym s) c)

    wanted_is : Contains three_copies.wanted path → (i : ℕ) × (step : Step) × Makes three_copies.steps i step path
    wanted_is c = elim (Contains_cases a_path path (b_path ∷ c_path ∷ []) c) [
      | inl e ↦ (1, copy_from x_path a_path, subst (Makes three_copies.steps 1 (copy_from x_path a_path)) e makes_a)
      | inr d ↦ elim (Contains_cases b_path path (c_path ∷ []) d) [
        | inl e ↦ (2, copy_from x_path b_path, subst (Makes three_copies.steps 2 (copy_from x_path b_path)) e makes_b)
        | inr f ↦ (3, copy_from b_path c_path, subst (Makes three_copies.steps 3 (copy_from b_path c_path)) (one_of c_path path f) makes_c)
      ]
    ]

-- the example holds
pub quit_holds : QuitHolds
quit_holds = record {
  run = run;
  lists = record {
    failed = record {
      rising = λ i j d lt h. absurd (omega arith);
      each = λ i c. subst (λ j. Contains quit_run (Done j false)) (one_of 1 i c) bad_first;
      whole = λ i bad. subst (Contains (1 ∷ [])) (failed_is i bad) (Contains_here 1 []);
    };
    skipped = record {
      rising = pairs_first (λ i k. i < k) 2 (3 ∷ []) (λ y c. subst (λ z. 2 < z) (one_of 3 y c) (omega arith)) (λ i j d lt h. absurd (omega arith));
      each = λ i c. elim (Contains_cases 2 i (3 ∷ []) c) [
        | inl e ↦ subst (Skipped quitting quit_run) e (quits 2 1 second_left refl bad_first)
        | inr d ↦ subst (Skipped quitting quit_run) (one_of 3 i d) (quits 3 1 third_left refl bad_first)
      ];
      whole = λ i s. skipped_is i (left_of i s);
    };
    missing = record {
      rising = λ i j d lt h. absurd (omega arith);
      each = λ path c. absurd (Contains_nil path c);
      whole = λ path m. absurd (none_missed path m);
    };
  };
  none_stuck = λ i needed. elim (needed_is i needed) [
    | inl e ↦ inr (inl (subst (λ j. Contains quit_run (Done j false)) (sym e) bad_first))
    | inr (inl e) ↦ inr (inr (subst (Skipped quitting quit_run) (sym e) (quits 2 1 second_left refl bad_first)))
    | inr (inr e) ↦ inr (inr (subst (Skipped quitting quit_run) (sym e) (quits 3 1 third_left refl bad_first)))
  ];
  not_whole = λ r. r.none_left 2 (can false quit_run 2 b_path makes_b wants_b (λ c. absent (starts_of 2) quit_run refl (Start 2) refl c) (let h : 1 < 1 + 1 = omega arith in h) (λ on k c. let e : false ≡ true = on in cc));
}
