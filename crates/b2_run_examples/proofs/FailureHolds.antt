use Rattle.std.proofs.Common.{◌≡◌, ℕ, true, false, List, [], ◌∷◌, ◌⊎◌, inl, inr, refl, sym, ap, subst, ◌∙◌, arith, Some, None}
use Rattle.std.specs.List.{Contains}
use Rattle.b2_host.specs.declared.children.ChildEvent.{ChildEvent}
use Rattle.b2_host.specs.declared.children.ChildEvent.TheVariants.{Start, Done}
use Rattle.b2_plan.specs.Plans.{Makes}
use Rattle.b2_plan.specs.Closures.{Known.input as input_of}
use Rattle.b2_runs.specs.Events.{IsOpen}
use Rattle.b2_runs.specs.Runs.{Settled, Settled.source, Settled.done_well, Settled.fresh, Needed, Needed.wanted, Needed.member, CanStart, IsRun}
use Rattle.b2_runs.specs.Outcomes.{LeavesNothing, IsSettledStep, IsFailed, IsLeft, Skipped, Skipped.missing, Skipped.failed, Skipped.skipped, Skipped.quits}
use Rattle.b2_run_examples.specs.Overlap.{copy_from, x_path, b_path, c_path, three_copies, two_at_once, failing, FailureHolds}
use Rattle.b2_runs.proofs.FirstElementOrLater.{Contains_here, Contains_cases, Contains_nil}
use Rattle.b2_runs.proofs.MakerIsOne.{source_not_made}
use Rattle.b2_run_examples.proofs.OneStepPlan.{one_of}
use Rattle.b2_run_examples.proofs.ThreeCopies.{number_of}
use Rattle.b2_run_examples.proofs.OverlapHolds.{numbered, made_at, apart, makes_b, makes_c, skip, start_not_done, done_not_start, done_number, done_well_is, start_number, can_first, can_second, first_lowest, second_lowest, third_waits, third_needs_second, none_can, second_open, wants_c, after_two}

abbrev after_failure : List ChildEvent
after_failure = Start 1 ∷ Start 2 ∷ Done 2 false ∷ []

false_not_true : false ≡ true → ⊥
false_not_true e = let f : false ≡ true = e in cc

true_not_false : true ≡ false → ⊥
true_not_false e = let f : true ≡ false = e in cc

not_well : (more : List ChildEvent) → (Contains more (Done 2 true) → ⊥) → Contains (Start 1 ∷ Start 2 ∷ Done 2 false ∷ more) (Done 2 true) → ⊥
not_well more rest =
    skip (Start 1) (Done 2 true) (Start 2 ∷ Done 2 false ∷ more) (start_not_done 1 2 true)
    (skip (Start 2) (Done 2 true) (Done 2 false ∷ more) (start_not_done 2 2 true)
    (skip (Done 2 false) (Done 2 true) more (λ e. false_not_true (done_well_is 2 2 false true e)) rest))

-- the third never starts
third_never : CanStart two_at_once failing 3 → ⊥
third_never c = not_well (Done 1 true ∷ []) (skip (Done 1 true) (Done 2 true) [] (λ e. (let f : ◌≡◌ {A = ℕ} 1 2 = done_number 1 2 true true e in omega (arith, f))) (λ d. Contains_nil (Done 2 true) d)) (third_needs_second failing c)

third_waits_still : CanStart two_at_once after_failure 3 → ⊥
third_waits_still c = not_well [] (λ d. Contains_nil (Done 2 true) d) (third_needs_second after_failure c)

first_open : IsOpen after_failure 1
first_open = (
  (0, omega arith, refl),
  λ well.
      skip (Start 1) (Done 1 well) (Start 2 ∷ Done 2 false ∷ []) (start_not_done 1 1 well)
      (skip (Start 2) (Done 1 well) (Done 2 false ∷ []) (start_not_done 2 1 well)
      (skip (Done 2 false) (Done 1 well) [] (λ e. (let f : ◌≡◌ {A = ℕ} 2 1 = done_number 2 1 false well e in omega (arith, f))) (λ d. Contains_nil (Done 1 well) d))),
)

done_first : Contains failing (Done 1 true)
done_first = (3, omega arith, refl)

bad_second : Contains failing (Done 2 false)
bad_second = (2, omega arith, refl)

none_open : (i : ℕ) → IsOpen failing i → ⊥
none_open i o = elim (Contains_cases (Start 1) (Start i) (Start 2 ∷ Done 2 false ∷ Done 1 true ∷ []) o.0) [
  | inl e ↦ o.1 true (subst (λ j. Contains failing (Done j true)) (start_number 1 i e) done_first)
  | inr c ↦ elim (Contains_cases (Start 2) (Start i) (Done 2 false ∷ Done 1 true ∷ []) c) [
    | inl e ↦ o.1 false (subst (λ j. Contains failing (Done j false)) (start_number 2 i e) bad_second)
    | inr d ↦ skip (Done 2 false) (Start i) (Done 1 true ∷ []) (done_not_start i 2 false) (skip (Done 1 true) (Start i) [] (done_not_start i 1 true) (λ f. Contains_nil (Start i) f)) d
  ]
]

run : IsRun two_at_once failing
run = record {
  each = (
    (can_first, first_lowest),
    (
      (can_second, second_lowest),
      (
        (second_open, none_can after_two (0, omega arith, refl) (1, omega arith, refl) third_waits),
        ((first_open, none_can after_failure (0, omega arith, refl) (1, omega arith, refl) third_waits_still), tt),
      ),
    ),
  );
  none_open = none_open;
  none_left = none_can failing (0, omega arith, refl) (1, omega arith, refl) third_never;
}

failed_is : (i : ℕ) → IsFailed failing i → 2 ≡ i
failed_is i c = elim (Contains_cases (Done 2 false) (Done i false) (Done 1 true ∷ []) (past_starts c)) [
  | inl e ↦ done_number 2 i false false e
  | inr d ↦ absurd (skip (Done 1 true) (Done i false) [] (λ e. true_not_false (done_well_is 1 i true false e)) (λ f. Contains_nil (Done i false) f) d)
]
  where
    past_starts : Contains failing (Done i false) → Contains (Done 2 false ∷ Done 1 true ∷ []) (Done i false)
    past_starts c = elim (Contains_cases (Start 1) (Done i false) (Start 2 ∷ Done 2 false ∷ Done 1 true ∷ []) c) [
      | inl e ↦ absurd (start_not_done 1 i false e)
      | inr d ↦ elim (Contains_cases (Start 2) (Done i false) (Done 2 false ∷ Done 1 true ∷ []) d) [
        | inl e ↦ absurd (start_not_done 2 i false e)
        | inr f ↦ f
      ]
    ]

-- a step that is needed is one of the three
needed_is : (i : ℕ) → Needed two_at_once failing i → (i ≡ 1) ⊎ (i ≡ 2) ⊎ (i ≡ 3)
needed_is i (wanted k step path c makes) = elim (made_at i step path makes) [ inl (e, p) ↦ inl e | inr (inl (e, p)) ↦ inr (inl e) | inr (inr (e, p)) ↦ inr (inr e) ]
needed_is i (member k step j other path needed at known makes) = elim (made_at i step path makes) [ inl (e, p) ↦ inl e | inr (inl (e, p)) ↦ inr (inl e) | inr (inr (e, p)) ↦ inr (inr e) ]

first_settled : (i : ℕ) → i ≡ 1 → IsSettledStep two_at_once failing i
first_settled i e step path m = done_well i step path m (subst (λ j. Contains failing (Done j true)) (sym e) done_first)

third_not_done : Contains failing (Done 3 true) → ⊥
third_not_done =
    skip (Start 1) (Done 3 true) (Start 2 ∷ Done 2 false ∷ Done 1 true ∷ []) (start_not_done 1 3 true)
    (skip (Start 2) (Done 3 true) (Done 2 false ∷ Done 1 true ∷ []) (start_not_done 2 3 true)
    (skip (Done 2 false) (Done 3 true) (Done 1 true ∷ []) (λ e. false_not_true (done_well_is 2 3 false true e))
    (skip (Done 1 true) (Done 3 true) [] (λ e. (let f : ◌≡◌ {A = ℕ} 1 3 = done_number 1 3 true true e in omega (arith, f))) (λ d. Contains_nil (Done 3 true) d))))

third_not_settled : (path : List ℕ) → Settled two_at_once failing path → c_path ≡ path → ⊥
third_not_settled path (source p bytes s) e = source_not_made three_copies apart p bytes s 3 (copy_from b_path c_path) (subst (Makes three_copies.steps 3 (copy_from b_path c_path)) e makes_c)
third_not_settled path (done_well i step p m done) e = third_not_done (subst (λ j. Contains failing (Done j true)) (numbered i step p m ∙ ap number_of (sym e)) done)
third_not_settled path (fresh i step p members m not_started closure inside f) e = absurd (let g : None ≡ Some f.recorded.last = f.recorded.found in cc)

third_left : IsLeft two_at_once failing 3
third_left = record {
  needed = wanted 3 (copy_from b_path c_path) c_path wants_c makes_c;
  not_settled = λ all. third_not_settled c_path (all (copy_from b_path c_path) c_path makes_c) refl;
  not_failed = λ bad. (let e : ◌≡◌ {A = ℕ} 2 3 = failed_is 3 bad in omega (arith, e));
}

third_skipped : Skipped two_at_once failing 3
third_skipped = failed 3 (copy_from b_path c_path) b_path 2 (copy_from x_path b_path) third_left refl (input_of b_path (Contains_here b_path [])) makes_b bad_second

-- only the third is left
left_is : (i : ℕ) → IsLeft two_at_once failing i → 3 ≡ i
left_is i left = elim (needed_is i left.needed) [
  | inl e ↦ absurd (left.not_settled (first_settled i e))
  | inr (inl e) ↦ absurd (left.not_failed (subst (λ j. Contains failing (Done j false)) (sym e) bad_second))
  | inr (inr e) ↦ sym e
]

skipped_is : (i : ℕ) → Skipped two_at_once failing i → 3 ≡ i
skipped_is i (missing k step path left at known miss) = left_is k left
skipped_is i (failed k step path j other left at known makes bad) = left_is k left
skipped_is i (skipped k step path j other left at known makes bad) = left_is k left
skipped_is i (quits k j left quit bad) = left_is k left

leaves : LeavesNothing two_at_once failing three_copies.folder []
leaves = record {
  files = λ i step path bad m.
      let e : i ≡ 2 = sym (failed_is i bad) in
      elim (made_at i step path m) [
        | inl (f, p) ↦ absurd (omega (arith, e, f))
        | inr (inl (f, p)) ↦ subst (λ q. three_copies.folder q ≡ None) p refl
        | inr (inr (f, p)) ↦ absurd (omega (arith, e, f))
      ];
  records = λ i step bad at. refl;
}

-- the example holds
pub failure_holds : FailureHolds
failure_holds = record {
  run = run;
  failed = record {
    rising = λ i j d lt h. absurd (omega arith);
    each = λ i c. subst (λ j. Contains failing (Done j false)) (one_of 2 i c) bad_second;
    whole = λ i bad. subst (Contains (2 ∷ [])) (failed_is i bad) (Contains_here 2 []);
  };
  skipped = record {
    rising = λ i j d lt h. absurd (omega arith);
    each = λ i c. subst (Skipped two_at_once failing) (one_of 3 i c) third_skipped;
    whole = λ i s. subst (Contains (3 ∷ [])) (skipped_is i s) (Contains_here 3 []);
  };
  none_stuck = λ i needed. elim (needed_is i needed) [
    | inl e ↦ inl (first_settled i e)
    | inr (inl e) ↦ inr (inl (subst (λ j. Contains failing (Done j false)) (sym e) bad_second))
    | inr (inr e) ↦ inr (inr (subst (Skipped two_at_once failing) (sym e) third_skipped))
  ];
  leaves = leaves;
}
