use Rattle.std.proofs.Common.{◌≡◌, ℕ, ◌<◌, ◌+◌, Bool, true, false, List, [], ◌∷◌, length, ◌⊎◌, inl, inr, refl, sym, ap, subst, ◌∙◌, arith, Some, None, codes, count_by}
use Rattle.std.specs.List.{Contains}
use Rattle.b2_base.specs.Normal.{IsUnder, parts}
use Rattle.b2_host.specs.declared.children.ChildEvent.{ChildEvent}
use Rattle.b2_host.specs.declared.children.ChildEvent.TheVariants.{Start, Done}
use Rattle.b2_plan.specs.declared.step.Step.{Step}
use Rattle.b2_plan.specs.Plans.{step_at, Makes, Apart}
use Rattle.b2_plan.specs.Sources.{IsSource}
use Rattle.b2_plan.specs.Closures.{Value, Values, Known, Known.input as input_of, Known.include, IsClosure}
use Rattle.b2_runs.specs.Events.{IsOpen, is_start, is_done}
use Rattle.b2_runs.specs.Runs.{Settled, Settled.source, Settled.done_well, Settled.fresh, on_settled, Needed.wanted, CanStart, IsRun}
use Rattle.b2_runs.specs.Outcomes.{AllWent, IsSettledStep, Skipped, Skipped.missing, Skipped.failed, Skipped.skipped, Skipped.quits}
use Rattle.b2_run_examples.specs.Overlap.{copy_from, x_path, a_path, b_path, c_path, three_copies, two_at_once, overlapping, OverlapHolds}
use Rattle.b2_runs.proofs.FirstElementOrLater.{Contains_here, Contains_cases, Contains_nil}
use Rattle.b2_runs.proofs.MakerIsOne.{source_not_made}
use Rattle.b2_runs.proofs.CleanIsOne.{clean_is_made}
use Rattle.b2_runs.proofs.SourcesAreKept.{source_clean}
use Rattle.b2_runs.proofs.SettledStays.{closure_on_settled}
use Rattle.b2_run_examples.proofs.OneStepPlan.{one_of, longer}
use Rattle.b2_run_examples.proofs.ThreeCopies as copies
use Rattle.b2_run_examples.proofs.ThreeCopies.{number_of}

-- the three steps
pub which : (i : ℕ) (step : Step) → step_at three_copies.steps i ≡ Some step → ((i ≡ 1) × (copy_from x_path a_path ≡ step)) ⊎ ((i ≡ 2) × (copy_from x_path b_path ≡ step)) ⊎ ((i ≡ 3) × (copy_from b_path c_path ≡ step))
which = copies.which x_path x_path b_path

-- what each makes
pub made_at : (i : ℕ) (step : Step) (path : List ℕ) → Makes three_copies.steps i step path → ((i ≡ 1) × (a_path ≡ path)) ⊎ ((i ≡ 2) × (b_path ≡ path)) ⊎ ((i ≡ 3) × (c_path ≡ path))
made_at = copies.made_at x_path x_path b_path

pub numbered : (i : ℕ) (step : Step) (path : List ℕ) → Makes three_copies.steps i step path → i ≡ number_of path
numbered = copies.numbered x_path x_path b_path

pub apart : Apart three_copies.steps three_copies.roots
apart = copies.are_apart x_path x_path b_path

pub makes_a : Makes three_copies.steps 1 (copy_from x_path a_path) a_path
makes_a = copies.makes_first x_path x_path b_path

pub makes_b : Makes three_copies.steps 2 (copy_from x_path b_path) b_path
makes_b = copies.makes_second x_path x_path b_path

pub makes_c : Makes three_copies.steps 3 (copy_from b_path c_path) c_path
makes_c = copies.makes_third x_path x_path b_path

-- one event is not another
pub skip : (x y : ChildEvent) (xs : List ChildEvent) → (x ≡ y → ⊥) → (Contains xs y → ⊥) → Contains (x ∷ xs) y → ⊥
skip x y xs differ rest c = elim (Contains_cases x y xs c) [ inl e ↦ differ e | inr d ↦ rest d ]

pub start_not_done : (i k : ℕ) (well : Bool) → Start i ≡ Done k well → ⊥
start_not_done i k well e = absurd (let f : Start i ≡ Done k well = e in cc)

pub done_not_start : (i k : ℕ) (well : Bool) → Done k well ≡ Start i → ⊥
done_not_start i k well e = absurd (let f : Done k well ≡ Start i = e in cc)

pub done_number : (i k : ℕ) (well other : Bool) → Done i well ≡ Done k other → i ≡ k
done_number i k well other e = let f : Done i well ≡ Done k other = e in cc

pub done_well_is : (i k : ℕ) (well other : Bool) → Done i well ≡ Done k other → well ≡ other
done_well_is i k well other e = let f : Done i well ≡ Done k other = e in cc

pub start_number : (i k : ℕ) → Start i ≡ Start k → i ≡ k
start_number i k e = let f : Start i ≡ Start k = e in cc

one_not_two : ◌≡◌ {A = ℕ} 1 2 → ⊥
one_not_two e = omega (arith, e)

two_not_one : ◌≡◌ {A = ℕ} 2 1 → ⊥
two_not_one e = omega (arith, e)

three_not_one : ◌≡◌ {A = ℕ} 3 1 → ⊥
three_not_one e = omega (arith, e)

one_not_three : ◌≡◌ {A = ℕ} 1 3 → ⊥
one_not_three e = omega (arith, e)

two_not_three : ◌≡◌ {A = ℕ} 2 3 → ⊥
two_not_three e = omega (arith, e)

-- the source, and what is settled
pub x_source : IsSource three_copies x_path (7 ∷ [])
x_source = record { outside = λ (root, c, u). x_outside root c u; stands = refl }
  where
    x_outside : (root : List ℕ) → Contains (codes "bin" ∷ []) root → IsUnder x_path root → ⊥
    x_outside root c u =
        let e : codes "bin" ≡ root = one_of (codes "bin") root c in
        let h : length (parts (codes "bin")) < length (parts x_path) = longer x_path (codes "bin") (subst (IsUnder x_path) (sym e) u) in
        let small : 1 < 1 = h in
        omega arith

x_settled : (events : List ChildEvent) → on_settled two_at_once events x_path (Some (7 ∷ []))
x_settled events = (source x_path (7 ∷ []) x_source, source_clean three_copies apart x_path (7 ∷ []) x_source)

-- what is known of a copy is what it reads
pub known_is : (v : Values) (input output path : List ℕ) → Known three_copies v (copy_from input output) path → input ≡ path
known_is v input output path (input_of p c) = one_of input p c
known_is v input output path (include p bytes found k says inc) = absurd (Contains_nil inc.include inc.listed)

close_of : (events : List ChildEvent) (input output : List ℕ) (value : Value) → on_settled two_at_once events input value → IsClosure three_copies (on_settled two_at_once events) (copy_from input output) ((input, value) ∷ [])
close_of events input output value has = record {
  ordered = λ i j d lt h. absurd (omega arith);
  each = λ path x c.
      let e : ◌≡◌ {A = List ℕ × Value} (input, value) (path, x) = one_of (input, value) (path, x) c in (
        subst (λ (z : List ℕ × Value). Known three_copies (on_settled two_at_once events) (copy_from input output) z.0) e (input_of input (Contains_here input [])),
        subst (λ (z : List ℕ × Value). on_settled two_at_once events z.0 z.1) e has,
      );
  whole = λ path k. (value, subst (λ p. Contains {X = List ℕ × Value} ((input, value) ∷ []) (p, value)) (known_is (on_settled two_at_once events) input output path k) (Contains_here (input, value) []));
}

b_settled : (events : List ChildEvent) → Contains events (Done 2 true) → on_settled two_at_once events b_path (Some (7 ∷ []))
b_settled events done = (
  done_well 2 (copy_from x_path b_path) b_path makes_b done,
  clean_is_made three_copies 2 (copy_from x_path b_path) b_path ((x_path, Some (7 ∷ [])) ∷ []) apart makes_b
      ((closure_on_settled two_at_once events (copy_from x_path b_path) ((x_path, Some (7 ∷ [])) ∷ []) apart).0 (close_of events x_path b_path (Some (7 ∷ [])) (x_settled events))).0,
)

-- a copy can start where what it reads is settled
can : (events : List ChildEvent) (i : ℕ) (input output : List ℕ) (value : Value) → Makes three_copies.steps i (copy_from input output) output → Contains three_copies.wanted output → (Contains events (Start i) → ⊥) → on_settled two_at_once events input value
    → count_by is_start events < count_by is_done events + 2 → CanStart two_at_once events i
can events i input output value makes asked not_started has room = record {
  step = copy_from input output;
  at = makes.at;
  needed = wanted i (copy_from input output) output asked makes;
  not_started = not_started;
  members = (input, value) ∷ [];
  closure = close_of events input output value has;
  stale = λ f. (let e : None ≡ Some f.recorded.last = f.recorded.found in cc);
  room = room;
  goes_on = λ quit k bad. (let e : false ≡ true = quit in cc);
}

-- the second output is settled only where its step is done
b_needs_done : (events : List ChildEvent) (path : List ℕ) → Settled two_at_once events path → b_path ≡ path → Contains events (Done 2 true)
b_needs_done events path (source p bytes s) e = absurd (source_not_made three_copies apart p bytes s 2 (copy_from x_path b_path) (subst (Makes three_copies.steps 2 (copy_from x_path b_path)) e makes_b))
b_needs_done events path (done_well i step p m done) e = subst (λ j. Contains events (Done j true)) (numbered i step p m ∙ ap number_of (sym e)) done
b_needs_done events path (fresh i step p members m not_started closure inside f) e = absurd (let g : None ≡ Some f.recorded.last = f.recorded.found in cc)

pub third_needs_second : (events : List ChildEvent) → CanStart two_at_once events 3 → Contains events (Done 2 true)
third_needs_second events c = go (which 3 c.step c.at)
  where
    go : ((◌≡◌ {A = ℕ} 3 1) × (copy_from x_path a_path ≡ c.step)) ⊎ ((◌≡◌ {A = ℕ} 3 2) × (copy_from x_path b_path ≡ c.step)) ⊎ ((◌≡◌ {A = ℕ} 3 3) × (copy_from b_path c_path ≡ c.step)) → Contains events (Done 2 true)
    go (inl (e, s)) = absurd (three_not_one e)
    go (inr (inl (e, s))) = absurd (two_not_three (sym e))
    go (inr (inr (e, s))) =
        let known : Known three_copies (on_settled two_at_once events) c.step b_path = subst (λ t. Known three_copies (on_settled two_at_once events) t b_path) s (input_of b_path (Contains_here b_path [])) in
        let (value, inside) = c.closure.whole b_path known in
        b_needs_done events b_path (c.closure.each b_path value inside).1.0 refl

-- no step can start where the first two were started, and the third was or cannot
pub none_can : (events : List ChildEvent) → Contains events (Start 1) → Contains events (Start 2) → (CanStart two_at_once events 3 → ⊥) → (i : ℕ) → CanStart two_at_once events i → ⊥
none_can events one two third i c = elim (which i c.step c.at) [
  | inl (e, s) ↦ c.not_started (subst (λ j. Contains events (Start j)) (sym e) one)
  | inr (inl (e, s)) ↦ c.not_started (subst (λ j. Contains events (Start j)) (sym e) two)
  | inr (inr (e, s)) ↦ third (subst (CanStart two_at_once events) e c)
]

pub wants_a : Contains three_copies.wanted a_path
wants_a = (0, omega arith, refl)

pub wants_b : Contains three_copies.wanted b_path
wants_b = (1, omega arith, refl)

pub wants_c : Contains three_copies.wanted c_path
wants_c = (2, omega arith, refl)

pub can_first : CanStart two_at_once [] 1
can_first = can [] 1 x_path a_path (Some (7 ∷ [])) makes_a wants_a (λ c. Contains_nil (Start 1) c) (x_settled []) (let h : 0 < 0 + 2 = omega arith in h)

abbrev pub after_one : List ChildEvent
after_one = Start 1 ∷ []

abbrev pub after_two : List ChildEvent
after_two = Start 1 ∷ Start 2 ∷ []

abbrev after_three : List ChildEvent
after_three = Start 1 ∷ Start 2 ∷ Done 2 true ∷ []

abbrev after_four : List ChildEvent
after_four = Start 1 ∷ Start 2 ∷ Done 2 true ∷ Start 3 ∷ []

abbrev after_five : List ChildEvent
after_five = Start 1 ∷ Start 2 ∷ Done 2 true ∷ Start 3 ∷ Done 1 true ∷ []

not_two_yet : Contains after_one (Start 2) → ⊥
not_two_yet = skip (Start 1) (Start 2) [] (λ e. one_not_two (start_number 1 2 e)) (λ c. Contains_nil (Start 2) c)

pub can_second : CanStart two_at_once after_one 2
can_second = can after_one 2 x_path b_path (Some (7 ∷ [])) makes_b wants_b not_two_yet (x_settled after_one) (let h : 1 < 0 + 2 = omega arith in h)

not_three_yet : Contains after_three (Start 3) → ⊥
not_three_yet =
    skip (Start 1) (Start 3) (Start 2 ∷ Done 2 true ∷ []) (λ e. one_not_three (start_number 1 3 e))
    (skip (Start 2) (Start 3) (Done 2 true ∷ []) (λ e. two_not_three (start_number 2 3 e))
    (skip (Done 2 true) (Start 3) [] (done_not_start 3 2 true) (λ c. Contains_nil (Start 3) c)))

can_third : CanStart two_at_once after_three 3
can_third = can after_three 3 b_path c_path (Some (7 ∷ [])) makes_c wants_c not_three_yet (b_settled after_three (2, omega arith, refl)) (let h : 2 < 1 + 2 = omega arith in h)

-- the third waits for the second
pub third_waits : CanStart two_at_once after_two 3 → ⊥
third_waits c =
    skip (Start 1) (Done 2 true) (Start 2 ∷ []) (start_not_done 1 2 true)
    (skip (Start 2) (Done 2 true) [] (start_not_done 2 2 true) (λ d. Contains_nil (Done 2 true) d)) (third_needs_second after_two c)

pub first_lowest : (k : ℕ) → k < 1 → CanStart two_at_once [] k → ⊥
first_lowest k less c = elim (which k c.step c.at) [
  | inl (e, s) ↦ omega (arith, less, e)
  | inr (inl (e, s)) ↦ omega (arith, less, e)
  | inr (inr (e, s)) ↦ omega (arith, less, e)
]

pub second_lowest : (k : ℕ) → k < 2 → CanStart two_at_once after_one k → ⊥
second_lowest k less c = elim (which k c.step c.at) [
  | inl (e, s) ↦ c.not_started (subst (λ j. Contains after_one (Start j)) (sym e) (Contains_here (Start 1) []))
  | inr (inl (e, s)) ↦ absurd (omega (arith, less, e))
  | inr (inr (e, s)) ↦ absurd (omega (arith, less, e))
]

third_lowest : (k : ℕ) → k < 3 → CanStart two_at_once after_three k → ⊥
third_lowest k less c = elim (which k c.step c.at) [
  | inl (e, s) ↦ c.not_started (subst (λ j. Contains after_three (Start j)) (sym e) (0, omega arith, refl))
  | inr (inl (e, s)) ↦ c.not_started (subst (λ j. Contains after_three (Start j)) (sym e) (1, omega arith, refl))
  | inr (inr (e, s)) ↦ absurd (omega (arith, less, e))
]

third_started : (events : List ChildEvent) → Contains events (Start 3) → CanStart two_at_once events 3 → ⊥
third_started events started c = c.not_started started

pub second_open : IsOpen after_two 2
second_open = (
  (1, omega arith, refl),
  λ well. skip (Start 1) (Done 2 well) (Start 2 ∷ []) (start_not_done 1 2 well) (skip (Start 2) (Done 2 well) [] (start_not_done 2 2 well) (λ d. Contains_nil (Done 2 well) d)),
)

first_open : IsOpen after_four 1
first_open = (
  (0, omega arith, refl),
  λ well.
      skip (Start 1) (Done 1 well) (Start 2 ∷ Done 2 true ∷ Start 3 ∷ []) (start_not_done 1 1 well)
      (skip (Start 2) (Done 1 well) (Done 2 true ∷ Start 3 ∷ []) (start_not_done 2 1 well)
      (skip (Done 2 true) (Done 1 well) (Start 3 ∷ []) (λ e. two_not_one (done_number 2 1 true well e))
      (skip (Start 3) (Done 1 well) [] (start_not_done 3 1 well) (λ d. Contains_nil (Done 1 well) d)))),
)

third_open : IsOpen after_five 3
third_open = (
  (3, omega arith, refl),
  λ well.
      skip (Start 1) (Done 3 well) (Start 2 ∷ Done 2 true ∷ Start 3 ∷ Done 1 true ∷ []) (start_not_done 1 3 well)
      (skip (Start 2) (Done 3 well) (Done 2 true ∷ Start 3 ∷ Done 1 true ∷ []) (start_not_done 2 3 well)
      (skip (Done 2 true) (Done 3 well) (Start 3 ∷ Done 1 true ∷ []) (λ e. two_not_three (done_number 2 3 true well e))
      (skip (Start 3) (Done 3 well) (Done 1 true ∷ []) (start_not_done 3 3 well)
      (skip (Done 1 true) (Done 3 well) [] (λ e. one_not_three (done_number 1 3 true well e)) (λ d. Contains_nil (Done 3 well) d))))),
)

-- each is done at the end
done_of : (i : ℕ) → (i ≡ 1) ⊎ (i ≡ 2) ⊎ (i ≡ 3) → Contains overlapping (Done i true)
done_of i (inl e) = subst (λ j. Contains overlapping (Done j true)) (sym e) (4, omega arith, refl)
done_of i (inr (inl e)) = subst (λ j. Contains overlapping (Done j true)) (sym e) (2, omega arith, refl)
done_of i (inr (inr e)) = subst (λ j. Contains overlapping (Done j true)) (sym e) (5, omega arith, refl)

started_is : (i : ℕ) → Contains overlapping (Start i) → (i ≡ 1) ⊎ (i ≡ 2) ⊎ (i ≡ 3)
started_is i c = elim (Contains_cases (Start 1) (Start i) (Start 2 ∷ Done 2 true ∷ Start 3 ∷ Done 1 true ∷ Done 3 true ∷ []) c) [
  | inl e ↦ inl (sym (start_number 1 i e))
  | inr c2 ↦ elim (Contains_cases (Start 2) (Start i) (Done 2 true ∷ Start 3 ∷ Done 1 true ∷ Done 3 true ∷ []) c2) [
    | inl e ↦ inr (inl (sym (start_number 2 i e)))
    | inr c3 ↦ elim (Contains_cases (Done 2 true) (Start i) (Start 3 ∷ Done 1 true ∷ Done 3 true ∷ []) c3) [
      | inl e ↦ absurd (done_not_start i 2 true e)
      | inr c4 ↦ elim (Contains_cases (Start 3) (Start i) (Done 1 true ∷ Done 3 true ∷ []) c4) [
        | inl e ↦ inr (inr (sym (start_number 3 i e)))
        | inr c5 ↦ absurd (skip (Done 1 true) (Start i) (Done 3 true ∷ []) (done_not_start i 1 true) (skip (Done 3 true) (Start i) [] (done_not_start i 3 true) (λ d. Contains_nil (Start i) d)) c5)
      ]
    ]
  ]
]

run : IsRun two_at_once overlapping
run = record {
  each = (
    (can_first, first_lowest),
    (
      (can_second, second_lowest),
      (
        (second_open, none_can after_two (0, omega arith, refl) (1, omega arith, refl) third_waits),
        (
          (can_third, third_lowest),
          (
            (first_open, none_can after_four (0, omega arith, refl) (1, omega arith, refl) (third_started after_four (3, omega arith, refl))),
            ((third_open, none_can after_five (0, omega arith, refl) (1, omega arith, refl) (third_started after_five (3, omega arith, refl))), tt),
          ),
        ),
      ),
    ),
  );
  none_open = λ i o. o.1 true (done_of i (started_is i o.0));
  none_left = none_can overlapping (0, omega arith, refl) (1, omega arith, refl) (third_started overlapping (3, omega arith, refl));
}

all_settled : (i : ℕ) → IsSettledStep two_at_once overlapping i
all_settled i step path m = done_well i step path m (done_of i (elim (made_at i step path m) [ inl (e, p) ↦ inl e | inr (inl (e, p)) ↦ inr (inl e) | inr (inr (e, p)) ↦ inr (inr e) ]))

none_skipped : (i : ℕ) → Skipped two_at_once overlapping i → ⊥
none_skipped i (missing k step path left at known miss) = left.not_settled (all_settled i)
none_skipped i (failed k step path j other left at known makes bad) = left.not_settled (all_settled i)
none_skipped i (skipped k step path j other left at known makes bad) = left.not_settled (all_settled i)
none_skipped i (quits k j left quit bad) = left.not_settled (all_settled i)

true_not_false : true ≡ false → ⊥
true_not_false e = let f : true ≡ false = e in cc

none_failed : (i : ℕ) → Contains overlapping (Done i false) → ⊥
none_failed i =
    skip (Start 1) (Done i false) (Start 2 ∷ Done 2 true ∷ Start 3 ∷ Done 1 true ∷ Done 3 true ∷ []) (start_not_done 1 i false)
    (skip (Start 2) (Done i false) (Done 2 true ∷ Start 3 ∷ Done 1 true ∷ Done 3 true ∷ []) (start_not_done 2 i false)
    (skip (Done 2 true) (Done i false) (Start 3 ∷ Done 1 true ∷ Done 3 true ∷ []) (λ e. true_not_false (done_well_is 2 i true false e))
    (skip (Start 3) (Done i false) (Done 1 true ∷ Done 3 true ∷ []) (start_not_done 3 i false)
    (skip (Done 1 true) (Done i false) (Done 3 true ∷ []) (λ e. true_not_false (done_well_is 1 i true false e))
    (skip (Done 3 true) (Done i false) [] (λ e. true_not_false (done_well_is 3 i true false e)) (λ d. Contains_nil (Done i false) d))))))

wanted_made : (path : List ℕ) → Contains three_copies.wanted path → (i : ℕ) × (step : Step) × Makes three_copies.steps i step path
wanted_made path c = elim (Contains_cases a_path path (b_path ∷ c_path ∷ []) c) [
  | inl e ↦ (1, copy_from x_path a_path, subst (Makes three_copies.steps 1 (copy_from x_path a_path)) e makes_a)
  | inr d ↦ elim (Contains_cases b_path path (c_path ∷ []) d) [
    | inl e ↦ (2, copy_from x_path b_path, subst (Makes three_copies.steps 2 (copy_from x_path b_path)) e makes_b)
    | inr f ↦ (3, copy_from b_path c_path, subst (Makes three_copies.steps 3 (copy_from b_path c_path)) (one_of c_path path f) makes_c)
  ]
]

went : AllWent two_at_once overlapping
went = record {
  given = λ path c. inr (wanted_made path c);
  none_failed = none_failed;
  none_skipped = none_skipped;
  none_stuck = λ i needed. inl (all_settled i);
}

-- the example holds
pub overlap_holds : OverlapHolds
overlap_holds = record {
  apart = apart;
  run = run;
  went = went;
  not_second = λ r. r.0.1 1 (omega arith) can_first;
  not_alone = λ r. r.1.0.1 2 can_second;
  not_early = λ r. third_waits r.1.1.0.0;
  not_idle = λ r. r.none_left 1 can_first;
}
