use Rattle.std.proofs.Common.{◌≡◌, ℕ, ◌<◌, ◌+◌, Bool, true, false, List, [], ◌∷◌, ◌++◌, length, ◌⊎◌, inl, inr, refl, sym, subst, ◌∙◌, arith, Some, None, codes, count_by, if◌then◌else◌, ◌==◌, eqb-true}
use Rattle.std.specs.List.{Contains, AllPairs}
use Rattle.std.specs.Str.{bytes_eq}
use Rattle.std.proofs.lemmas.Bool.Decides.{Decides-eqb}
use Rattle.std.proofs.lemmas.Slice.Eq.{bytes_eq-Decides}
use Rattle.b2_base.specs.Normal.{IsUnder, parts}
use Rattle.b2_host.specs.declared.children.ChildEvent.{ChildEvent}
use Rattle.b2_host.specs.declared.children.ChildEvent.TheVariants.{Start, Done}
use Rattle.b2_plan.specs.declared.step.Step.{Step}
use Rattle.b2_plan.specs.Plans.{step_at, Makes, Apart}
use Rattle.b2_plan.specs.Sources.{Include, IsSource, IsGiven, IsMissing, IsFound, Includes}
use Rattle.b2_plan.specs.Closures.{Value, Values, Known, Known.input as input_of, Known.include as include_of, IsClosure}
use Rattle.b2_plan.specs.Cleans.{Clean}
use Rattle.b2_runs.specs.Events.{is_start, is_done, IsOpen}
use Rattle.b2_runs.specs.Runs.{Settled, Settled.source, Settled.done_well, Settled.fresh, on_settled, Needed, Needed.wanted, Needed.member, CanStart, IsRun}
use Rattle.b2_runs.specs.Outcomes.{IsListOf}
use Rattle.b2_run_examples.specs.Overlap.{copy_from, x_path, a_path, b_path, c_path}
use Rattle.b2_run_examples.specs.Headers.{header, with_header, header_update, b_made, header_run, HeadersHold}
use Rattle.b2_runs.proofs.FirstElementOrLater.{Contains_here, Contains_there, Contains_cases, Contains_nil}
use Rattle.b2_runs.proofs.MakerIsOne.{source_not_made}
use Rattle.b2_runs.proofs.CleanIsOne.{clean_is_made}
use Rattle.b2_runs.proofs.SourcesAreKept.{source_clean}
use Rattle.b2_runs.proofs.SettledStays.{closure_on_settled}
use Rattle.b2_runs.proofs.OthersAreLeft.{pairs_first}
use Rattle.b2_runs.proofs.ValuesCanBeGathered.{Sooner, pairs_cons}
use Rattle.b2_run_examples.proofs.OneStepPlan.{one_of, longer, different}
use Rattle.b2_run_examples.proofs.DigestsHold.{absent, starts_of, ends_of}
use Rattle.b2_run_examples.proofs.ThreeCopies as copies
use Rattle.b2_run_examples.proofs.OverlapHolds.{start_number}

apart : Apart with_header.steps with_header.roots
apart = copies.are_apart x_path x_path b_path

makes_a : Makes with_header.steps 1 (copy_from x_path a_path) a_path
makes_a = copies.makes_first x_path x_path b_path

makes_b : Makes with_header.steps 2 (copy_from x_path b_path) b_path
makes_b = copies.makes_second x_path x_path b_path

makes_c : Makes with_header.steps 3 (copy_from b_path c_path) c_path
makes_c = copies.makes_third x_path x_path b_path

x_outside : (root : List ℕ) → Contains (codes "bin" ∷ []) root → IsUnder x_path root → ⊥
x_outside root c u =
    let e : codes "bin" ≡ root = one_of (codes "bin") root c in
    let h : length (parts (codes "bin")) < length (parts x_path) = longer x_path (codes "bin") (subst (IsUnder x_path) (sym e) u) in
    let small : 1 < 1 = h in
    omega arith

x_source : IsSource with_header x_path (7 ∷ [])
x_source = record { outside = λ r. x_outside r.0 r.1 r.2; stands = refl }

x_settled : (events : List ChildEvent) → on_settled header_update events x_path (Some (7 ∷ []))
x_settled events = (source x_path (7 ∷ []) x_source, source_clean with_header apart x_path (7 ∷ []) x_source)

-- ---- includes

abbrev h_path : List ℕ
h_path = codes "x/h"

-- the first place of the header is neither a source nor an output
h_missing : IsMissing with_header h_path
h_missing (inl (bytes, s)) = let f : None ≡ Some bytes = s.stands in cc
h_missing (inr (i, step, makes)) = elim (copies.made_at x_path x_path b_path i step h_path makes) [
  | inl (e, p) ↦ different a_path h_path refl p
  | inr (inl (e, p)) ↦ different b_path h_path refl p
  | inr (inr (e, p)) ↦ different c_path h_path refl p
]

a_found : IsFound with_header (h_path ∷ a_path ∷ []) a_path
a_found = record { before = h_path ∷ []; after = []; places_are = refl; there = inr (1, copy_from x_path a_path, makes_a); none_before = (h_missing, tt) }

b_includes : (step : Step) (bytes : List ℕ) → Includes with_header step b_path bytes a_path
b_includes step bytes = record { include = header; listed = Contains_here header []; first = a_found }

-- what is found in the two places
found_is : (found : List ℕ) (before after : List (List ℕ)) → h_path ∷ a_path ∷ [] ≡ before ++ found ∷ after → IsGiven with_header found → a_path ≡ found
found_is found [] after e given =
    let f : h_path ∷ a_path ∷ [] ≡ found ∷ after = e in
    let same : h_path ≡ found = cc in
    absurd (h_missing (subst (IsGiven with_header) (sym same) given))
found_is found (y ∷ []) after e given =
    let f : h_path ∷ a_path ∷ [] ≡ y ∷ found ∷ after = e in
    let tails : a_path ∷ [] ≡ found ∷ after = cc in
    let same : a_path ≡ found = cc in
    same
found_is found (y ∷ z ∷ []) after e given =
    let f : h_path ∷ a_path ∷ [] ≡ y ∷ z ∷ found ∷ after = e in
    let tails : a_path ∷ [] ≡ z ∷ found ∷ after = cc in
    let none : [] ≡ found ∷ after = cc in
    absurd cc
found_is found (y ∷ z ∷ w ∷ before) after e given =
    let f : h_path ∷ a_path ∷ [] ≡ y ∷ z ∷ w ∷ (before ++ found ∷ after) = e in
    let tails : a_path ∷ [] ≡ z ∷ w ∷ (before ++ found ∷ after) = cc in
    let none : [] ≡ w ∷ (before ++ found ∷ after) = cc in
    absurd cc

-- only `b` includes, and what it includes is `a`
includes_only : (step : Step) (path bytes found : List ℕ) → Includes with_header step path bytes found → (path ≡ b_path) × (a_path ≡ found)
includes_only step path bytes found i = (go (bytes_eq path b_path) refl i.listed, found_is found i.first.before i.first.after i.first.places_are i.first.there)
  where
    go : (t : Bool) → bytes_eq path b_path ≡ t → Contains {X = Include} (if t then header ∷ [] else []) i.include → path ≡ b_path
    go true e c = (bytes_eq-Decides path b_path).0 e
    go false e c = absurd (Contains_nil i.include c)

known_x : (v : Values) (output path : List ℕ) → Known with_header v (copy_from x_path output) path → x_path ≡ path
known_x v output path (input_of p c) = one_of x_path p c
known_x v output path (include_of p bytes found k says inc) = absurd (different x_path b_path refl (known_x v output p k ∙ (includes_only (copy_from x_path output) p bytes found inc).0))

-- what is known of the last step: `b`, and `a` where the bytes of `b` are known
known_c : (v : Values) (path : List ℕ) → Known with_header v (copy_from b_path c_path) path → (b_path ≡ path) ⊎ ((a_path ≡ path) × ((bytes : List ℕ) × v b_path (Some bytes)))
known_c v path (input_of p c) = inl (one_of b_path p c)
known_c v path (include_of p bytes found k says inc) =
    let (same, is) = includes_only (copy_from b_path c_path) p bytes found inc in
    inr (is, (bytes, subst (λ q. v q (Some bytes)) same says))

-- ---- closures

close_x : (events : List ChildEvent) (output : List ℕ) → IsClosure with_header (on_settled header_update events) (copy_from x_path output) ((x_path, Some (7 ∷ [])) ∷ [])
close_x events output = record {
  ordered = λ i j d lt h. absurd (omega arith);
  each = λ path x c.
      let e : ◌≡◌ {A = List ℕ × Value} (x_path, Some (7 ∷ [])) (path, x) = one_of (x_path, Some (7 ∷ [])) (path, x) c in (
        subst (λ (z : List ℕ × Value). Known with_header (on_settled header_update events) (copy_from x_path output) z.0) e (input_of x_path (Contains_here x_path [])),
        subst (λ (z : List ℕ × Value). on_settled header_update events z.0 z.1) e (x_settled events),
      );
  whole = λ path k. (Some (7 ∷ []), subst (λ p. Contains {X = List ℕ × Value} ((x_path, Some (7 ∷ [])) ∷ []) (p, Some (7 ∷ []))) (known_x (on_settled header_update events) output path k) (Contains_here (x_path, Some (7 ∷ [])) []));
}

pub clean_close : (output : List ℕ) → IsClosure with_header (Clean with_header) (copy_from x_path output) ((x_path, Some (7 ∷ [])) ∷ [])
clean_close output = ((closure_on_settled header_update [] (copy_from x_path output) ((x_path, Some (7 ∷ [])) ∷ []) apart).0 (close_x [] output)).0

a_on : (events : List ChildEvent) → Contains events (Done 1 true) → on_settled header_update events a_path (Some (7 ∷ []))
a_on events done = (done_well 1 (copy_from x_path a_path) a_path makes_a done, clean_is_made with_header 1 (copy_from x_path a_path) a_path ((x_path, Some (7 ∷ [])) ∷ []) apart makes_a (clean_close a_path))

pub b_on : (events : List ChildEvent) → Contains events (Done 2 true) → on_settled header_update events b_path (Some (7 ∷ []))
b_on events done = (done_well 2 (copy_from x_path b_path) b_path makes_b done, clean_is_made with_header 2 (copy_from x_path b_path) b_path ((x_path, Some (7 ∷ [])) ∷ []) apart makes_b (clean_close b_path))

abbrev a_member : List ℕ × Value
a_member = (a_path, Some (7 ∷ []))

abbrev b_member : List ℕ × Value
b_member = (b_path, Some (7 ∷ []))

known_a : (events : List ChildEvent) → Contains events (Done 2 true) → Known with_header (on_settled header_update events) (copy_from b_path c_path) a_path
known_a events done = include_of b_path (7 ∷ []) a_path (input_of b_path (Contains_here b_path [])) (b_on events done) (b_includes (copy_from b_path c_path) (7 ∷ []))

close_c : (events : List ChildEvent) → Contains events (Done 1 true) → Contains events (Done 2 true) → IsClosure with_header (on_settled header_update events) (copy_from b_path c_path) (a_member ∷ b_member ∷ [])
close_c events one two = record {
  ordered = pairs_cons a_member (b_member ∷ []) (λ n c. subst (Sooner a_member) (one_of b_member n c) refl) (λ i j d lt h. absurd (omega arith));
  each = λ path x c. elim (Contains_cases a_member (path, x) (b_member ∷ []) c) [
    | inl e ↦ (
      subst (λ (z : List ℕ × Value). Known with_header (on_settled header_update events) (copy_from b_path c_path) z.0) e (known_a events two),
      subst (λ (z : List ℕ × Value). on_settled header_update events z.0 z.1) e (a_on events one),
    )
    | inr d ↦ (
      subst (λ (z : List ℕ × Value). Known with_header (on_settled header_update events) (copy_from b_path c_path) z.0) (one_of b_member (path, x) d) (input_of b_path (Contains_here b_path [])),
      subst (λ (z : List ℕ × Value). on_settled header_update events z.0 z.1) (one_of b_member (path, x) d) (b_on events two),
    )
  ];
  whole = λ path k. elim (known_c (on_settled header_update events) path k) [
    | inl e ↦ (Some (7 ∷ []), subst (λ p. Contains (a_member ∷ b_member ∷ []) (p, Some (7 ∷ []))) e (Contains_there a_member b_member (b_member ∷ []) (Contains_here b_member [])))
    | inr e ↦ (Some (7 ∷ []), subst (λ p. Contains (a_member ∷ b_member ∷ []) (p, Some (7 ∷ []))) e.0 (Contains_here a_member (b_member ∷ [])))
  ];
}

-- ---- needed

pub needed_c : (events : List ChildEvent) → Needed header_update events 3
needed_c events = wanted 3 (copy_from b_path c_path) c_path (Contains_here c_path []) makes_c

needed_b : (events : List ChildEvent) → Needed header_update events 2
needed_b events = member 2 (copy_from x_path b_path) 3 (copy_from b_path c_path) b_path (needed_c events) refl (input_of b_path (Contains_here b_path [])) makes_b

needed_a : (events : List ChildEvent) → Contains events (Done 2 true) → Needed header_update events 1
needed_a events done = member 1 (copy_from x_path a_path) 3 (copy_from b_path c_path) a_path (needed_c events) refl (known_a events done) makes_a

-- a needed step is one of three
one_of_three : (events : List ChildEvent) (i : ℕ) → Needed header_update events i → (i ≡ 1) ⊎ (i ≡ 2) ⊎ (i ≡ 3)
one_of_three events i n = number_is (step_of n)
  where
    step_of : Needed header_update events i → (step : Step) × (path : List ℕ) × Makes with_header.steps i step path
    step_of (wanted k step path c makes) = (step, path, makes)
    step_of (member k step j other path needed at known makes) = (step, path, makes)

    number_is : (step : Step) × (path : List ℕ) × Makes with_header.steps i step path → (i ≡ 1) ⊎ (i ≡ 2) ⊎ (i ≡ 3)
    number_is (step, path, makes) = elim (copies.made_at x_path x_path b_path i step path makes) [ inl (e, p) ↦ inl e | inr (inl (e, p)) ↦ inr (inl e) | inr (inr (e, p)) ↦ inr (inr e) ]

-- before any event `b` is not settled
pub b_not_yet : (path : List ℕ) → Settled header_update [] path → b_path ≡ path → ⊥
b_not_yet path (source p bytes s) e = source_not_made with_header apart p bytes s 2 (copy_from x_path b_path) (subst (Makes with_header.steps 2 (copy_from x_path b_path)) e makes_b)
b_not_yet path (done_well i step p makes done) e = Contains_nil (Done i true) done
b_not_yet path (fresh i step p members makes not_started closure inside f) e = let g : None ≡ Some f.recorded.last = f.recorded.found in cc

-- the step of `a` makes no other path
not_one : (i : ℕ) (step : Step) (path : List ℕ) → Makes with_header.steps i step path → i ≡ 1 → a_path ≡ path
not_one i step path makes e = elim (copies.made_at x_path x_path b_path i step path makes) [
  | inl (f, p) ↦ p
  | inr (inl (f, p)) ↦ absurd (let g : 2 ≡ 1 = sym f ∙ e in omega (arith, g))
  | inr (inr (f, p)) ↦ absurd (let g : 3 ≡ 1 = sym f ∙ e in omega (arith, g))
]

-- so it is not needed yet
a_not_yet : (i : ℕ) → Needed header_update [] i → i ≡ 1 → ⊥
a_not_yet i (wanted k step path c makes) e = different a_path c_path refl (not_one k step path makes e ∙ sym (one_of c_path path c))
a_not_yet i (member k step j other path needed at known makes) e = reads (copies.which x_path x_path b_path j other at)
  where
    is_a : a_path ≡ path
    is_a = not_one k step path makes e

    reads : ((j ≡ 1) × (copy_from x_path a_path ≡ other)) ⊎ ((j ≡ 2) × (copy_from x_path b_path ≡ other)) ⊎ ((j ≡ 3) × (copy_from b_path c_path ≡ other)) → ⊥
    reads (inl (f, s)) = different x_path a_path refl (known_x (on_settled header_update []) a_path path (subst (λ t. Known with_header (on_settled header_update []) t path) (sym s) known) ∙ sym is_a)
    reads (inr (inl (f, s))) = different x_path a_path refl (known_x (on_settled header_update []) b_path path (subst (λ t. Known with_header (on_settled header_update []) t path) (sym s) known) ∙ sym is_a)
    reads (inr (inr (f, s))) = elim (known_c (on_settled header_update []) path (subst (λ t. Known with_header (on_settled header_update []) t path) (sym s) known)) [
      | inl g ↦ different b_path a_path refl (g ∙ sym is_a)
      | inr g ↦ b_not_yet b_path g.1.1.0 refl
    ]

rising_two : AllPairs (λ i k. i < k) (2 ∷ 3 ∷ [])
rising_two = pairs_first (λ i k. i < k) 2 (3 ∷ []) (λ y c. subst (λ z. 2 < z) (one_of 3 y c) (omega arith)) (λ i j d lt h. absurd (omega arith))

needed_first : IsListOf (Needed header_update []) (2 ∷ 3 ∷ [])
needed_first = record {
  rising = rising_two;
  each = λ i c. elim (Contains_cases 2 i (3 ∷ []) c) [
    | inl e ↦ subst (Needed header_update []) e (needed_b [])
    | inr d ↦ subst (Needed header_update []) (one_of 3 i d) (needed_c [])
  ];
  whole = λ i n. elim (one_of_three [] i n) [
    | inl e ↦ absurd (a_not_yet i n e)
    | inr (inl e) ↦ subst (Contains (2 ∷ 3 ∷ [])) (sym e) (Contains_here 2 (3 ∷ []))
    | inr (inr e) ↦ subst (Contains (2 ∷ 3 ∷ [])) (sym e) (Contains_there 2 3 (3 ∷ []) (Contains_here 3 []))
  ];
}

needed_then : IsListOf (Needed header_update b_made) (1 ∷ 2 ∷ 3 ∷ [])
needed_then = record {
  rising = pairs_first (λ i k. i < k) 1 (2 ∷ 3 ∷ []) (λ y c. elim (Contains_cases 2 y (3 ∷ []) c) [
    | inl e ↦ subst (λ z. 1 < z) e (omega arith)
    | inr d ↦ subst (λ z. 1 < z) (one_of 3 y d) (omega arith)
  ]) rising_two;
  each = λ i c. elim (Contains_cases 1 i (2 ∷ 3 ∷ []) c) [
    | inl e ↦ subst (Needed header_update b_made) e (needed_a b_made (1, omega arith, refl))
    | inr d ↦ elim (Contains_cases 2 i (3 ∷ []) d) [
      | inl e ↦ subst (Needed header_update b_made) e (needed_b b_made)
      | inr b ↦ subst (Needed header_update b_made) (one_of 3 i b) (needed_c b_made)
    ]
  ];
  whole = λ i n. elim (one_of_three b_made i n) [
    | inl e ↦ subst (Contains (1 ∷ 2 ∷ 3 ∷ [])) (sym e) (0, omega arith, refl)
    | inr (inl e) ↦ subst (Contains (1 ∷ 2 ∷ 3 ∷ [])) (sym e) (1, omega arith, refl)
    | inr (inr e) ↦ subst (Contains (1 ∷ 2 ∷ 3 ∷ [])) (sym e) (2, omega arith, refl)
  ];
}

-- ---- the run

can : (events : List ChildEvent) (i : ℕ) (step : Step) (members : List (List ℕ × Value)) → step_at with_header.steps i ≡ Some step → Needed header_update events i → (Contains events (Start i) → ⊥) → IsClosure with_header (on_settled header_update events) step members
    → count_by is_start events < count_by is_done events + 1 → CanStart header_update events i
can events i step members at needed not_started closure room = record {
  step = step;
  at = at;
  needed = needed;
  not_started = not_started;
  members = members;
  closure = closure;
  stale = λ f. (let e : None ≡ Some f.recorded.last = f.recorded.found in cc);
  room = room;
  goes_on = λ quit k bad. (let e : false ≡ true = quit in cc);
}

abbrev b_runs : List ChildEvent
b_runs = Start 2 ∷ []

abbrev a_runs : List ChildEvent
a_runs = Start 2 ∷ Done 2 true ∷ Start 1 ∷ []

abbrev both_made : List ChildEvent
both_made = Start 2 ∷ Done 2 true ∷ Start 1 ∷ Done 1 true ∷ []

abbrev c_runs : List ChildEvent
c_runs = Start 2 ∷ Done 2 true ∷ Start 1 ∷ Done 1 true ∷ Start 3 ∷ []

can_b : CanStart header_update [] 2
can_b = can [] 2 (copy_from x_path b_path) ((x_path, Some (7 ∷ [])) ∷ []) refl (needed_b []) (λ c. Contains_nil (Start 2) c) (close_x [] b_path) (let h : 0 < 0 + 1 = omega arith in h)

can_a : CanStart header_update b_made 1
can_a = can b_made 1 (copy_from x_path a_path) ((x_path, Some (7 ∷ [])) ∷ []) refl (needed_a b_made (1, omega arith, refl)) (λ c. absent (starts_of 1) b_made refl (Start 1) refl c) (close_x b_made a_path) (let h : 1 < 1 + 1 = omega arith in h)

can_c : CanStart header_update both_made 3
can_c = can both_made 3 (copy_from b_path c_path) (a_member ∷ b_member ∷ []) refl (needed_c both_made) (λ c. absent (starts_of 3) both_made refl (Start 3) refl c) (close_c both_made (3, omega arith, refl) (1, omega arith, refl)) (let h : 2 < 2 + 1 = omega arith in h)

b_lowest : (k : ℕ) → k < 2 → CanStart header_update [] k → ⊥
b_lowest k less c = elim (one_of_three [] k c.needed) [
  | inl e ↦ a_not_yet k c.needed e
  | inr (inl e) ↦ omega (arith, less, e)
  | inr (inr e) ↦ omega (arith, less, e)
]

a_lowest : (k : ℕ) → k < 1 → CanStart header_update b_made k → ⊥
a_lowest k less c = elim (one_of_three b_made k c.needed) [
  | inl e ↦ omega (arith, less, e)
  | inr (inl e) ↦ omega (arith, less, e)
  | inr (inr e) ↦ omega (arith, less, e)
]

c_lowest : (k : ℕ) → k < 3 → CanStart header_update both_made k → ⊥
c_lowest k less c = elim (one_of_three both_made k c.needed) [
  | inl e ↦ c.not_started (subst (λ j. Contains both_made (Start j)) (sym e) (2, omega arith, refl))
  | inr (inl e) ↦ c.not_started (subst (λ j. Contains both_made (Start j)) (sym e) (0, omega arith, refl))
  | inr (inr e) ↦ absurd (omega (arith, less, e))
]

b_full : (i : ℕ) → CanStart header_update b_runs i → ⊥
b_full i c = let h : 1 < 0 + 1 = c.room in omega (arith, h)

a_full : (i : ℕ) → CanStart header_update a_runs i → ⊥
a_full i c = let h : 2 < 1 + 1 = c.room in omega (arith, h)

c_full : (i : ℕ) → CanStart header_update c_runs i → ⊥
c_full i c = let h : 3 < 2 + 1 = c.room in omega (arith, h)

none_left : (i : ℕ) → CanStart header_update header_run i → ⊥
none_left i c = elim (one_of_three header_run i c.needed) [
  | inl e ↦ c.not_started (subst (λ j. Contains header_run (Start j)) (sym e) (2, omega arith, refl))
  | inr (inl e) ↦ c.not_started (subst (λ j. Contains header_run (Start j)) (sym e) (0, omega arith, refl))
  | inr (inr e) ↦ c.not_started (subst (λ j. Contains header_run (Start j)) (sym e) (4, omega arith, refl))
]

-- a step that was started is one of three
started_is : (i : ℕ) → Contains header_run (Start i) → (i ≡ 1) ⊎ (i ≡ 2) ⊎ (i ≡ 3)
started_is i c = go (starts_of 1 (Start i)) refl (starts_of 2 (Start i)) refl (starts_of 3 (Start i)) refl
  where
    go : (s : Bool) → (i == 1) ≡ s → (t : Bool) → (i == 2) ≡ t → (w : Bool) → (i == 3) ≡ w → (i ≡ 1) ⊎ (i ≡ 2) ⊎ (i ≡ 3)
    go true e t f w g = inl (eqb-true i 1 e)
    go false e true f w g = inr (inl (eqb-true i 2 f))
    go false e false f true g = inr (inr (eqb-true i 3 g))
    go false e false f false g = absurd (elim (Contains_cases (Start 2) (Start i) (Done 2 true ∷ Start 1 ∷ Done 1 true ∷ Start 3 ∷ Done 3 true ∷ []) c) [
      | inl h ↦ (let k : 2 ≡ i = start_number 2 i h in let q : (i == 2) ≡ true = (Decides-eqb i 2).1 (sym k) in let r : true ≡ false = sym q ∙ f in cc)
      | inr c1 ↦ elim (Contains_cases (Done 2 true) (Start i) (Start 1 ∷ Done 1 true ∷ Start 3 ∷ Done 3 true ∷ []) c1) [
        | inl h ↦ (let r : Done 2 true ≡ Start i = h in cc)
        | inr c2 ↦ elim (Contains_cases (Start 1) (Start i) (Done 1 true ∷ Start 3 ∷ Done 3 true ∷ []) c2) [
          | inl h ↦ (let k : 1 ≡ i = start_number 1 i h in let q : (i == 1) ≡ true = (Decides-eqb i 1).1 (sym k) in let r : true ≡ false = sym q ∙ e in cc)
          | inr c3 ↦ elim (Contains_cases (Done 1 true) (Start i) (Start 3 ∷ Done 3 true ∷ []) c3) [
            | inl h ↦ (let r : Done 1 true ≡ Start i = h in cc)
            | inr c4 ↦ elim (Contains_cases (Start 3) (Start i) (Done 3 true ∷ []) c4) [
              | inl h ↦ (let k : 3 ≡ i = start_number 3 i h in let q : (i == 3) ≡ true = (Decides-eqb i 3).1 (sym k) in let r : true ≡ false = sym q ∙ g in cc)
              | inr c5 ↦ (let r : Done 3 true ≡ Start i = one_of (Done 3 true) (Start i) c5 in cc)
            ]
          ]
        ]
      ]
    ])

none_open : (i : ℕ) → IsOpen header_run i → ⊥
none_open i o = elim (started_is i o.0) [
  | inl e ↦ o.1 true (subst (λ j. Contains header_run (Done j true)) (sym e) (3, omega arith, refl))
  | inr (inl e) ↦ o.1 true (subst (λ j. Contains header_run (Done j true)) (sym e) (1, omega arith, refl))
  | inr (inr e) ↦ o.1 true (subst (λ j. Contains header_run (Done j true)) (sym e) (5, omega arith, refl))
]

run : IsRun header_update header_run
run = record {
  each = (
    (can_b, b_lowest),
    (
      ((Contains_here (Start 2) [], λ well d. absent (ends_of 2) b_runs refl (Done 2 well) refl d), b_full),
      (
        (can_a, a_lowest),
        (
          (((2, omega arith, refl), λ well d. absent (ends_of 1) a_runs refl (Done 1 well) refl d), a_full),
          ((can_c, c_lowest), ((((4, omega arith, refl), λ well d. absent (ends_of 3) c_runs refl (Done 3 well) refl d), c_full), tt)),
        ),
      ),
    ),
  );
  none_open = none_open;
  none_left = none_left;
}

-- the example holds
pub headers_hold : HeadersHold
headers_hold = record {
  apart = apart;
  needed_first = needed_first;
  needed_then = needed_then;
  run = run;
  scan = record { bytes = 7 ∷ []; stood = (0, omega arith, refl); includes = refl };
  found = refl;
  another_stamp = refl;
}
