-- The markers of tests are counted from the last main target down.
use Rattle.std.proofs.Common.{arith, ◌≡◌, ◌<◌, ◌≤◌, ◌+◌, ◌-◌, ◌==◌, ◌||◌, zero, suc, ℕ, Bool, true, false, List, [], ◌∷◌, ◌++◌, length, take, drop, get_or, set, replicate, refl, sym, ap, ◌∙◌}
use Rattle.std.specs.List.{flat_map, list_any}
use Rattle.std.specs.Prelude.{Option, Some, None}
use Rattle.std.proofs.Math.ListN.{length-set, length-replicate}
use Rattle.std.proofs.Math.Seq.{drop-cons, take-suc}
use Rattle.std.proofs.lemmas.Bool.{eqb-true, eqb-false}
use Rattle.std.proofs.lemmas.Grind.{flat_map-append}
use Rattle.std.proofs.lemmas.List.{length-append, get_or-set_same, get_or-set_other, take_all, take-append-drop}
use Rattle.b2_declaring_calls.specs.declared.declaration.Kind.{Kind}
use Rattle.b2_declared.specs.declared.place.TestCall.{TestCall}
use Rattle.b2_declared.specs.declared.whole.Declared.{Declared}
use Rattle.b2_testing.specs.Adding.{with_marker, added, with_tests, markers_from}
use Rattle.b2_testing.specs.Asking.{is_marked, AreMarkers}

-- a test becomes something
some_added : (t : TestCall) (before : Option (List ℕ × Kind)) → 0 < length (with_marker t before)
some_added t None = omega arith
some_added t (Some (name, kind)) = omega arith

-- how many main targets the tests before a place become
abbrev count_to : List TestCall → ℕ → ℕ
count_to tests left = length (flat_map added (take left tests))

-- The markers of the tests from a place on are marked, and the first main target of these stands at `end`.
pub record AreCounted (d : Declared) (left end : ℕ) (marks : List Bool) : Type 0 where
  pub within : left ≤ length d.tests
  pub size : length marks ≡ length d.targets
  pub ends : (found : Declared) → d ≡ with_tests found → end ≡ length found.targets + count_to d.tests left
  pub marked : (found : Declared) → d ≡ with_tests found → (place : ℕ) → is_marked marks place ≡ list_any (λ other. other == place) (markers_from end (drop left d.tests))

none_left : {X : Type 0} (xs : List X) → drop (length xs) xs ≡ []
none_left [] = refl
none_left (x ∷ xs) = none_left xs

none_marked : (size place : ℕ) → get_or (replicate size false) place false ≡ false
none_marked zero place = refl
none_marked (suc size) zero = refl
none_marked (suc size) (suc place) = none_marked size place

-- at first none is
pub counted_first : (d : Declared) (left end : ℕ) (marks : List Bool) → left ≡ length d.tests → end ≡ length d.targets → marks ≡ replicate end false → AreCounted d left end marks
counted_first d left end marks left_is end_is marks_are = record {
  within = omega (arith, left_is);
  size = ap length marks_are ∙ length-replicate end false ∙ end_is;
  ends = λ found e.
      let all : take left d.tests ≡ d.tests = take_all left d.tests (omega (arith, left_is)) in
      end_is ∙ ap (λ (k : Declared). length k.targets) e ∙ length-append found.targets (flat_map added found.tests)
      ∙ ap (λ (ts : List TestCall). length found.targets + length (flat_map added ts)) (sym (all ∙ ap (λ (k : Declared). k.tests) e));
  marked = λ found e place.
      ap (λ (bs : List Bool). get_or bs place false) marks_are ∙ none_marked end place
      ∙ sym (ap (λ (ts : List TestCall). list_any (λ other. other == place) (markers_from end ts)) (ap (λ n. drop n d.tests) left_is ∙ none_left d.tests));
}

-- one more mark
with_mark : (marks : List Bool) (at place : ℕ) (b : Bool) → at < length marks → is_marked marks place ≡ b → is_marked (set marks at true) place ≡ ((at == place) || b)
with_mark marks at place b within is = go (at == place) refl
  where
    go : (c : Bool) → (at == place) ≡ c → get_or (set marks at true) place false ≡ (c || b)
    go true e = ap (λ n. get_or (set marks at true) n false) (sym (eqb-true at place e)) ∙ get_or-set_same marks at true false within
    go false e = get_or-set_other marks at place true false (λ same. eqb-false at place e (sym same)) ∙ is

module _ (d : Declared) (left end : ℕ) (marks : List Bool) (was : AreCounted d (suc left) end marks) (t : TestCall) (at : t ≡ get_or d.tests left t) where
  low : left < length d.tests
  low = omega (arith, was.within)

  -- the tests up to this one, and from this one on
  up_to : take (suc left) d.tests ≡ take left d.tests ++ t ∷ []
  up_to = take-suc d.tests left t low ∙ ap (λ (x : TestCall). take left d.tests ++ x ∷ []) (sym at)

  from_on : drop left d.tests ≡ t ∷ drop (suc left) d.tests
  from_on = drop-cons d.tests left t low ∙ ap (λ (x : TestCall). x ∷ drop (suc left) d.tests) (sym at)

  own_count : length (flat_map added (t ∷ [])) ≡ length (added t)
  own_count = length-append (added t) [] ∙ (omega arith)

  one_more : count_to d.tests (suc left) ≡ count_to d.tests left + length (added t)
  one_more =
      ap (λ (ts : List TestCall). length (flat_map added ts)) up_to ∙ ap length (flat_map-append added (take left d.tests) (t ∷ []))
      ∙ length-append (flat_map added (take left d.tests)) (flat_map added (t ∷ [])) ∙ ap (λ n. count_to d.tests left + n) own_count

  all_count : length (flat_map added d.tests) ≡ count_to d.tests (suc left) + length (flat_map added (drop (suc left) d.tests))
  all_count =
      ap (λ (ts : List TestCall). length (flat_map added ts)) (sym (take-append-drop (suc left) d.tests)) ∙ ap length (flat_map-append added (take (suc left) d.tests) (drop (suc left) d.tests))
      ∙ length-append (flat_map added (take (suc left) d.tests)) (flat_map added (drop (suc left) d.tests))

  some : 0 < length (added t)
  some = some_added t _

  module _ (next : ℕ) (less : next ≡ end - length (added t)) (found : Declared) (e : d ≡ with_tests found) where
    ends_there : next ≡ length found.targets + count_to d.tests left
    ends_there = omega (arith, less, was.ends found e, one_more)

    back : next + length (added t) ≡ end
    back = omega (arith, ends_there, was.ends found e, one_more)

    targets_are : length d.targets ≡ length found.targets + length (flat_map added d.tests)
    targets_are =
        ap (λ (k : Declared). length k.targets) e ∙ length-append found.targets (flat_map added found.tests)
        ∙ ap (λ (ts : List TestCall). length found.targets + length (flat_map added ts)) (sym (ap (λ (k : Declared). k.tests) e))

    inside : end - 1 < length marks
    inside = omega (arith, was.size, targets_are, all_count, was.ends found e, one_more, some)

    markers_are : markers_from next (drop left d.tests) ≡ (end - 1) ∷ markers_from end (drop (suc left) d.tests)
    markers_are = ap (markers_from next) from_on ∙ ap (λ n. (n - 1) ∷ markers_from n (drop (suc left) d.tests)) back

    marked_there : (place : ℕ) → is_marked (set marks (end - 1) true) place ≡ list_any (λ other. other == place) (markers_from next (drop left d.tests))
    marked_there place =
        with_mark marks (end - 1) place (list_any (λ other. other == place) (markers_from end (drop (suc left) d.tests))) inside (was.marked found e place)
        ∙ sym (ap (list_any (λ other. other == place)) markers_are)

  -- the marker of this one is marked too
  pub counted_next : (next : ℕ) (after : List Bool) → next ≡ end - length (added t) → after ≡ set marks (end - 1) true → AreCounted d left next after
  counted_next next after less set_is = record {
    within = omega (arith, low);
    size = ap length set_is ∙ length-set marks (end - 1) true ∙ was.size;
    ends = λ found e. ends_there next less found e;
    marked = λ found e place. ap (λ (bs : List Bool). is_marked bs place) set_is ∙ marked_there next less found e place;
  }

-- in the end all are
pub counted_all : (d : Declared) (left end : ℕ) (marks : List Bool) → left ≡ 0 → AreCounted d left end marks → (found : Declared) → d ≡ with_tests found → AreMarkers found marks
counted_all d left end marks none is found e = record {
  marked = λ place.
      is.marked found e place
      ∙ ap (λ n. list_any (λ other. other == place) (markers_from end (drop n d.tests))) none
      ∙ ap (λ n. list_any (λ other. other == place) (markers_from n d.tests)) (is.ends found e ∙ ap (λ n. length found.targets + count_to d.tests n) none ∙ (omega arith))
      ∙ ap (λ (ts : List TestCall). list_any (λ other. other == place) (markers_from (length found.targets) ts)) (ap (λ (k : Declared). k.tests) e);
}
