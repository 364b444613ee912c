-- Main targets are added one after another behind the others, those of each test after those of the tests before it.
use Rattle.std.proofs.Common.{◌≡◌, ◌≢◌, ℕ, zero, suc, ◌<◌, List, [], ◌∷◌, ◌++◌, take, drop, length, refl, sym, ◌∙◌, ap, subst, append_assoc, arith, Bool, true, false, ◌==◌, Result, Ok, Err, OnOk, OnErr}
use Rattle.std.proofs.lemmas.Bool.{true≢false}
use Rattle.std.specs.List.{flat_map}
use Rattle.std.proofs.lemmas.List.{append-nil}
use Rattle.jam_scope.specs.Worlds.{Worlds}
use Rattle.b2_declared.specs.declared.place.Target.{Target}
use Rattle.b2_declared.specs.declared.place.TestCall.{TestCall}
use Rattle.b2_project.specs.declared.project.Project.{Project}
use Rattle.b2_testing.specs.Adding.{added, with_tests}
use Rattle.b2_testing_text.specs.Definitions.{definitions, equipped, IsPart}
use Rattle.b2_testing_text.proofs.DefinitionsKeepTheRest.{whole_part}
use Rattle.b2_testing.proofs.TextRunsInTheWorld.{is_equipped}
use Rattle.b2_testing.specs.Readying.{IsEquipped, IsEquippedFor, LeavesReady, LeavesPart, AddsTargets, AddsPart, added_at}

-- ---- some targets

-- a project with more of them
abbrev with_more : Project → List Target → Project
with_more p more = record p { declared = record p.declared { targets = p.declared.targets ++ more } }

-- none are added
pub adds_none : (p : Project) → AddsTargets p [] p
adds_none p = ap (λ (ts : List Target). record p { declared = record p.declared { targets = ts } }) (sym (append-nil p.declared.targets))

-- some, and then more
pub adds_more : (p q r : Project) (some more : List Target) → AddsTargets p some q → AddsTargets q more r → AddsTargets p (some ++ more) r
adds_more p q r some more h g =
    g ∙ ap (λ (x : Project). with_more x more) h
    ∙ ap (λ (ts : List Target). record p { declared = record p.declared { targets = ts } }) (append_assoc p.declared.targets some more)

-- the same of a first part
pub part_more : (p q r : Project) (all some more rest : List Target) → all ≡ some ++ (more ++ rest) → AddsTargets p some q → AddsPart q more r → AddsPart p all r
part_more p q r all some more rest e h part = record {
  some_first = some ++ part.some_first;
  rest = part.rest ++ rest;
  first_part = e ∙ ap (λ (ts : List Target). some ++ ts) (ap (λ (ts : List Target). ts ++ rest) part.first_part ∙ append_assoc part.some_first part.rest rest) ∙ sym (append_assoc some part.some_first (part.rest ++ rest));
  added = adds_more p q r some part.some_first h part.added;
}

-- nothing is a first part
pub part_none : (p : Project) (more : List Target) → AddsPart p more p
part_none p more = record { some_first = []; rest = more; first_part = refl; added = adds_none p }

-- some are
pub part_some : (p q : Project) (all some rest : List Target) → all ≡ some ++ rest → AddsTargets p some q → AddsPart p all q
part_some p q all some rest e h = record { some_first = some; rest = rest; first_part = e; added = h }

-- ---- those of tests

-- what is added before a test, by it, and after it
pub all_parts : (tests : List TestCall) (place : ℕ) → place < length tests → flat_map added tests ≡ flat_map added (take place tests) ++ (added_at place tests ++ flat_map added (drop (suc place) tests))
all_parts [] place w = absurd (omega arith)
all_parts (t ∷ ts) zero w = refl
all_parts (t ∷ ts) (suc place) w =
    ap (λ (xs : List Target). added t ++ xs) (all_parts ts place (omega arith))
    ∙ sym (append_assoc (added t) (flat_map added (take place ts)) (added_at place ts ++ flat_map added (drop (suc place) ts)))

-- one more test
pub next_part : (tests : List TestCall) (place : ℕ) → place < length tests → flat_map added (take (suc place) tests) ≡ flat_map added (take place tests) ++ added_at place tests
next_part [] place w = absurd (omega arith)
next_part (t ∷ ts) zero w = append-nil (added t)
next_part (t ∷ ts) (suc place) w =
    ap (λ (xs : List Target). added t ++ xs) (next_part ts place (omega arith)) ∙ sym (append_assoc (added t) (flat_map added (take place ts)) (added_at place ts))

pub test_more : (p q r : Project) (tests : List TestCall) (place next : ℕ) → place < length tests → next ≡ suc place → AddsTargets p (flat_map added (take place tests)) q → AddsTargets q (added_at place tests) r
    → AddsTargets p (flat_map added (take next tests)) r
test_more p q r tests place next w e h g =
    subst (λ (xs : List Target). AddsTargets p xs r) (sym (ap (λ n. flat_map added (take n tests)) e ∙ next_part tests place w)) (adds_more p q r (flat_map added (take place tests)) (added_at place tests) h g)

pub test_part : (p q r : Project) (tests : List TestCall) (place : ℕ) → place < length tests → AddsTargets p (flat_map added (take place tests)) q → AddsPart q (added_at place tests) r → AddsPart p (flat_map added tests) r
test_part p q r tests place w h part =
    part_more p q r (flat_map added tests) (flat_map added (take place tests)) (added_at place tests) (flat_map added (drop (suc place) tests)) (all_parts tests place w) h part

-- ---- a project with its tests

-- there is no test
pub ready_without : (p : Project) → p.declared.tests ≡ [] → LeavesReady p p
ready_without p none = record {
  ready = record { worlds = subst (λ (ts : List TestCall). IsEquippedFor ts p.world p.world) (sym none) refl; declared = same };
  natives = refl;
}
  where
    same : p.declared ≡ with_tests p.declared
    same = ap (λ (ts : List Target). record p.declared { targets = ts }) (sym (ap (λ (ts : List TestCall). p.declared.targets ++ flat_map added ts) none ∙ append-nil p.declared.targets))

equipped_for : (tests : List TestCall) (before after : Worlds) → tests ≢ [] → IsEquipped before after → IsEquippedFor tests before after
equipped_for [] before after some is = absurd (some refl)
equipped_for (t ∷ ts) before after some is = is

-- the text has left its definitions, and all of them stand
pub ready_with : (p r : Project) (world : Worlds) → p.declared.tests ≢ [] → world ≡ equipped p.world → AddsTargets (record p { world = world }) (flat_map added p.declared.tests) r → LeavesReady p r
ready_with p r world some is adds = record {
  ready = record {
    worlds = equipped_for p.declared.tests p.world r.world some (subst (IsEquipped p.world) (sym (ap (λ (x : Project). x.world) adds)) (is_equipped p.world world is));
    declared = ap (λ (x : Project). x.declared) adds;
  };
  natives = ap (λ (x : Project). x.natives) adds;
}

-- the text has left its definitions, and some of them stand
pub part_with : (p r : Project) (world : Worlds) → p.declared.tests ≢ [] → world ≡ equipped p.world → AddsPart (record p { world = world }) (flat_map added p.declared.tests) r → LeavesPart p r
part_with p r world some is part =
    let same : r.world ≡ equipped p.world = ap (λ (x : Project). x.world) part.added ∙ is in
    record {
      tested = some;
      some_first = part.some_first;
      rest = part.rest;
      first_part = part.first_part;
      declared = ap (λ (x : Project). x.declared) part.added;
      world = whole_part p.world r.world same;
      whole = λ ne. is_equipped p.world r.world same;
      natives = ap (λ (x : Project). x.natives) part.added;
    }

-- some of its definitions were made
pub part_defined : (p : Project) (world : Worlds) → p.declared.tests ≢ [] → IsPart definitions p.world world → LeavesPart p (record p { world = world })
part_defined p world some part = record {
  tested = some;
  some_first = [];
  rest = flat_map added p.declared.tests;
  first_part = refl;
  declared = ap (λ (x : Project). x.declared) (adds_none p);
  world = part;
  whole = λ ne. absurd (ne refl);
  natives = refl;
}

-- ---- as the code answers

pub some_tests : (tests slice : List TestCall) (empty : Bool) → slice ≡ tests → empty ≡ (length slice == 0) → empty ≡ false → tests ≢ []
some_tests tests slice empty same is not_so e = true≢false (sym (is ∙ ap (λ (l : List TestCall). length l == 0) (same ∙ e)) ∙ not_so)

pub all_added : {E : Type 0} (result : Result (Unit {0}) E) (p r : Project) (world : Worlds) → p.declared.tests ≢ [] → world ≡ equipped p.world → OnOk result (AddsTargets (record p { world = world }) (flat_map added p.declared.tests) r) → OnOk result (LeavesReady p r)
all_added (Ok u) p r world some is adds = ready_with p r world some is adds
all_added (Err e) p r world some is adds = tt

pub part_added : {E : Type 0} (result : Result (Unit {0}) E) (p r : Project) (world : Worlds) → p.declared.tests ≢ [] → world ≡ equipped p.world → OnErr result (AddsPart (record p { world = world }) (flat_map added p.declared.tests) r) → OnErr result (LeavesPart p r)
part_added (Ok u) p r world some is part = tt
part_added (Err e) p r world some is part = part_with p r world some is part

-- the world stays while targets are added, whether all of them are
pub world_stays : {E : Type 0} (result : Result (Unit {0}) E) (p r : Project) (more : List Target) → OnOk result (AddsTargets p more r) → OnErr result (AddsPart p more r) → r.world ≡ p.world
world_stays (Ok u) p r more ok err = ap (λ (x : Project). x.world) ok
world_stays (Err e) p r more ok err = ap (λ (x : Project). x.world) err.added
