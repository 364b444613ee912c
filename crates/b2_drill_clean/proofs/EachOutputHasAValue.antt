-- Each output of a drill has a value in the clean build.
use Rattle.std.proofs.Common.{◌≡◌, ℕ, zero, suc, ◌/◌, ◌<◌, ◌≤◌, ◌^◌, inl, inr, Bool, true, false, not, eqb, List, [], ◌∷◌, ◌++◌, length, filter, codes, Option, Some, None, refl, sym, ap, subst, ◌∙◌, arith}
use Rattle.std.specs.Prelude.{if◌then◌else◌}
use Rattle.std.specs.Fmt.{decimal}
use Rattle.std.specs.List.{AllByRecursion, AllPairs, Contains}
use Rattle.std.proofs.lemmas.Bool.{true≢false}
use Rattle.std.proofs.lemmas.List.Elements.{All-from_recursion}
use Rattle.std.proofs.lemmas.List.Splits.{slice_split_none}
use Rattle.b2_base.specs.Bytes.{Before}
use Rattle.b2_base.specs.Normal.{parts, IsUnder}
use Rattle.b2_base.specs.Segments.{is_dropped}
use Rattle.b2_drill.specs.Drills.{source_name}
use Rattle.b2_drill_clean.specs.Steps.{output, inputs, step_text, drill_step}
use Rattle.b2_drill_clean.specs.Laws.{IsOfDrill}
use Rattle.b2_drill_clean.proofs.NoneIsScanned.{source_is_not_scanned, output_is_not_scanned}
use Rattle.b2_drill_clean.proofs.StepsByNumber.{only_one, none_in, steps_count, step_in, step_is, output_in, IsInputOf, source, target, half_less, half_below, input_is}
use Rattle.b2_drill_text.proofs.NamesNeedNoQuotes.{IsDigit, all_digits}
use Rattle.b2_host.specs.Disks.{bytes_at}
use Rattle.b2_host.specs.declared.children.ChildEvent.{ChildEvent}
use Rattle.b2_plan.specs.Cleans.{Val, Clean}
use Rattle.b2_plan.specs.Closures.{Value, Values, Known, input, include, IsClosure, with_bytes}
use Rattle.b2_plan.specs.Plans.{Makes, step_at}
use Rattle.b2_plan.specs.Sources.{Build, IsInRoots, IsSource}
use Rattle.b2_plan.specs.declared.step.Step.{Step}
use Rattle.b2_runs.specs.CompleteLaws.{CleanIsDefined}
use Rattle.b2_runs.specs.FileReads.{IsToScan}
use Rattle.b2_runs.specs.ReadLaws.{NoneLarge}
use Rattle.b2_runs.specs.Staleness.{Update}
use Rattle.jam_scan.specs.IncludeLines.{includes_of}
use Rattle.jam_scan.specs.Scans.{is_scanned, scan_of}
use Rattle.jam_scope.specs.Texts.{first_roots}

-- ---- sources lie outside the roots

high : (ds : List ℕ) → AllByRecursion IsDigit ds → AllByRecursion (λ b. eqb b 47 ≡ false) ds
high [] h = tt
high (d ∷ ds) h = (let low : 47 < d = h.0.low in grind (arith, low), high ds h.1)

source_parts : (i : ℕ) → i < 2 ^ 64 → parts (source_name i) ≡ source_name i ∷ []
source_parts i small =
    ap (λ cuts. filter (λ segment. not (is_dropped segment)) cuts)
    (slice_split_none (λ b. eqb b 47) (source_name i) (All-from_recursion (λ b. eqb b 47 ≡ false) (source_name i) (refl, high (decimal i) (all_digits i small))))

no_more : {X : Type 0} (x y z : X) (more : List X) → x ∷ [] ≡ y ∷ z ∷ more → ⊥
no_more x y z more e = cc

not_under : (i : ℕ) (root first : List ℕ) → i < 2 ^ 64 → parts root ≡ first ∷ [] → IsUnder (source_name i) root → ⊥
not_under i root first small one under =
    no_more (source_name i) first under.next under.more (sym (source_parts i small) ∙ under.goes_on ∙ ap (λ found. found ++ under.next ∷ under.more) one)

pub held : {X : Type 0} (P : X → Type 0) (xs : List X) (x : X) → AllByRecursion P xs → Contains xs x → P x
held P [] x every c = absurd (none_in x c)
held P (y ∷ ys) x (first, more) (zero, less, e) = subst P e first
held P (y ∷ ys) x (first, more) (suc k, less, e) = held P ys x more (k, omega (arith, less), e)

pub outside : (i : ℕ) → i < 2 ^ 64 → IsInRoots first_roots (source_name i) → ⊥
outside i small (root, contains, under) =
    held (λ (r : List ℕ). IsUnder (source_name i) r → ⊥) first_roots root
    (not_under i (codes "bin") (codes "bin") small refl, (not_under i (codes "stage") (codes "stage") small refl, (not_under i (codes "dist") (codes "dist") small refl, tt)))
    contains under

-- ---- what a step reads

not_included : (inc : List ℕ → List ℕ → List (List ℕ × Bool)) (path bytes : List ℕ) → inc ≡ scan_of → is_scanned path ≡ false → inc path bytes ≡ []
not_included inc path bytes is none =
    let by_scan : inc path bytes ≡ scan_of path bytes = ap (λ (f : List ℕ → List ℕ → List (List ℕ × Bool)). f path bytes) is in
    let nothing : scan_of path bytes ≡ [] = ap (λ b. if b then includes_of bytes else []) none in
    by_scan ∙ nothing

input_not_scanned : (i : ℕ) (path : List ℕ) → i < 2 ^ 64 → IsInputOf i path → is_scanned path ≡ false
input_not_scanned i path small (source is) = ap is_scanned (sym is) ∙ source_is_not_scanned i small
input_not_scanned i path small (target k less is) = ap is_scanned (sym is) ∙ output_is_not_scanned k (omega (arith, less, small))

known_is_input : (b : Build) (v : Values) (i : ℕ) (path : List ℕ) → i < 2 ^ 64 → b.inc ≡ scan_of → Known b v (drill_step i) path → Contains (inputs i) path
known_is_input b v i path small inc (input p c) = c
known_is_input b v i path small inc (include from bytes found known value includes) =
    let there : Contains (inputs i) from = known_is_input b v i from small inc known in
    let none : b.inc from bytes ≡ [] = not_included b.inc from bytes inc (input_not_scanned i from small (input_is i from there)) in
    absurd (none_in includes.include (subst (λ list. Contains list includes.include) none includes.listed))

-- ---- values

in_order : (first second : List ℕ × Value) → Before first.0 second.0 → AllPairs (λ (x y : List ℕ × Value). Before x.0 y.0) (first ∷ second ∷ [])
in_order first second before zero zero d less within = absurd (omega (arith, less))
in_order first second before zero (suc zero) d less within = before
in_order first second before zero (suc (suc j)) d less within = absurd (omega (arith, within))
in_order first second before (suc i) zero d less within = absurd (omega (arith, less))
in_order first second before (suc i) (suc j) d less within = absurd (omega (arith, less, within))

alone : (first : List ℕ × Value) → AllPairs (λ (x y : List ℕ × Value). Before x.0 y.0) (first ∷ [])
alone first i j d less within = absurd (omega (arith, less, within))

module _ (n : ℕ) (u : Update) (d : IsOfDrill n u) (stand : (i : ℕ) → i < n → (bytes : List ℕ) × (bytes_at u.build.folder (source_name i) ≡ Some bytes)) where
  short : (i : ℕ) → i < n → i < 2 ^ 64
  short i less = let few : n ≤ 2000 = d.few in omega (arith, less, few)

  source_is : (i : ℕ) (less : i < n) → IsSource u.build (source_name i) (stand i less).0
  source_is i less =
      record { outside = λ within. outside i (short i less) (subst (λ roots. IsInRoots roots (source_name i)) d.roots_are within); stands = (stand i less).1 }

  source_at : (m i : ℕ) (less : i < n) → Val u.build m (source_name i) (Some (stand i less).0)
  source_at zero i less = ((stand i less).0, source_is i less, refl)
  source_at (suc m) i less = inl ((stand i less).0, source_is i less, refl)

  makes : (i : ℕ) → i < n → Makes u.build.steps (suc i) (drill_step i) (output i)
  makes i less = record { at = ap (λ found. step_at found (suc i)) d.steps_are ∙ step_in n i less; among = (zero, omega arith, refl) }

  first_closure : (m : ℕ) (less : 0 < n) → IsClosure u.build (Val u.build m) (drill_step 0) ((source_name 0, Some (stand 0 less).0) ∷ [])
  first_closure m less = record {
    ordered = alone (source_name 0, Some (stand 0 less).0);
    each = λ path value c.
        subst (λ (p : List ℕ × Value). Known u.build (Val u.build m) (drill_step 0) p.0 × Val u.build m p.0 p.1) (only_one (source_name 0, Some (stand 0 less).0) (path, value) c)
        (input (source_name 0) (zero, omega arith, refl), source_at m 0 less);
    whole = λ path known. (
      Some (stand 0 less).0,
      subst (λ p. Contains {X = List ℕ × Value} ((source_name 0, Some (stand 0 less).0) ∷ []) (p, Some (stand 0 less).0))
          (only_one (source_name 0) path (known_is_input u.build (Val u.build m) 0 path (short 0 less) d.includes_are known)) (zero, omega arith, refl),
    );
  }

  module _ (m i : ℕ) (less : suc i < n) (value : Value) (lower : Val u.build m (output (suc i / 2)) value) where
    abbrev members : List (List ℕ × Value)
    members = (output (suc i / 2), value) ∷ (source_name (suc i), Some (stand (suc i) less).0) ∷ []

    later_each : (path : List ℕ) (found : Value) → Contains members (path, found) → Known u.build (Val u.build m) (drill_step (suc i)) path × Val u.build m path found
    later_each path found (zero, within, e) =
        subst (λ (p : List ℕ × Value). Known u.build (Val u.build m) (drill_step (suc i)) p.0 × Val u.build m p.0 p.1) e (input (output (suc i / 2)) (suc zero, omega arith, refl), lower)
    later_each path found (suc zero, within, e) =
        subst (λ (p : List ℕ × Value). Known u.build (Val u.build m) (drill_step (suc i)) p.0 × Val u.build m p.0 p.1) e (input (source_name (suc i)) (zero, omega arith, refl), source_at m (suc i) less)
    later_each path found (suc (suc k), within, e) = absurd (omega (arith, within))

    later_whole : (path : List ℕ) → Contains (inputs (suc i)) path → (found : Value) × Contains members (path, found)
    later_whole path (zero, within, e) = (Some (stand (suc i) less).0, subst (λ p. Contains {X = List ℕ × Value} members (p, Some (stand (suc i) less).0)) e (suc zero, omega arith, refl))
    later_whole path (suc zero, within, e) = (value, subst (λ p. Contains {X = List ℕ × Value} members (p, value)) e (zero, omega arith, refl))
    later_whole path (suc (suc k), within, e) = absurd (omega (arith, within))

    later_closure : IsClosure u.build (Val u.build m) (drill_step (suc i)) members
    later_closure = record {
      ordered = in_order (output (suc i / 2), value) (source_name (suc i), Some (stand (suc i) less).0) refl;
      each = later_each;
      whole = λ path known. later_whole path (known_is_input u.build (Val u.build m) (suc i) path (short (suc i) less) d.includes_are known);
    }

  output_at : (m i : ℕ) → i < n → i < m → (value : Value) × Val u.build m (output i) value
  output_at zero i less deep = absurd (omega (arith, deep))
  output_at (suc m) zero less deep = (
    Some (u.build.made (step_text 0) (with_bytes ((source_name 0, Some (stand 0 less).0) ∷ [])) (output 0)),
    inr (record {
      number = 1;
      step = drill_step 0;
      makes = makes 0 less;
      members = (source_name 0, Some (stand 0 less).0) ∷ [];
      closure = first_closure m less;
      is = refl;
    }),
  )
  output_at (suc m) (suc i) less deep =
      let lower : (value : Value) × Val u.build m (output (suc i / 2)) value = output_at m (suc i / 2) (let half = half_less i in omega (arith, less, half)) (half_below i m deep) in (
        Some (u.build.made (step_text (suc i)) (with_bytes (members m i less lower.0 lower.1)) (output (suc i))),
        inr (record {
          number = suc (suc i);
          step = drill_step (suc i);
          makes = makes (suc i) less;
          members = members m i less lower.0 lower.1;
          closure = later_closure m i less lower.0 lower.1;
          is = refl;
        }),
      )

  clean_at : (i : ℕ) → i < n → (value : Value) × Clean u.build (output i) value
  clean_at i less =
      let count : length u.build.steps ≡ n = ap (λ (found : List Step). length found) d.steps_are ∙ steps_count n in
      output_at (length u.build.steps) i less (omega (arith, less, count))

  made_by : (k : ℕ) (step : Step) (path : List ℕ) → step_at u.build.steps k ≡ Some step → Contains step.outs path → (value : Value) × Clean u.build path value
  made_by zero step path at among = absurd (no_step step at)
    where
      no_step : (s : Step) → ◌≡◌ {A = Option Step} None (Some s) → ⊥
      no_step s e = cc
  made_by (suc k) step path at among =
      let found : (k < n) × (drill_step k ≡ step) = step_is n k step (sym (ap (λ (list : List Step). step_at list (suc k)) d.steps_are) ∙ at) in
      let own : output k ≡ path = only_one (output k) path (subst (λ (s : Step). Contains s.outs path) (sym found.1) among) in
      let has : (value : Value) × Clean u.build (output k) value = clean_at k found.0 in
      (has.0, subst (λ p. Clean u.build p has.0) own has.1)

  wanted_at : (path : List ℕ) → Contains u.build.wanted path → (value : Value) × Clean u.build path value
  wanted_at path c =
      let found : (i : ℕ) × (i < n) × (path ≡ output i) = output_in n path (subst (λ list. Contains list path) d.wanted_are c) in
      let has : (value : Value) × Clean u.build (output found.0) value = clean_at found.0 found.1 in
      (has.0, subst (λ p. Clean u.build p has.0) (sym found.2) has.1)

pub drill_is_defined : (n : ℕ) (u : Update) (events : List ChildEvent) → IsOfDrill n u
    → ((i : ℕ) → i < n → (bytes : List ℕ) × (bytes_at u.build.folder (source_name i) ≡ Some bytes)) → CleanIsDefined u events
drill_is_defined n u events d stand = record {
  wanted = λ path c. wanted_at n u d stand path c;
  outputs = λ i step path needed makes. made_by n u d stand i step path makes.at makes.among;
}

-- ---- none is large

scanned_not : (n : ℕ) (u : Update) (v : Values) (k : ℕ) (step : Step) (path : List ℕ) → IsOfDrill n u → step_at u.build.steps k ≡ Some step → Known u.build v step path → u.scanned path ≡ true → ⊥
scanned_not n u v zero step path d at known scanned = no_step step at
  where
    no_step : (s : Step) → ◌≡◌ {A = Option Step} None (Some s) → ⊥
    no_step s e = cc
scanned_not n u v (suc k) step path d at known scanned =
    let found : (k < n) × (drill_step k ≡ step) = step_is n k step (sym (ap (λ (list : List Step). step_at list (suc k)) d.steps_are) ∙ at) in
    let few : n ≤ 2000 = d.few in
    let less : k < n = found.0 in
    let own : Contains (inputs k) path = known_is_input u.build v k path (omega (arith, few, less)) d.includes_are (subst (λ (s : Step). Known u.build v s path) (sym found.1) known) in
    true≢false (sym scanned ∙ ap (λ (f : List ℕ → Bool). f path) d.scanned_are ∙ input_not_scanned k path (omega (arith, few, less)) (input_is k path own))

pub drill_has_none_large : (n : ℕ) (u : Update) (events : List ChildEvent) → IsOfDrill n u → u.by_digest ≡ false → NoneLarge u events
drill_has_none_large n u events d stamps = record {
  scanned = λ path bytes (to_scan : IsToScan u events path bytes). absurd (scanned_not n u _ to_scan.input.number to_scan.input.step path d to_scan.input.at to_scan.input.known to_scan.scanned);
  inputs = λ e path bytes is settled. absurd (true≢false (sym e ∙ stamps));
  at_entry = λ e path bytes is stands. absurd (true≢false (sym e ∙ stamps));
  in_clean = λ e path bytes is clean. absurd (true≢false (sym e ∙ stamps));
}
