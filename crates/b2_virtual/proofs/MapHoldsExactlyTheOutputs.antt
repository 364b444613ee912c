-- A builder's map, empty and after each step, has just the spots of all outputs, and so tells equal steps and clashes.
use Rattle.std.proofs.Common.{◌≡◌, ℕ, ◌-◌, ◌<◌, ◌≤◌, Bool, true, false, cond, ◌||◌, ◌⊎◌, inl, inr, ⊎_elim, suc, zero, List, [], ◌∷◌, ◌++◌, map, length, length-append, Option, Some, None, slice_get, get_or, refl, ap, sym, ◌∙◌, subst, append-nil, arith}
use Rattle.std.specs.Prelude.{slice_index_or}
use Rattle.std.specs.List.{Contains, list_any, AllByRecursion}
use Rattle.std.specs.Str.{bytes_eq}
use Rattle.std.specs.FinMap.{get, get-empty, from_entries}
use Rattle.std.specs.Ordering.{nat_cmp}
use Rattle.std.specs.Cmp.Lexicographic.{slice_cmp}
use Rattle.std.proofs.lemmas.Bool.{true≢false, cases_Bool, cond-true, cond-false}
use Rattle.std.proofs.lemmas.Option.{slice_get_within}
use Rattle.std.proofs.lemmas.List.Elements.{All-contains, All-from_recursion}
use Rattle.std.proofs.lemmas.Slice.Eq.{bytes_eq-Decides}
use Rattle.b2_base.specs.Normal.{IsNormal, IsUnder}
use Rattle.b2_base.specs.Bytes.{IsFrontOf}
use Rattle.b2_plan.specs.declared.step.Step.{Step}
use Rattle.b2_plan.specs.Plans.{step_at, Makes}
use Rattle.b2_host.specs.FileCalls.{log_path}
use Rattle.b2_virtual.specs.Joining.{is_same, stands_in, number_in, number_of}
use Rattle.b2_virtual.specs.Clashes.{AreNested, Clashes, shared, beside, within, log, below_log, Fits, AreApart}
use Rattle.b2_virtual.specs.Spots.{spot, Numbers, GoesOn, ComesBefore, IsFlat}
use Rattle.b2_virtual.specs.Ready.{IsReady}
use Rattle.b2_virtual.proofs.JoinedStepsKeepTheirNumbers.{same_is_equal, found, stands, at_front, at_end, at_cases, distinct_joined}
use Rattle.b2_virtual.proofs.FolderSpotBeginsThoseInside.{under_from_spot, spot_from_under}

abbrev Paths : Type 0
Paths = List (List ℕ)

no_number : (i : ℕ) → ◌≡◌ {A = Option ℕ} None (Some i) → ⊥
no_number i e = cc

one_number : (i k : ℕ) → ◌≡◌ {A = Option ℕ} (Some i) (Some k) → i ≡ k
one_number i k e = cc

one_at : (a b : Step) → ◌≡◌ {A = Option Step} (Some a) (Some b) → a ≡ b
one_at a b e = cc

-- ---- before any step

no_step : (i : ℕ) (step : Step) → step_at [] i ≡ Some step → ⊥
no_step zero step e = let bad : None ≡ Some step = e in cc
no_step (suc i) step e = let bad : None ≡ Some step = e in cc

pub ready_empty : (m : Numbers) → m ≡ from_entries [] → IsReady [] m
ready_empty m e = record {
  few = omega arith;
  once = λ i k step a b. absurd (no_step i step a);
  normal = λ i step path made. absurd (no_step i step made.at);
  has = λ i step path made. absurd (no_step i step made.at);
  only = λ key i h. absurd (no_number i (sym (get-empty (slice_cmp nat_cmp) key) ∙ sym (ap (λ n. get n key) e) ∙ h));
  no_folder = λ i k step other path folder made kept u. absurd (no_step i step made.at);
  no_log = λ i step path made l. absurd (no_step i step made.at);
}

-- ---- another map with the same numbers

pub ready_again : (steps : List Step) (m n : Numbers) → IsReady steps m → ((q : List ℕ) → get n q ≡ get m q) → IsReady steps n
ready_again steps m n r same = record {
  few = r.few;
  once = r.once;
  normal = r.normal;
  has = λ i step path made. same (spot path) ∙ r.has i step path made;
  only = λ key i h. r.only key i (sym (same key) ∙ h);
  no_folder = r.no_folder;
  no_log = r.no_log;
}

-- ---- no spot begins another one

pub flat : (steps : List Step) (m : Numbers) → IsReady steps m → IsFlat m
flat steps m r a b i k ha hb more =
    let one : (step : Step) × (path : List ℕ) × Makes steps i step path × (a ≡ spot path) = r.only a i ha in
    let two : (step : Step) × (path : List ℕ) × Makes steps k step path × (b ≡ spot path) = r.only b k hb in
    let begins : IsFrontOf (spot one.1) (spot two.1) = (more.0, sym two.3 ∙ more.1 ∙ ap (λ t. t ++ more.0) one.3) in
    ⊎_elim
    (λ (same : two.1 ≡ one.1). one.3 ∙ ap spot (sym same) ∙ sym two.3)
    (λ (u : IsUnder two.1 one.1). absurd (r.no_folder k i two.0 one.0 two.1 one.1 two.2 one.2 u))
    (under_from_spot two.1 one.1 (r.normal k two.0 two.1 two.2) (r.normal i one.0 one.1 one.2) begins)

-- ---- what clashes with the steps

makes_same : (steps : List Step) (i : ℕ) (step : Step) (p q : List ℕ) → p ≡ q → Makes steps i step p → Makes steps i step q
makes_same steps i step p q e made = subst (λ x. Makes steps i step x) e made

pub goes_on_clash : (steps : List Step) (m : Numbers) (step : Step) (out : List ℕ) → IsReady steps m → IsNormal out → GoesOn m (spot out) → Clashes steps step out
goes_on_clash steps m step out r n g =
    let one : (other : Step) × (path : List ℕ) × Makes steps g.1 other path × (g.0 ≡ spot path) = r.only g.0 g.1 g.2 in
    ⊎_elim
    (λ (same : one.1 ≡ out). shared g.1 one.0 (makes_same steps g.1 one.0 one.1 out same one.2))
    (λ (u : IsUnder one.1 out). beside g.1 one.0 one.1 one.2 (inr u))
    (under_from_spot one.1 out (r.normal g.1 one.0 one.1 one.2) n (g.3.0, sym one.3 ∙ g.3.1))

pub before_clash : (steps : List Step) (m : Numbers) (step : Step) (out : List ℕ) → IsReady steps m → IsNormal out → ComesBefore m (spot out) → Clashes steps step out
before_clash steps m step out r n g =
    let one : (other : Step) × (path : List ℕ) × Makes steps g.1 other path × (g.0 ≡ spot path) = r.only g.0 g.1 g.2 in
    ⊎_elim
    (λ (same : out ≡ one.1). shared g.1 one.0 (makes_same steps g.1 one.0 one.1 out (sym same) one.2))
    (λ (u : IsUnder out one.1). beside g.1 one.0 one.1 one.2 (inl u))
    (under_from_spot out one.1 n (r.normal g.1 one.0 one.1 one.2) (g.3.0, g.3.1 ∙ ap (λ t. t ++ g.3.0) one.3))

-- what a clash is, by the map
abbrev pub ClashesBy : Numbers → Step → List ℕ → Type 0
ClashesBy m step out = (GoesOn m (spot out) ⊎ ComesBefore m (spot out)) ⊎ ((((other : List ℕ) × Contains step.outs other × AreNested out other)) ⊎ ((out ≡ log_path) ⊎ IsUnder out log_path))

pub clash_by : (steps : List Step) (m : Numbers) (step : Step) (out : List ℕ) → IsReady steps m → IsNormal out → Clashes steps step out → ClashesBy m step out
clash_by steps m step out r n (shared i other made) = inl (inl (spot out, i, r.has i other out made, ([], sym (append-nil (spot out)))))
clash_by steps m step out r n (beside i other path made (inl u)) = inl (inr (spot path, i, r.has i other path made, spot_from_under out path (r.normal i other path made) u))
clash_by steps m step out r n (beside i other path made (inr u)) = inl (inl (spot path, i, r.has i other path made, spot_from_under path out n u))
clash_by steps m step out r n (within path there nested) = inr (inl (path, there, nested))
clash_by steps m step out r n (log e) = inr (inr (inl e))
clash_by steps m step out r n (below_log u) = inr (inr (inr u))

pub own_clash : (steps : List Step) (step : Step) (out : List ℕ) → ((other : List ℕ) × Contains step.outs other × AreNested out other) → Clashes steps step out
own_clash steps step out h = within h.0 h.1 h.2

pub log_clash : (steps : List Step) (step : Step) (out : List ℕ) → (out ≡ log_path) ⊎ IsUnder out log_path → Clashes steps step out
log_clash steps step out (inl e) = log e
log_clash steps step out (inr u) = below_log u

-- ---- the number of an equal step, by its first output

has_first : (steps : List Step) (m : Numbers) (step : Step) (first : List ℕ) → IsReady steps m → Contains step.outs first → stands_in steps step ≡ true → get m (spot first) ≡ Some (number_in steps step)
has_first steps m step first r c h = r.has (number_in steps step) step first (record { at = found steps step h; among = c })

pub none_by_first : (steps : List Step) (m : Numbers) (step : Step) (first : List ℕ) → IsReady steps m → Contains step.outs first → get m (spot first) ≡ None → number_of steps step ≡ None
none_by_first steps m step first r c e =
    elim (cases_Bool (stands_in steps step)) [
      | inl h ↦ absurd (no_number (number_in steps step) (sym e ∙ has_first steps m step first r c h))
      | inr h ↦ cond-false (stands_in steps step) (Some (number_in steps step)) None h
    ]

pub same_by_first : (steps : List Step) (m : Numbers) (step other : Step) (first : List ℕ) (i : ℕ) → IsReady steps m → Contains step.outs first → get m (spot first) ≡ Some i → step_at steps i ≡ Some other → is_same step other ≡ true → number_of steps step ≡ Some i
same_by_first steps m step other first i r c e at same =
    let equal : step ≡ other = (same_is_equal step other).0 same in
    let h : stands_in steps step ≡ true = stands steps i step (at ∙ ap Some (sym equal)) in
    cond-true (stands_in steps step) (Some (number_in steps step)) None h ∙ sym (has_first steps m step first r c h) ∙ e

pub other_by_first : (steps : List Step) (m : Numbers) (step other : Step) (first : List ℕ) (i : ℕ) → IsReady steps m → Contains step.outs first → get m (spot first) ≡ Some i → step_at steps i ≡ Some other → is_same step other ≡ false → number_of steps step ≡ None
other_by_first steps m step other first i r c e at differ =
    elim (cases_Bool (stands_in steps step)) [
      | inl h ↦
          let number : number_in steps step ≡ i = one_number (number_in steps step) i (sym (has_first steps m step first r c h) ∙ e) in
          let equal : step ≡ other = one_at step other (sym (found steps step h) ∙ ap (step_at steps) number ∙ at) in
          absurd (true≢false (sym ((same_is_equal step other).1 equal) ∙ differ))
      | inr h ↦ cond-false (stands_in steps step) (Some (number_in steps step)) None h
    ]

-- a number of the map is that of a step
pub in_steps : (steps : List Step) (m : Numbers) (key : List ℕ) (i : ℕ) → IsReady steps m → get m key ≡ Some i → (0 < i) × (i - 1 < length steps) × ((d : Step) → step_at steps i ≡ Some (get_or steps (i - 1) d))
in_steps steps m key i r e = go i (r.only key i e).2.at
  where
    at_place : (l : List Step) (k : ℕ) (d : Step) → k < length l → slice_get l k ≡ Some (get_or l k d)
    at_place [] k d h = absurd (omega (arith, h))
    at_place (s ∷ l) zero d h = refl
    at_place (s ∷ l) (suc k) d h = at_place l k d (omega (arith, h))

    go : (j : ℕ) → step_at steps j ≡ Some (r.only key i e).0 → (0 < j) × (j - 1 < length steps) × ((d : Step) → step_at steps j ≡ Some (get_or steps (j - 1) d))
    go zero at = absurd (no_step zero (r.only key i e).0 at)
    go (suc k) at =
        let within_steps : k < length steps = slice_get_within steps k (r.only key i e).0 at in
        let place : suc k - 1 ≡ k = omega arith in
        (omega arith, omega (arith, within_steps), λ d. at_place steps k d within_steps ∙ ap (λ j. Some (get_or steps j d)) (sym place))

-- the first of some spots is that of an output
pub first_spot : (outs spots : Paths) (first : List ℕ) → spots ≡ map spot outs → 1 ≤ length spots → first ≡ get_or spots 0 first → (out : List ℕ) × Contains outs out × (first ≡ spot out)
first_spot [] spots first e h g = absurd (omega (arith, h, ap length e))
first_spot (o ∷ outs) spots first e h g = (o, (0, omega arith, refl), g ∙ ap (λ (l : Paths). get_or l 0 first) e)

-- ---- a further step

-- which spots are those of some outputs
pub any_spot : (outs : Paths) (key : List ℕ) → list_any (bytes_eq key) (map spot outs) ≡ true → (out : List ℕ) × Contains outs out × (key ≡ spot out)
any_spot [] key h = absurd (true≢false (sym h))
any_spot (o ∷ outs) key h =
    elim (cases_Bool (bytes_eq key (spot o))) [
      | inl same ↦ (o, (0, omega arith, refl), (bytes_eq-Decides key (spot o)).0 same)
      | inr other ↦
          let rest : list_any (bytes_eq key) (map spot outs) ≡ true = sym (ap (λ b. b || list_any (bytes_eq key) (map spot outs)) other) ∙ h in
          let more : (out : List ℕ) × Contains outs out × (key ≡ spot out) = any_spot outs key rest in
          (more.0, (suc more.1.0, omega (arith, more.1.1), more.1.2), more.2)
    ]

or_true : (a b : Bool) → b ≡ true → (a || b) ≡ true
or_true true b h = refl
or_true false b h = h

pub spot_any : (outs : Paths) (out : List ℕ) → Contains outs out → list_any (bytes_eq (spot out)) (map spot outs) ≡ true
spot_any outs out c = go outs c.0 c.1 c.2
  where
    go : (l : Paths) (k : ℕ) → k < length l → slice_index_or l k out ≡ out → list_any (bytes_eq (spot out)) (map spot l) ≡ true
    go [] k h e = absurd (omega (arith, h))
    go (o ∷ l) zero h e = ap (λ b. b || list_any (bytes_eq (spot out)) (map spot l)) ((bytes_eq-Decides (spot out) (spot o)).1 (ap spot (sym e)))
    go (o ∷ l) (suc k) h e = or_true (bytes_eq (spot out) (spot o)) (list_any (bytes_eq (spot out)) (map spot l)) (go l k (omega (arith, h)) e)

-- a step that fits
pub record FitsReady (steps : List Step) (m : Numbers) (step : Step) : Type 0 where
  pub ready : IsReady steps m
  pub fresh : stands_in steps step ≡ false
  pub fits : Fits steps step
  pub few : length steps < 65536
  pub normal : AllByRecursion IsNormal step.outs

pub fits_ready : (steps now : List Step) (m : Numbers) (step : Step) → steps ≡ now → IsReady steps m → stands_in now step ≡ false → Fits now step → length now < 65536 → AllByRecursion IsNormal step.outs → FitsReady steps m step
fits_ready steps now m step e r new fits few normal = record {
  ready = r;
  fresh = subst (λ (l : List Step). stands_in l step ≡ false) (sym e) new;
  fits = subst (λ (l : List Step). Fits l step) (sym e) fits;
  few = subst (λ (l : List Step). length l < 65536) (sym e) few;
  normal = normal;
}

no_clash : (steps : List Step) (m : Numbers) (step : Step) → FitsReady steps m step → (out : List ℕ) → Contains step.outs out → Clashes steps step out → ⊥
no_clash steps m step f out c = All-contains (λ o. Clashes steps step o → ⊥) step.outs out (All-from_recursion (λ o. Clashes steps step o → ⊥) step.outs f.fits) c

normal_out : (steps : List Step) (m : Numbers) (step : Step) → FitsReady steps m step → (out : List ℕ) → Contains step.outs out → IsNormal out
normal_out steps m step f out c = All-contains IsNormal step.outs out (All-from_recursion IsNormal step.outs f.normal) c

-- the spots of a step that fits have no numbers yet
pub none_yet : (steps : List Step) (m : Numbers) (step : Step) → FitsReady steps m step → (key : List ℕ) → list_any (bytes_eq key) (map spot step.outs) ≡ true → get m key ≡ None
none_yet steps m step f key h =
    let out : (o : List ℕ) × Contains step.outs o × (key ≡ spot o) = any_spot step.outs key h in
    go (get m key) refl out
  where
    go : (r : Option ℕ) → get m key ≡ r → ((o : List ℕ) × Contains step.outs o × (key ≡ spot o)) → get m key ≡ None
    go None e out = e
    go (Some i) e out =
        absurd (no_clash steps m step f out.0 out.1 (goes_on_clash steps m step out.0 f.ready (normal_out steps m step f out.0 out.1) (key, i, e, ([], out.2 ∙ sym (append-nil (spot out.0))))))

-- an output of the longer list is one of the shorter one, or of the step
makes_cases : (steps : List Step) (step other : Step) (i : ℕ) (path : List ℕ) → Makes (steps ++ step ∷ []) i other path → Makes steps i other path ⊎ ((i ≡ suc (length steps)) × Contains step.outs path)
makes_cases steps step other i path made =
    ⊎_elim
    (λ (at : step_at steps i ≡ Some other). inl (record { at = at; among = made.among }))
    (λ (last : (i ≡ suc (length steps)) × (step ≡ other)). inr (last.0, subst (λ (s : Step). Contains s.outs path) (sym last.1) made.among))
    (at_cases steps step other i made.at)

pub ready_joined : (steps : List Step) (m n : Numbers) (step : Step) (number : ℕ) → FitsReady steps m step → number ≡ suc (length steps)
    → ((q : List ℕ) → get n q ≡ cond (list_any (bytes_eq q) (map spot step.outs)) (Some number) (get m q)) → IsReady (steps ++ step ∷ []) n
ready_joined steps m n step number f e put = record {
  few = omega (arith, length-append steps (step ∷ []), f.few);
  once = distinct_joined steps step f.fresh f.ready.once;
  normal = λ i other path made.
      ⊎_elim (λ (old : Makes steps i other path). f.ready.normal i other path old) (λ (new : (i ≡ suc (length steps)) × Contains step.outs path). normal_out steps m step f path new.1)
      (makes_cases steps step other i path made);
  has = λ i other path made.
      ⊎_elim (λ (old : Makes steps i other path). keeps i other path old)
      (λ (new : (i ≡ suc (length steps)) × Contains step.outs path).
      put (spot path) ∙ cond-true (list_any (bytes_eq (spot path)) (map spot step.outs)) (Some number) (get m (spot path)) (spot_any step.outs path new.1) ∙ ap Some (e ∙ sym new.0))
      (makes_cases steps step other i path made);
  only = λ key i h. only_of key i h;
  no_folder = λ i k one other path folder made kept u.
      ⊎_elim
      (λ (old : Makes steps i one path).
      ⊎_elim (λ (old_too : Makes steps k other folder). f.ready.no_folder i k one other path folder old old_too u)
      (λ (new : (k ≡ suc (length steps)) × Contains step.outs folder). no_clash steps m step f folder new.1 (beside i one path old (inr u)))
      (makes_cases steps step other k folder kept))
      (λ (new : (i ≡ suc (length steps)) × Contains step.outs path).
      ⊎_elim (λ (old : Makes steps k other folder). no_clash steps m step f path new.1 (beside k other folder old (inl u)))
      (λ (new_too : (k ≡ suc (length steps)) × Contains step.outs folder). no_clash steps m step f path new.1 (within folder new_too.1 (inl u)))
      (makes_cases steps step other k folder kept))
      (makes_cases steps step one i path made);
  no_log = λ i other path made l.
      ⊎_elim (λ (old : Makes steps i other path). f.ready.no_log i other path old l)
      (λ (new : (i ≡ suc (length steps)) × Contains step.outs path). no_clash steps m step f path new.1 (log_clash steps step path l))
      (makes_cases steps step other i path made);
}
  where
    keeps : (i : ℕ) (other : Step) (path : List ℕ) → Makes steps i other path → get n (spot path) ≡ Some i
    keeps i other path old =
        elim (cases_Bool (list_any (bytes_eq (spot path)) (map spot step.outs))) [
          | inl h ↦ absurd (no_number i (sym (none_yet steps m step f (spot path) h) ∙ f.ready.has i other path old))
          | inr h ↦ put (spot path) ∙ cond-false (list_any (bytes_eq (spot path)) (map spot step.outs)) (Some number) (get m (spot path)) h ∙ f.ready.has i other path old
        ]

    only_of : (key : List ℕ) (i : ℕ) → get n key ≡ Some i → (other : Step) × (path : List ℕ) × Makes (steps ++ step ∷ []) i other path × (key ≡ spot path)
    only_of key i h =
        elim (cases_Bool (list_any (bytes_eq key) (map spot step.outs))) [
          | inl new ↦
              let out : (o : List ℕ) × Contains step.outs o × (key ≡ spot o) = any_spot step.outs key new in
              let same : i ≡ suc (length steps) = one_number i (suc (length steps)) (sym h ∙ put key ∙ cond-true (list_any (bytes_eq key) (map spot step.outs)) (Some number) (get m key) new ∙ ap Some e) in
              (step, out.0, record { at = ap (step_at (steps ++ step ∷ [])) same ∙ at_end steps step; among = out.1 }, out.2)
          | inr old ↦
              let was : get m key ≡ Some i = sym (cond-false (list_any (bytes_eq key) (map spot step.outs)) (Some number) (get m key) old) ∙ sym (put key) ∙ h in
              let one : (other : Step) × (path : List ℕ) × Makes steps i other path × (key ≡ spot path) = f.ready.only key i was in
              (one.0, one.1, record { at = at_front steps (step ∷ []) i one.0 one.2.at; among = one.2.among }, one.3)
        ]

-- ---- the outputs of a plan

pub apart : (steps : List Step) (m : Numbers) → IsReady steps m → AreApart steps
apart steps m r roots inside = record {
  under_root = inside.under_root;
  one_maker = λ i k step other path made kept. one_number i k (sym (r.has i step path made) ∙ r.has k other path kept);
  no_folder = r.no_folder;
  not_log = λ i step made. r.no_log i step log_path made (inl refl);
  not_below_log = λ i step path made u. r.no_log i step path made (inr u);
  some_out = inside.some_out;
  bin = inside.bin;
  few = r.few;
}
