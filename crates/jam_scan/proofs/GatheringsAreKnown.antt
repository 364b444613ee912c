-- What was gathered is what is known, by the values that were told.
use Rattle.std.proofs.Common.{◌≡◌, ◌≢◌, ℕ, ◌<◌, Bool, true, false, List, [], ◌∷◌, ◌++◌, length, get_or, Some, None, ◌⊎◌, inl, inr, refl, sym, ap, subst, ◌∙◌, arith}
use Rattle.std.specs.List.{AllPairs, Contains, slice_get}
use Rattle.std.proofs.lemmas.List.Elements.{Contains-append_left, Contains-push, Contains-push_cases}
use Rattle.std.proofs.lemmas.Option.{slice_get_within, slice_get-get_or, get_or_from_slice_get}
use Rattle.b2_plan.specs.declared.step.Step.{Step}
use Rattle.b2_plan.specs.Sources.{Build, Includes}
use Rattle.b2_plan.specs.Closures.{Value, Known, Known.input, Known.include}
use Rattle.jam_scan.specs.Gatherings.{Gathering, IsInOrder, nothing, with_paths, with_scan, IsOpen, AreFoundIn, IsGathered, IsGathered.begun, IsGathered.scanned, told_values}
use Rattle.jam_scan.specs.Laws.{GatheredIsKnown, GatheredHasValues, ValuesAreOne}
use Rattle.jam_scan.proofs.GatheringsGrow.{Grows, grows, marks_stay, marked_in_order, set_there, set_or_stays, true_stays, at_contains}

-- more values leave no less known
known_stays : (b : Build) (step : Step) (told : List (List ℕ × Value)) (last : List ℕ × Value) (path : List ℕ) → Known b (told_values told) step path → Known b (told_values (told ++ last ∷ [])) step path
known_stays b step told last path (input p c) = input p c
known_stays b step told last path (include p bytes found k says inc) = include p bytes found (known_stays b step told last p k) (Contains-append_left told (last ∷ []) (p, Some bytes) says) inc

-- a gathering tells what is known
record Tells (b : Build) (step : Step) (told : List (List ℕ × Value)) (g : Gathering) : Type 0 where
  order : IsInOrder g
  inputs : (path : List ℕ) → Contains step.ins path → Contains g.members path
  known : (path : List ℕ) → Contains g.members path → Known b (told_values told) step path
  whole : (path bytes found : List ℕ) → Contains told (path, Some bytes) → Includes b step path bytes found → Contains g.members found
  marked : (path : List ℕ) (value : Value) → Contains told (path, value) → (at : ℕ) × (slice_get g.members at ≡ Some path) × (slice_get g.scanned at ≡ Some true)
  valued : (at : ℕ) (path : List ℕ) → slice_get g.members at ≡ Some path → slice_get g.scanned at ≡ Some true → (value : Value) × Contains told (path, value)
  one : (path : List ℕ) (x y : Value) → Contains told (path, x) → Contains told (path, y) → x ≡ y

none_told : {A : Type 0} (x : List ℕ × Value) → Contains {X = List ℕ × Value} [] x → A
none_told x (k, l, e) = absurd (omega (arith, l))

no_mark : {A : Type 0} (at : ℕ) → slice_get {X = Bool} [] at ≡ Some true → A
no_mark at e = absurd (let f : None ≡ Some true = e in cc)

tells_at_first : (b : Build) (step : Step) → Tells b step [] (with_paths nothing step.ins)
tells_at_first b step =
    let order : IsInOrder nothing = record { distinct = λ i j d lt l. absurd (omega (arith, l)); as_many = refl } in
    let more = grows nothing step.ins order in
    record {
      order = more.order;
      inputs = more.come;
      known = λ path c. elim (more.no_others path c) [ inl old ↦ absurd (omega (arith, old.1)) | inr among ↦ input path among ];
      whole = λ path bytes found c inc. none_told (path, Some bytes) c;
      marked = λ path value c. none_told (path, value) c;
      valued = λ at path e mark. no_mark at (more.none_marked at mark);
      one = λ path x y c d. none_told (path, x) c;
    }

-- a path stands at one place
one_place : (members : List (List ℕ)) (i j : ℕ) (path : List ℕ) → AllPairs (λ p q. p ≢ q) members → slice_get members i ≡ Some path → slice_get members j ≡ Some path → i < j → ⊥
one_place members i j path distinct at_i at_j less = distinct i j path less (slice_get_within members j path at_j) (get_or_from_slice_get members i path path at_i ∙ sym (get_or_from_slice_get members j path path at_j))

same_place : (members : List (List ℕ)) (i j : ℕ) (path : List ℕ) → AllPairs (λ p q. p ≢ q) members → slice_get members i ≡ Some path → slice_get members j ≡ Some path → i ≡ j
same_place members i j path distinct at_i at_j =
    let not_less : i < j → ⊥ = one_place members i j path distinct at_i at_j in
    let not_more : j < i → ⊥ = one_place members j i path distinct at_j at_i in
    omega (arith, not_less, not_more)

module _ (b : Build) (step : Step) (told : List (List ℕ × Value)) (g : Gathering) (at : ℕ) (path : List ℕ) (value : Value) (found : List (List ℕ)) (tells : Tells b step told g) (here : slice_get g.members at ≡ Some path) (is_open : IsOpen g at) (exact : AreFoundIn b step path value found) where
  h : Gathering
  h = with_paths g found

  more : Grows g found h
  unfolding h
  more = grows g found tells.order

  last : List ℕ × Value
  last = (path, value)

  split : (x : List ℕ × Value) → Contains (told ++ last ∷ []) x → Contains told x ⊎ (last ≡ x)
  split x c = Contains-push_cases told last x c

  -- the path was not told before
  fresh : (x : Value) → Contains told (path, x) → ⊥
  fresh x c =
      let (j, there, mark) = tells.marked path x c in
      let same : j ≡ at = same_place g.members j at path tells.order.distinct there here in
      let clash : Some true ≡ Some false = sym mark ∙ ap (slice_get g.scanned) same ∙ is_open in
      cc

  tells_after : Tells b step (told ++ last ∷ []) (with_scan g at found)
  unfolding h last
  tells_after = record {
    order = marked_in_order h at more.order;
    inputs = λ p c. more.stay p (tells.inputs p c);
    known = λ p c. elim (more.no_others p c) [
      | inl old ↦ known_stays b step told last p (tells.known p old)
      | inr among ↦
          let (bytes, is, inc) = (exact p).0 among in
          include path bytes p (known_stays b step told last path (tells.known path (at_contains g.members at path here))) (subst (λ v. Contains (told ++ last ∷ []) (path, v)) is (Contains-push told last)) inc
    ];
    whole = λ p bytes other c inc. elim (split (p, Some bytes) c) [
      | inl before ↦ more.stay other (tells.whole p bytes other before inc)
      | inr e ↦
          let path_is : path ≡ p = ap (λ (x : List ℕ × Value). x.0) e in
          let value_is : value ≡ Some bytes = ap (λ (x : List ℕ × Value). x.1) e in
          more.come other ((exact other).1 (bytes, value_is, subst (λ q. Includes b step q bytes other) (sym path_is) inc))
    ];
    marked = λ p v c. elim (split (p, v) c) [
      | inl before ↦ let (j, there, mark) = tells.marked p v before in (j, more.members j p there, true_stays h.scanned at j (marks_stay g found j true mark))
      | inr e ↦ (at, more.members at p (here ∙ ap (λ (x : List ℕ × Value). Some x.0) e), set_there h.scanned at true false (marks_stay g found at false is_open))
    ];
    valued = λ j p there mark. elim (set_or_stays h.scanned at true j true mark) [
      | inl same ↦
          let is : Some path ≡ Some p = sym (more.members at path here) ∙ sym (ap (slice_get h.members) same) ∙ there in
          let path_is : path ≡ p = cc in
          (value, subst (λ q. Contains (told ++ last ∷ []) (q, value)) path_is (Contains-push told last))
      | inr old ↦
          let was : slice_get g.scanned j ≡ Some true = more.none_marked j old in
          let within : j < length g.members = omega (arith, slice_get_within g.scanned j true was, tells.order.as_many) in
          let d : List ℕ = get_or g.members j [] in
          let before : slice_get g.members j ≡ Some d = slice_get-get_or g.members j [] within in
          let (v, c) = tells.valued j d before was in
          let is : Some d ≡ Some p = sym (more.members j d before) ∙ there in
          let path_is : d ≡ p = cc in
          (v, Contains-append_left told (last ∷ []) (p, v) (subst (λ q. Contains told (q, v)) path_is c))
    ];
    one = λ p x y c d. elim (split (p, x) c) [
      | inl c_before ↦ elim (split (p, y) d) [
        | inl d_before ↦ tells.one p x y c_before d_before
        | inr e ↦ absurd (fresh x (subst (λ q. Contains told (q, x)) (sym (ap (λ (z : List ℕ × Value). z.0) e)) c_before))
      ]
      | inr e ↦ elim (split (p, y) d) [
        | inl d_before ↦ absurd (fresh y (subst (λ q. Contains told (q, y)) (sym (ap (λ (z : List ℕ × Value). z.0) e)) d_before))
        | inr f ↦ sym (ap (λ (z : List ℕ × Value). z.1) e) ∙ ap (λ (z : List ℕ × Value). z.1) f
      ]
    ];
  }

tells_always : (b : Build) (step : Step) (told : List (List ℕ × Value)) (g : Gathering) → IsGathered b step told g → Tells b step told g
unfolding last
tells_always b step told g begun = tells_at_first b step
tells_always b step told g (scanned before g' at path value found is here is_open exact) = tells_after b step before g' at path value found (tells_always b step before g' is) here is_open exact

all_known : (b : Build) (step : Step) (told : List (List ℕ × Value)) (g : Gathering) → Tells b step told g → (path : List ℕ) → Known b (told_values told) step path → Contains g.members path
all_known b step told g tells path (input p c) = tells.inputs p c
all_known b step told g tells path (include p bytes found k says inc) = tells.whole p bytes found says inc

pub gathered_is_known : GatheredIsKnown
gathered_is_known b step told g is path =
    let tells = tells_always b step told g is in
    (all_known b step told g tells path, tells.known path)

pub gathered_has_values : GatheredHasValues
gathered_has_values b step told g is none k d l =
    let tells = tells_always b step told g is in
    let there : slice_get g.members k ≡ Some (get_or g.members k d) = slice_get-get_or g.members k d l in
    tells.valued k (get_or g.members k d) there (by_mark (get_or g.scanned k true) (slice_get-get_or g.scanned k true (omega (arith, l, tells.order.as_many))))
  where
    by_mark : (mark : Bool) → slice_get g.scanned k ≡ Some mark → slice_get g.scanned k ≡ Some true
    by_mark true e = e
    by_mark false e = absurd (none k (omega arith) e)

pub values_are_one : ValuesAreOne
values_are_one b step told g is = (tells_always b step told g is).one
