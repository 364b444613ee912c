-- A layer takes just the types from which one generator more leads to the end; and how a list has one that passes.
use Rattle.std.proofs.Common.{◌≡◌, ◌==◌, ℕ, suc, ◌<◌, ◌≤◌, Bool, true, false, ◌||◌, ◌&&◌, List, [], ◌∷◌, length, Option, Some, None, slice_get, refl, sym, ap, subst, ◌⊎◌, inl, inr, arith}
use Rattle.std.specs.List.{list_any}
use Rattle.std.specs.Option.{option_map_or}
use Rattle.std.specs.Str.{bytes_eq}
use Rattle.std.proofs.lemmas.Bool.{or_cases, or_left, or_right, and_parts, and_from, both_ways, eqb-true, eq-eqb, cases_lt}
use Rattle.b2_base.specs.Numbers.{is_among}
use Rattle.b2_props.specs.Sets.{Pair}
use Rattle.b2_props.specs.Membership.{has_all}
use Rattle.b2_props.proofs.RepeatedPairsAddNothing.{text_is, text_itself}
use Rattle.b2_generators.specs.declared.generator.Generator.{Generator}
use Rattle.b2_generators.specs.Table.{has_text}
use Rattle.b2_generators.specs.Chains.{makes, makes_at}
use Rattle.b2_generators.specs.Places.{is_usable_at, sources_at, targets_at, is_taken_by}
use Rattle.b2_generators.specs.Walks.{EndsAt, IsAway, IsAtLeast}
use Rattle.b2_generators.specs.Layers.{IsLayer}

-- ---- what some value passes

module _ {X : Type 0} (same : X → X → Bool) (itself : (x : X) → same x x ≡ true) (sound : (x y : X) → same x y ≡ true → x ≡ y) (test : X → Bool) where
  pub any_found : (xs : List X) → list_any test xs ≡ true → (x : X) × (list_any (λ y. same x y) xs ≡ true) × (test x ≡ true)
  any_found [] e = absurd (both_ways false refl e)
  any_found (x ∷ xs) e = go (or_cases (test x) (list_any test xs) e) (λ later. any_found xs later)
    where
      go : (test x ≡ true) ⊎ (list_any test xs ≡ true) → (list_any test xs ≡ true → (y : X) × (list_any (λ z. same y z) xs ≡ true) × (test y ≡ true)) → (y : X) × (list_any (λ z. same y z) (x ∷ xs) ≡ true) × (test y ≡ true)
      go (inl here) later = (x, or_left (same x x) (list_any (λ z. same x z) xs) (itself x), here)
      go (inr f) later = let r = later f in (r.0, or_right (same r.0 x) (list_any (λ z. same r.0 z) xs) r.1, r.2)

  pub any_from : (x : X) (xs : List X) → list_any (λ y. same x y) xs ≡ true → test x ≡ true → list_any test xs ≡ true
  any_from x [] e t = absurd (both_ways false refl e)
  any_from x (y ∷ ys) e t = go (or_cases (same x y) (list_any (λ z. same x z) ys) e) (λ later. any_from x ys later t)
    where
      go : (same x y ≡ true) ⊎ (list_any (λ z. same x z) ys ≡ true) → (list_any (λ z. same x z) ys ≡ true → list_any test ys ≡ true) → (test y || list_any test ys) ≡ true
      go (inl here) later = or_left (test y) (list_any test ys) (subst (λ (z : X). test z ≡ true) (sound x y here) t)
      go (inr f) later = or_right (test y) (list_any test ys) (later f)

abbrev is_same : ℕ → ℕ → Bool
is_same x y = y == x

same_itself : (x : ℕ) → is_same x x ≡ true
same_itself x = eq-eqb x x refl

same_sound : (x y : ℕ) → is_same x y ≡ true → x ≡ y
same_sound x y e = sym (eqb-true y x e)

pub place_found : (test : ℕ → Bool) (places : List ℕ) → list_any test places ≡ true → (place : ℕ) × (is_among places place ≡ true) × (test place ≡ true)
place_found test places e = any_found is_same same_itself same_sound test places e

pub place_from : (test : ℕ → Bool) (place : ℕ) (places : List ℕ) → is_among places place ≡ true → test place ≡ true → list_any test places ≡ true
place_from test place places here t = any_from is_same same_itself same_sound test place places here t

pub text_found : (test : List ℕ → Bool) (texts : List (List ℕ)) → list_any test texts ≡ true → (text : List ℕ) × (has_text texts text ≡ true) × (test text ≡ true)
text_found test texts e = any_found bytes_eq text_itself text_is test texts e

pub text_from : (test : List ℕ → Bool) (text : List ℕ) (texts : List (List ℕ)) → has_text texts text ≡ true → test text ≡ true → list_any test texts ≡ true
text_from test text texts here t = any_from bytes_eq text_itself text_is test text texts here t

-- a text is in the list of it alone
pub alone : (text : List ℕ) → has_text (text ∷ []) text ≡ true
alone text = or_left (bytes_eq text text) false (text_itself text)

pub alone_is : (text other : List ℕ) → has_text (text ∷ []) other ≡ true → other ≡ text
alone_is text other e = go (or_cases (bytes_eq other text) false e)
  where
    go : (bytes_eq other text ≡ true) ⊎ (false ≡ true) → other ≡ text
    go (inl here) = text_is other text here
    go (inr bad) = absurd (both_ways false refl bad)

-- ---- one generator

module _ (generators : List Generator) (set : List Pair) (place : ℕ) (source target : List ℕ) where
  pub makes_parts : makes_at generators set place source target ≡ true → (is_usable_at generators set place ≡ true) × (has_text (sources_at generators place) source ≡ true) × (has_text (targets_at generators place) target ≡ true)
  makes_parts e = go (slice_get generators place) e
    where
      go : (o : Option Generator) → option_map_or (makes set source target) o false ≡ true → (option_map_or (λ (g : Generator). has_all set g.required) o false ≡ true) × (has_text (option_map_or (λ (g : Generator). g.sources) o []) source ≡ true) × (has_text (option_map_or (λ (g : Generator). g.targets) o []) target ≡ true)
      go None e = absurd (both_ways false refl e)
      go (Some g) e =
          let outer = and_parts (has_all set g.required && has_text g.sources source) (has_text g.targets target) e in
          let inner = and_parts (has_all set g.required) (has_text g.sources source) outer.0 in
          (inner.0, inner.1, outer.1)

  pub makes_from : is_usable_at generators set place ≡ true → has_text (sources_at generators place) source ≡ true → has_text (targets_at generators place) target ≡ true → makes_at generators set place source target ≡ true
  makes_from e f h = go (slice_get generators place) e f h
    where
      go : (o : Option Generator) → option_map_or (λ (g : Generator). has_all set g.required) o false ≡ true → has_text (option_map_or (λ (g : Generator). g.sources) o []) source ≡ true → has_text (option_map_or (λ (g : Generator). g.targets) o []) target ≡ true → option_map_or (makes set source target) o false ≡ true
      go None e f h = absurd (both_ways false refl e)
      go (Some g) e f h = and_from (has_all set g.required && has_text g.sources source) (has_text g.targets target) (and_from (has_all set g.required) (has_text g.sources source) e f) h

-- ---- one step nearer to the end

module _ (generators : List Generator) (set : List Pair) (end : List ℕ) where
  -- where no fewer than one more generators lead on, no fewer lead on after one
  pub next_least : (count place : ℕ) (type next : List ℕ) → IsAtLeast generators set end (suc count) type → makes_at generators set place type next ≡ true → IsAtLeast generators set end count next
  next_least count place type next least made other way = let more : suc count ≤ suc (length other) = least (place ∷ other) (next, made, way) in omega arith

  -- a shortest way begins in the layer of its length
  pub first_in_layer : (count place : ℕ) (places layer : List ℕ) (type : List ℕ) → IsLayer generators set end count layer → EndsAt generators set end (place ∷ places) type → length places ≡ count → IsAtLeast generators set end (suc count) type
      → (is_among layer place ≡ true) × (has_text (sources_at generators place) type ≡ true)
  first_in_layer count place places layer type is way size least =
      let parts = makes_parts generators set place type way.0 way.1 in
      (is.all place way.0 (and_from (is_usable_at generators set place) (has_text (targets_at generators place) way.0) parts.0 parts.2) (places, way.2, size) (next_least count place type way.0 least way.1), parts.1)

  -- a type that a generator of a layer takes is one further away
  pub taken_away : (count : ℕ) (layer : List ℕ) (type : List ℕ) → IsLayer generators set end count layer → is_taken_by generators layer type ≡ true → IsAway generators set end (suc count) type
  taken_away count layer type is taken =
      let found = place_found (λ place. has_text (sources_at generators place) type) layer taken in
      let given = is.gives found.0 found.1 in
      let parts = and_parts (is_usable_at generators set found.0) (has_text (targets_at generators found.0) given.0) given.1 in
      let made = makes_from generators set found.0 type given.0 parts.0 found.2 parts.1 in
      (found.0 ∷ given.2.0, (given.0, made, given.2.1), ap suc given.2.2)

  -- a type that is one further away is taken by a generator of the layer
  pub away_taken : (count : ℕ) (layer : List ℕ) (type : List ℕ) → IsLayer generators set end count layer → IsAway generators set end (suc count) type → IsAtLeast generators set end (suc count) type → is_taken_by generators layer type ≡ true
  away_taken count layer type is away least = go away.0 away.1 away.2
    where
      go : (places : List ℕ) → EndsAt generators set end places type → length places ≡ suc count → is_taken_by generators layer type ≡ true
      go [] way size = absurd (omega arith)
      go (place ∷ places) way size =
          let first = first_in_layer count place places layer type is way (omega arith) least in
          place_from (λ p. has_text (sources_at generators p) type) place layer first.0 first.1

  -- a type that is not taken is further away
  pub not_taken : (count : ℕ) (layer : List ℕ) (type : List ℕ) → IsLayer generators set end count layer → IsAtLeast generators set end (suc count) type → is_taken_by generators layer type ≡ false → IsAtLeast generators set end (suc (suc count)) type
  not_taken count layer type is least free places way = go (cases_lt (suc count) (length places))
    where
      go : (suc count < length places) ⊎ (length places ≤ suc count) → suc (suc count) ≤ length places
      go (inl more) = omega arith
      go (inr less) =
          let enough : suc count ≤ length places = least places way in
          absurd (both_ways (is_taken_by generators layer type) free (away_taken count layer type is (places, way, omega arith) least))

  -- where a layer is empty, nothing leads from further away
  pub empty_layer : (count : ℕ) → IsLayer generators set end count [] → (places : List ℕ) (type : List ℕ) → IsAtLeast generators set end (suc count) type → EndsAt generators set end places type → ⊥
  empty_layer count is [] type least way = let bad : suc count ≤ 0 = least [] way in omega arith
  empty_layer count is (place ∷ places) type least way = empty_layer count is places way.0 further way.2
    where
      further : IsAtLeast generators set end (suc count) way.0
      further other on = go (cases_lt count (length other))
        where
          go : (count < length other) ⊎ (length other ≤ count) → suc count ≤ length other
          go (inl more) = omega arith
          go (inr less) =
              let enough : count ≤ length other = next_least count place type way.0 least way.1 other on in
              let first = first_in_layer count place other [] type is (way.0, way.1, on) (omega arith) least in
              absurd (both_ways false refl first.0)

  -- another type than the end is not the end
  pub apart_least : (from : List ℕ) → bytes_eq from end ≡ false → IsAtLeast generators set end 1 from
  apart_least from other [] way = absurd (both_ways (bytes_eq from end) other (subst (λ (t : List ℕ). bytes_eq from t ≡ true) way (text_itself from)))
  apart_least from other (place ∷ places) way = omega arith
