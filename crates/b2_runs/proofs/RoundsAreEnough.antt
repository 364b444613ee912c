use Rattle.std.proofs.Common.{◌≡◌, ℕ, zero, suc, ◌<◌, ◌≤◌, ◌+◌, max, List, [], ◌∷◌, length, ◌⊎◌, inl, inr, refl, sym, subst, arith, Some, slice_get, Bool, true, false, eqb, ◌||◌, eqb-true}
use Rattle.std.specs.List.{Contains, IsDistinct, list_any, AllByRecursion}
use Rattle.std.proofs.lemmas.Map.Steps.{length-le_from_distinct_below}
use Rattle.std.proofs.lemmas.Option.{slice_get_within}
use Rattle.b2_plan.specs.declared.step.Step.{Step}
use Rattle.b2_plan.specs.Plans.{Apart}
use Rattle.b2_plan.specs.Sources.{Build}
use Rattle.b2_plan.specs.Closures.{Value, IsClosure}
use Rattle.b2_plan.specs.Cleans.{value_of, Val}
use Rattle.b2_runs.specs.CleanLaws.{RoundsAreEnough}
use Rattle.b2_runs.proofs.FirstElementOrLater.{Contains_here, Contains_there, Contains_cases, Contains_nil}
use Rattle.b2_runs.proofs.NumberHasOneStep.{place_of}
use Rattle.b2_runs.proofs.MoreRoundsSayNoLess.{val_is_one, val_up, close_at}

-- the closure of the step at a place is known by n rounds
record At (b : Build) (n place : ℕ) : Type 0 where
  step : Step
  at : slice_get b.steps place ≡ Some step
  members : List (List ℕ × Value)
  closure : IsClosure b (Val b n) step members

-- the same by few rounds, where those of the list are not among them
record Low (b : Build) (tower : List ℕ) (place : ℕ) : Type 0 where
  r : ℕ
  few : r + suc (length tower) ≤ length b.steps
  known : At b r place

-- a step of the list has its closure known by no more than n rounds
record Again (b : Build) (tower : List ℕ) (n : ℕ) : Type 0 where
  k : ℕ
  inside : list_any (eqb k) tower ≡ true
  m : ℕ
  less : m ≤ n
  known : At b m k

abbrev LowValue : Build → List ℕ → List ℕ → Value → Type 0
LowValue b tower path x = (r : ℕ) × (r + suc (length tower) ≤ length b.steps) × Val b r path x

all_low : (b : Build) → Apart b.steps b.roots → (tower : List ℕ) (Z : Type 0) → 0 + suc (length tower) ≤ length b.steps → (members : List (List ℕ × Value))
    → ((path : List ℕ) (x : Value) → Contains members (path, x) → LowValue b tower path x ⊎ Z)
    → ((r : ℕ) × (r + suc (length tower) ≤ length b.steps) × ((path : List ℕ) (x : Value) → Contains members (path, x) → Val b r path x)) ⊎ Z
all_low b apart tower Z room [] each = inl (zero, room, λ path x c. absurd (Contains_nil (path, x) c))
all_low b apart tower Z room (m ∷ ms) each = go (each m.0 m.1 (Contains_here m ms)) (all_low b apart tower Z room ms (λ path x c. each path x (Contains_there m (path, x) ms c)))
  where
    go : LowValue b tower m.0 m.1 ⊎ Z
        → ((r : ℕ) × (r + suc (length tower) ≤ length b.steps) × ((path : List ℕ) (x : Value) → Contains ms (path, x) → Val b r path x)) ⊎ Z
        → ((r : ℕ) × (r + suc (length tower) ≤ length b.steps) × ((path : List ℕ) (x : Value) → Contains (m ∷ ms) (path, x) → Val b r path x)) ⊎ Z
    go (inr a) rest = inr a
    go (inl v) (inr a) = inr a
    go (inl (r, few, v)) (inl (s, few_s, all)) = inl (
      max r s,
      omega arith,
      λ path x c. elim (Contains_cases m (path, x) ms c) [
        | inl e ↦ subst (λ z. Val b (max r s) z.0 z.1) e (val_up b apart r (max r s) (omega arith) m.0 m.1 v)
        | inr d ↦ val_up b apart s (max r s) (omega arith) path x (all path x d)
      ],
    )

-- what is to be shown of closures known by n rounds
abbrev Ranked : Build → ℕ → Type 0
Ranked b n = (tower : List ℕ) → IsDistinct eqb tower → ((q : ℕ) → list_any (eqb q) tower ≡ true → q < length b.steps) → (place : ℕ) → At b n place → Low b tower place ⊎ Again b tower n

value_low : (b : Build) → Apart b.steps b.roots → (n : ℕ) → ((k : ℕ) → k < n → Ranked b k) → (tower : List ℕ) → IsDistinct eqb tower → ((q : ℕ) → list_any (eqb q) tower ≡ true → q < length b.steps)
    → (path : List ℕ) (x : Value) → Val b n path x → ((r : ℕ) × (r + length tower ≤ length b.steps) × Val b r path x) ⊎ ((k : ℕ) × (k < n) × Again b tower k)
value_low b apart zero ih tower distinct within path x s = inl (zero, (let e = length-le_from_distinct_below tower (length b.steps) distinct within in omega arith), s)
value_low b apart (suc n) ih tower distinct within path x (inl s) = inl (zero, (let e = length-le_from_distinct_below tower (length b.steps) distinct within in omega arith), s)
value_low b apart (suc n) ih tower distinct within path x (inr s) =
    let (place, number, at) = place_of b.steps s.number s.step s.makes.at in
    elim (ih n (omega arith) tower distinct within place (record { step = s.step; at = at; members = s.members; closure = s.closure })) [
      | inr a ↦ inr (n, omega arith, a)
      | inl low ↦
          let same : low.known.step ≡ s.step = (let p : slice_get b.steps place ≡ Some low.known.step = low.known.at in let q : slice_get b.steps place ≡ Some s.step = at in cc) in
          let new : Val b (suc low.r) path (value_of b s.step low.known.members path) =
          inr (record { number = s.number; step = s.step; makes = s.makes; members = low.known.members; closure = subst (λ z. IsClosure b (Val b low.r) z low.known.members) same low.known.closure; is = refl }) in
          let top = max (suc low.r) (suc n) in
          let one : value_of b s.step low.known.members path ≡ x = val_is_one b apart top path _ x (val_up b apart (suc low.r) top (omega arith) path _ new) (val_up b apart (suc n) top (omega arith) path x (inr s)) in
          let few = low.few in
          inl (suc low.r, omega arith, subst (Val b (suc low.r) path) one new)
    ]

distinct_cons : (i x : ℕ) (xs : List ℕ) (t : Bool) → eqb i x ≡ t → (t || list_any (eqb i) xs) ≡ false → (list_any (eqb i) xs ≡ false → AllByRecursion (λ y. eqb i y ≡ false) xs) → (eqb i x ≡ false) × AllByRecursion (λ y. eqb i y ≡ false) xs
distinct_cons i x xs true f g rest = absurd (let h : true ≡ false = g in cc)
distinct_cons i x xs false f g rest = (f, rest g)

distinct_more : (i : ℕ) (tower : List ℕ) → list_any (eqb i) tower ≡ false → AllByRecursion (λ y. eqb i y ≡ false) tower
distinct_more i [] e = tt
distinct_more i (x ∷ xs) e = distinct_cons i x xs (eqb i x) refl e (distinct_more i xs)

taller_distinct : (i : ℕ) (tower : List ℕ) → list_any (eqb i) tower ≡ false → IsDistinct eqb tower → IsDistinct eqb (i ∷ tower)
unfolding IsDistinct
taller_distinct i tower e d = (distinct_more i tower e, d)

in_taller : (q i : ℕ) (tower : List ℕ) → list_any (eqb q) (i ∷ tower) ≡ true → (q ≡ i) ⊎ (list_any (eqb q) tower ≡ true)
in_taller q i tower e = go (eqb q i) refl e
  where
    go : (t : Bool) → eqb q i ≡ t → (t || list_any (eqb q) tower) ≡ true → (q ≡ i) ⊎ (list_any (eqb q) tower ≡ true)
    go true f g = inl (eqb-true q i f)
    go false f g = inr g

rank_step : (b : Build) → Apart b.steps b.roots → (n : ℕ) → ((k : ℕ) → k < n → Ranked b k) → Ranked b n
rank_step b apart n ih tower distinct within i known = go (list_any (eqb i) tower) refl
  where
    later : (k : ℕ) → k < n → Low b tower i ⊎ Again b tower k → Low b tower i ⊎ Again b tower n
    later k less (inl low) = inl low
    later k less (inr a) = inr (record { k = a.k; inside = a.inside; m = a.m; less = (let h = a.less in omega arith); known = a.known })

    go : (t : Bool) → list_any (eqb i) tower ≡ t → Low b tower i ⊎ Again b tower n
    go true e = inr (record { k = i; inside = e; m = n; less = omega arith; known = known })
    go false e =
        let more = taller_distinct i tower e distinct in
        let all : (q : ℕ) → list_any (eqb q) (i ∷ tower) ≡ true → q < length b.steps = λ q h. elim (in_taller q i tower h) [
          | inl same ↦ subst (λ j. j < length b.steps) (sym same) (slice_get_within b.steps i known.step known.at)
          | inr old ↦ within q old
        ] in
        let room : suc (length tower) ≤ length b.steps = length-le_from_distinct_below (i ∷ tower) (length b.steps) more all in
        elim (all_low b apart tower (Low b tower i ⊎ Again b tower n) (omega arith) known.members (λ path x c.
        elim (value_low b apart n ih (i ∷ tower) more all path x (known.closure.each path x c).1) [
          | inl low ↦ inl low
          | inr (k, less, a) ↦ inr (elim (in_taller a.k i tower a.inside) [
            | inl same ↦ later a.m (let h = a.less in omega arith) (ih a.m (let h = a.less in omega arith) tower distinct within i (subst (At b a.m) same a.known))
            | inr old ↦ inr (record { k = a.k; inside = old; m = a.m; less = (let h = a.less in omega arith); known = a.known })
          ])
        ])) [
          | inl (r, few, low) ↦ inl (record { r = r; few = few; known = record { step = known.step; at = known.at; members = known.members; closure = close_at b apart n r known.step known.members known.closure low } })
          | inr other ↦ other
        ]

ranked_below : (b : Build) → Apart b.steps b.roots → (bound n : ℕ) → n < bound → Ranked b n
ranked_below b apart zero n h = absurd (omega arith)
ranked_below b apart (suc bound) n h = rank_step b apart n (λ k less. ranked_below b apart bound k (omega arith))

-- as many rounds as there are steps are enough
pub rounds_enough : (b : Build) → Apart b.steps b.roots → (n : ℕ) (path : List ℕ) (x : Value) → Val b n path x → Val b (length b.steps) path x
unfolding IsDistinct
rounds_enough b apart zero path x s = val_up b apart zero (length b.steps) (omega arith) path x s
rounds_enough b apart (suc n) path x s =
    elim (value_low b apart (suc n) (λ k less. ranked_below b apart (suc n) k less) [] tt (λ q h. absurd (let e : false ≡ true = h in cc)) path x s) [
      | inl (r, few, v) ↦ val_up b apart r (length b.steps) (omega arith) path x v
      | inr (k, less, a) ↦ absurd (let e : false ≡ true = a.inside in cc)
    ]

-- more rounds than steps add nothing
pub rounds_are_enough : RoundsAreEnough
rounds_are_enough b rounds path value apart h = (rounds_enough b apart rounds path value, val_up b apart (length b.steps) rounds h path value)
