-- Nodes stay what they are when further ones come, and when their main targets were generated first.
use Rattle.std.proofs.Common.{arith, ◌≡◌, ◌≤◌, ◌<◌, ◌==◌, Bool, true, false, ◌||◌, ℕ, zero, suc, List, [], ◌∷◌, ◌++◌, Option, Some, None, length, map, reverse, slice_get, get_or, refl, sym, ap, subst, true≢false, ◌∙◌, if◌then◌else◌}
use Rattle.std.specs.List.{AllByRecursion}
use Rattle.std.specs.Prelude.{option_map}
use Rattle.std.specs.Option.{option_or}
use Rattle.std.proofs.lemmas.Bool.{eqb-true, eqb-false, eq-eqb}
use Rattle.std.proofs.lemmas.Grind.{reverse_onto}
use Rattle.std.proofs.lemmas.List.{length-reverse, reverse-reverse}
use Rattle.std.proofs.lemmas.Option.{slice_get-get_or}
use Rattle.std.proofs.Math.Dec.{eqb-suc-zero, eqb-zero-suc, eqb-suc-suc}
use Rattle.b2_references.specs.Names.{Name, is_among, is_same}
use Rattle.b2_generate.specs.Answers.{Generated, Row}
use Rattle.b2_generate.specs.Laws.{AreClosed}
use Rattle.b2_generate.specs.declared.node.Node.{Node}
use Rattle.b2_generate.specs.Nodes.{entry_in, given_by, node_in, first_in, IsEarly, AreEarly, AreDated, IsFrom, AreLate}

-- ---- places

other_place : (place count : ℕ) → place < count → (place == count) ≡ false
other_place place count less = cases (place == count) refl
  where
    cases : (b : Bool) → (place == count) ≡ b → (place == count) ≡ false
    cases true e = absurd (omega (arith, less, eqb-true place count e))
    cases false e = e

same_place : (count : ℕ) → (count == count) ≡ true
same_place count = eq-eqb count count refl

-- an older node stays
pub entry_older : (n : Node) (older : List Node) (place : ℕ) → place < length older → entry_in (n ∷ older) place ≡ entry_in older place
entry_older n older place less =
    ap (λ (b : Bool). if b then (n.name, given_by older n) else entry_in older place) (other_place place (length older) less)

pub entry_newest : (n : Node) (older : List Node) → entry_in (n ∷ older) (length older) ≡ (n.name, given_by older n)
entry_newest n older = ap (λ (b : Bool). if b then (n.name, given_by older n) else entry_in older (length older)) (same_place (length older))

pub entries_older : (n : Node) (older : List Node) (places : List ℕ) → AllByRecursion (λ place. place < length older) places → map (entry_in (n ∷ older)) places ≡ map (entry_in older) places
entries_older n older [] less = refl
entries_older n older (place ∷ more) (less, others) = λ i. entry_older n older place less i ∷ entries_older n older more others i

pub places_stay : (count : ℕ) (places : List ℕ) → AllByRecursion (λ place. place < count) places → AllByRecursion (λ place. place < suc count) places
places_stay count [] less = record {}
places_stay count (place ∷ more) (less, others) = (omega (arith, less), places_stay count more others)

-- what the node at a place gives
pub record IsEntry (nodes : List Node) (place : ℕ) (n : Node) : Type 0 where
  pub name : (entry_in nodes place).0 ≡ n.name
  pub supply : (entry_in nodes place).1.supply ≡ n.supply
  pub usage : (entry_in nodes place).1.usage ≡ n.usage

unsome : (a b : Node) → Some a ≡ Some b → a ≡ b
unsome a b e = cc

entry_step : (m : Node) (older : List Node) (place : ℕ) (n : Node) → (node_in older place ≡ Some n → IsEntry older place n)
    → (b : Bool) → (place == length older) ≡ b → (if b then Some m else node_in older place) ≡ Some n → IsEntry (m ∷ older) place n
entry_step m older place n below true h e =
    let alike : m ≡ n = unsome m n e in
    let is : entry_in (m ∷ older) place ≡ (m.name, given_by older m) = ap (λ (b : Bool). if b then (m.name, given_by older m) else entry_in older place) h in
    record { name = ap (λ p. p.0) is ∙ ap (λ k. k.name) alike; supply = ap (λ p. p.1.supply) is ∙ ap (λ k. k.supply) alike; usage = ap (λ p. p.1.usage) is ∙ ap (λ k. k.usage) alike }
entry_step m older place n below false h e =
    let found = below e in
    let is : entry_in (m ∷ older) place ≡ entry_in older place = ap (λ (b : Bool). if b then (m.name, given_by older m) else entry_in older place) h in
    record { name = ap (λ p. p.0) is ∙ found.name; supply = ap (λ p. p.1.supply) is ∙ found.supply; usage = ap (λ p. p.1.usage) is ∙ found.usage }

pub entry_is : (nodes : List Node) (place : ℕ) (n : Node) → node_in nodes place ≡ Some n → IsEntry nodes place n
entry_is [] place n e = cc
entry_is (m ∷ older) place n e = entry_step m older place n (entry_is older place n) (place == length older) refl e

-- one more element at the end
pub slice_last : {X : Type 0} (xs : List X) (n : X) (place : ℕ) → slice_get (xs ++ n ∷ []) place ≡ (if place == length xs then Some n else slice_get xs place)
slice_last [] n zero = refl
slice_last [] n (suc place) = sym (ap (λ (b : Bool). if b then Some n else None) (eqb-suc-zero place))
slice_last (x ∷ xs) n zero = sym (ap (λ (b : Bool). if b then Some n else Some x) (eqb-zero-suc (length xs)))
slice_last (x ∷ xs) n (suc place) =
    slice_last xs n place ∙ sym (ap (λ (b : Bool). if b then Some n else slice_get xs place) (eqb-suc-suc place (length xs)))

-- the nodes of the code are in order
pub node_at : (nodes : List Node) (place : ℕ) → slice_get (reverse nodes) place ≡ node_in nodes place
node_at [] place = refl
node_at (n ∷ older) place =
    ap (λ xs. slice_get xs place) (reverse_onto older n [])
    ∙ slice_last (reverse older) n place
    ∙ ap (λ (count : ℕ). if place == count then Some n else slice_get (reverse older) place) (length-reverse older)
    ∙ ap (λ o. if place == length older then Some n else o) (node_at older place)

below_count : (place count : ℕ) → place < suc count → (place == count) ≡ false → place < count
below_count place count less e = omega (arith, less, eqb-false place count e)

-- what the node at a place supplies
pub supply_at : (nodes : List Node) (place : ℕ) → place < length nodes → option_map (λ (n : Node). n.supply) (node_in nodes place) ≡ Some (entry_in nodes place).1.supply
supply_at [] place less = absurd (omega (arith, less))
supply_at (m ∷ older) place less = cases (supply_at older place) (place == length older) refl
  where
    cases : (place < length older → option_map (λ (n : Node). n.supply) (node_in older place) ≡ Some (entry_in older place).1.supply) → (b : Bool) → (place == length older) ≡ b
        → option_map (λ (n : Node). n.supply) (if b then Some m else node_in older place) ≡ Some (if b then (m.name, given_by older m) else entry_in older place).1.supply
    cases older_one true e = refl
    cases older_one false e = older_one (below_count place (length older) less e)

-- the node at a place is there
pub there_at : (nodes : List Node) (place : ℕ) → place < length nodes → (n : Node) × (node_in nodes place ≡ Some n)
there_at [] place less = absurd (omega (arith, less))
there_at (m ∷ older) place less = cases (there_at older place) (place == length older) refl
  where
    cases : (place < length older → (n : Node) × (node_in older place ≡ Some n)) → (b : Bool) → (place == length older) ≡ b → (n : Node) × ((if b then Some m else node_in older place) ≡ Some n)
    cases older_one true e = (m, refl)
    cases older_one false e = older_one (below_count place (length older) less e)

-- a node of the code is the one at its place
pub node_there : (listed : List Node) (place : ℕ) (n : Node) → place < length listed → n ≡ get_or listed place n → node_in (reverse listed) place ≡ Some n
node_there listed place n less is =
    sym (node_at (reverse listed) place) ∙ ap (λ xs. slice_get xs place) (reverse-reverse listed) ∙ slice_get-get_or listed place n less ∙ ap Some (sym is)

-- ---- when main targets were generated first

pub first_stays : (n : Node) (older : List Node) (name : Name) (place : ℕ) → first_in older name ≡ Some place → first_in (n ∷ older) name ≡ Some place
first_stays n older name place e = ap (λ (o : Option ℕ). option_or o (if is_same name n.name then Some (length older) else None)) e

pub early_stays : (n : Node) (older : List Node) (latest : ℕ) (rows : List Row) → AreEarly older latest rows → AreEarly (n ∷ older) latest rows
early_stays n older latest [] early = record {}
early_stays n older latest (row ∷ more) (first, others) =
    (record { place = first.place; first = first_stays n older row.name first.place first.first; early = first.early }, early_stays n older latest more others)

pub early_more : (nodes : List Node) (latest later : ℕ) (rows : List Row) → latest ≤ later → AreEarly nodes latest rows → AreEarly nodes later rows
early_more nodes latest later [] less early = record {}
early_more nodes latest later (row ∷ more) less (first, others) =
    (record { place = first.place; first = first.first; early = omega (arith, less, first.early) }, early_more nodes latest later more less others)

pub early_both : (nodes : List Node) (latest : ℕ) (xs ys : List Row) → AreEarly nodes latest xs → AreEarly nodes latest ys → AreEarly nodes latest (xs ++ ys)
early_both nodes latest [] ys early others = others
early_both nodes latest (x ∷ xs) ys (first, more) others = (first, early_both nodes latest xs ys more others)

dated_step : (m : Node) (older : List Node) (place : ℕ) (n : Node) → AreDated (m ∷ older) → (node_in older place ≡ Some n → AreEarly older n.latest (entry_in older place).1.rows)
    → (b : Bool) → (place == length older) ≡ b → (if b then Some m else node_in older place) ≡ Some n → AreEarly (m ∷ older) n.latest (entry_in (m ∷ older) place).1.rows
dated_step m older place n (own, before) below true h e =
    let alike : m ≡ n = unsome m n e in
    let is : entry_in (m ∷ older) place ≡ (m.name, given_by older m) = ap (λ (b : Bool). if b then (m.name, given_by older m) else entry_in older place) h in
    subst (λ (k : Node). AreEarly (m ∷ older) k.latest (entry_in (m ∷ older) place).1.rows) alike
    (subst (λ (p : Name × Generated). AreEarly (m ∷ older) m.latest p.1.rows) (sym is) own)
dated_step m older place n (own, before) below false h e =
    let is : entry_in (m ∷ older) place ≡ entry_in older place = ap (λ (b : Bool). if b then (m.name, given_by older m) else entry_in older place) h in
    subst (λ (p : Name × Generated). AreEarly (m ∷ older) n.latest p.1.rows) (sym is)
    (early_stays m older n.latest (entry_in older place).1.rows (below e))

pub dated_at : (nodes : List Node) (place : ℕ) (n : Node) → AreDated nodes → node_in nodes place ≡ Some n → AreEarly nodes n.latest (entry_in nodes place).1.rows
dated_at [] place n dated e = cc
dated_at (m ∷ older) place n dated e = dated_step m older place n dated (dated_at older place n dated.1) (place == length older) refl e

-- a main target that was not among those of a list is not of a node that comes for another one
late_one : (before : Option ℕ) (bound count : ℕ) (same : Bool) → IsFrom bound before → same ≡ false → IsFrom bound (option_or before (if same then Some count else None))
late_one None bound count true late e = absurd (true≢false e)
late_one None bound count false late e = record {}
late_one (Some place) bound count same late e = late

other_name : (a b : Bool) → (a || b) ≡ false → a ≡ false
other_name true b e = cc
other_name false b e = refl

other_names : (a b : Bool) → (a || b) ≡ false → b ≡ false
other_names true b e = cc
other_names false b e = e

module _ (turned : (a b : Name) → is_same a b ≡ is_same b a) where
  pub late_stays : (n : Node) (older : List Node) (bound : ℕ) (names : List Name) → AreLate older bound names → is_among names n.name ≡ false → AreLate (n ∷ older) bound names
  late_stays n older bound [] late new = record {}
  late_stays n older bound (name ∷ more) (first, others) new = (
    late_one (first_in older name) bound (length older) (is_same name n.name) first (turned name n.name ∙ other_name (is_same n.name name) (is_among more n.name) new),
    late_stays n older bound more others (other_names (is_same n.name name) (is_among more n.name) new),
  )

late_lower : (before : Option ℕ) (bound lower : ℕ) → lower ≤ bound → IsFrom bound before → IsFrom lower before
late_lower None bound lower less late = record {}
late_lower (Some place) bound lower less late = omega (arith, less, late)

pub late_less : (nodes : List Node) (bound lower : ℕ) (names : List Name) → lower ≤ bound → AreLate nodes bound names → AreLate nodes lower names
late_less nodes bound lower [] less late = record {}
late_less nodes bound lower (name ∷ more) less (first, others) = (late_lower (first_in nodes name) bound lower less first, late_less nodes bound lower more less others)

pub late_both : (nodes : List Node) (bound : ℕ) (xs ys : List Name) → AreLate nodes bound xs → AreLate nodes bound ys → AreLate nodes bound (xs ++ ys)
late_both nodes bound [] ys late others = others
late_both nodes bound (x ∷ xs) ys (first, more) others = (first, late_both nodes bound xs ys more others)

-- ---- what was generated with none of the open targets

module _ (same : (a b : Name) → is_same a b ≡ true → a ≡ b) where
  apart : (nodes : List Node) (latest earliest : ℕ) (row : Row) (name : Name) → latest < earliest → IsEarly nodes latest row → IsFrom earliest (first_in nodes name) → is_same row.name name ≡ false
  apart nodes latest earliest row name less early late = cases (is_same row.name name) refl
    where
      cases : (b : Bool) → is_same row.name name ≡ b → is_same row.name name ≡ false
      cases false e = e
      cases true e =
          let first : first_in nodes name ≡ Some early.place = subst (λ (m : Name). first_in nodes m ≡ Some early.place) (same row.name name e) early.first in
          let here : earliest ≤ early.place = subst (IsFrom earliest) first late in
          absurd (omega (arith, less, early.early, here))

  none_among : (nodes : List Node) (latest earliest : ℕ) (row : Row) (names : List Name) → latest < earliest → IsEarly nodes latest row → AreLate nodes earliest names → is_among names row.name ≡ false
  none_among nodes latest earliest row [] less early late = refl
  none_among nodes latest earliest row (name ∷ more) less early (first, others) =
      ap (λ (b : Bool). b || is_among more row.name) (apart nodes latest earliest row name less early first) ∙ none_among nodes latest earliest row more less early others

  pub closed_by_dates : (nodes : List Node) (latest earliest : ℕ) (rows : List Row) (names : List Name) → latest < earliest → AreEarly nodes latest rows → AreLate nodes earliest names → AreClosed names rows
  closed_by_dates nodes latest earliest [] names less early late = record {}
  closed_by_dates nodes latest earliest (row ∷ more) names less (first, others) late =
      (none_among nodes latest earliest row names less first late, closed_by_dates nodes latest earliest more names less others late)
