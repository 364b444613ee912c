-- An open main target is found by the place that is kept under its name, also after one is opened or closed.
use Rattle.std.proofs.Common.{arith, ◌≡◌, ◌<◌, ◌≤◌, ◌==◌, ◌||◌, ℕ, Bool, true, false, List, [], ◌∷◌, ◌++◌, Option, Some, None, length, map, reverse, slice_get, refl, sym, ap, ap₂, subst, ◌∙◌, if◌then◌else◌}
use Rattle.std.specs.Option.{option_map_or, option_to_list, unwrap_or}
use Rattle.std.specs.FinMap.{get, insert}
use Rattle.std.proofs.Math.Bool.{or-false}
use Rattle.std.proofs.lemmas.Bool.{eqb-true, eqb-false}
use Rattle.std.proofs.lemmas.Grind.{reverse_onto}
use Rattle.std.proofs.lemmas.List.{append-nil, length-reverse, reverse-append, reverse-reverse}
use Rattle.std.proofs.lemmas.List.Folds.{list_any-append}
use Rattle.std.proofs.lemmas.Option.{none-some}
use Rattle.b2_references.specs.Names.{Name, is_same, is_among}
use Rattle.b2_generate.specs.Machine.{names_of}
use Rattle.b2_generate.specs.Tables.{Table}
use Rattle.b2_generate.specs.Waiting.{AreFound}
use Rattle.b2_generate.specs.declared.frame.Frame.{Frame}
use Rattle.b2_generate.proofs.OlderNodesStay.{slice_last}
use Rattle.b2_generate.proofs.SameNamesAreEqual.{reflexive, turned, same, get_put_name}

-- ---- names

-- what is among some and one more is among them, or is this one
pub one_more : (f : Frame) (below : List Frame) (name : Name) → is_among (names_of (f ∷ below)) name ≡ (is_among (names_of below) name || is_same name f.name)
one_more f below name = list_any-append (is_same name) (names_of below) (f.name ∷ []) ∙ ap (λ (b : Bool). is_among (names_of below) name || b) (or-false (is_same name f.name))

neither : (a b : Bool) → (a || b) ≡ false → (a ≡ false) × (b ≡ false)
neither true b e = cc
neither false b e = (refl, e)

-- what is not among some and the newest is not among these
parted : (f : Frame) (below : List Frame) (name : Name) → is_among (names_of (f ∷ below)) name ≡ false → (is_among (names_of below) name ≡ false) × (is_same name f.name ≡ false)
parted f below name free = neither (is_among (names_of below) name) (is_same name f.name) (sym (one_more f below name) ∙ free)

-- ---- places

abbrev first_of : List (Option ℕ) → Option ℕ
first_of [] = None
first_of (x ∷ rest) = x

abbrev rest_of : List (Option ℕ) → List (Option ℕ)
rest_of [] = []
rest_of (x ∷ rest) = rest

same_place : (k place : ℕ) → Some k ≡ Some place → k ≡ place
same_place k place e = ap (λ (o : Option ℕ). unwrap_or o 0) e

frame_at : (f : Frame) (below : List Frame) (place : ℕ) → slice_get (reverse (f ∷ below)) place ≡ (if place == length below then Some f else slice_get (reverse below) place)
frame_at f below place =
    ap (λ (xs : List Frame). slice_get xs place) (reverse_onto below f [])
    ∙ slice_last (reverse below) f place
    ∙ ap (λ (count : ℕ). if place == count then Some f else slice_get (reverse below) place) (length-reverse below)

module _ (places : Table ℕ) (name : Name) where
  -- a name with another place is not this one's
  apart : (f : Frame) (below : List Frame) → AreFound places (f ∷ below) → (get places name ≡ Some (length below) → ⊥) → is_same name f.name ≡ false
  apart f below e other = go (is_same name f.name) refl
    where
      go : (b : Bool) → is_same name f.name ≡ b → b ≡ false
      go true h = absurd (other (ap (get places) (same name f.name h) ∙ ap first_of e))
      go false h = refl

  -- a name that has the place of none of some is not one of them
  beyond : (fs : List Frame) → AreFound places fs → ((place : ℕ) → place < length fs → get places name ≡ Some place → ⊥) → is_among (names_of fs) name ≡ false
  beyond [] e other = refl
  beyond (f ∷ below) e other =
      one_more f below name
      ∙ ap₂ ◌||◌ (beyond below (ap rest_of e) (λ place less. other place (omega (arith, less)))) (apart f below e (other (length below) (omega arith)))

  past : (fs : List Frame) (place : ℕ) → AreFound places fs → get places name ≡ Some place → length fs ≤ place → is_among (names_of fs) name ≡ false
  past fs place e is far = beyond fs e (λ k less at. omega (arith, less, far, same_place k place (sym at ∙ is)))

  -- a name that has no place is not among them
  pub none_found : (items : List Frame) → AreFound places (reverse items) → get places name ≡ None → false ≡ is_among (names_of (reverse items)) name
  none_found items e none = sym (beyond (reverse items) e (λ k less at. none-some k (sym none ∙ at)))

  abbrev has_name : Option Frame → Bool
  has_name found = option_map_or (λ (f : Frame). is_same name f.name) found false

  found_at : (fs : List Frame) (place : ℕ) → AreFound places fs → get places name ≡ Some place → has_name (slice_get (reverse fs) place) ≡ is_among (names_of fs) name
  found_at [] place e is = refl
  found_at (f ∷ below) place e is = ap has_name (frame_at f below place) ∙ cases (found_at below place (ap rest_of e) is) (place == length below) refl
    where
      cases : has_name (slice_get (reverse below) place) ≡ is_among (names_of below) name → (b : Bool) → (place == length below) ≡ b
          → has_name (if b then Some f else slice_get (reverse below) place) ≡ is_among (names_of (f ∷ below)) name
      cases rest true h =
          sym (one_more f below name ∙ ap (λ (b : Bool). b || is_same name f.name) (past below place (ap rest_of e) is (omega (arith, eqb-true place (length below) h))))
      cases rest false h =
          rest
          ∙ sym (one_more f below name
          ∙ ap (λ (b : Bool). is_among (names_of below) name || b) (apart f below e (λ at. eqb-false place (length below) h (same_place place (length below) (sym is ∙ at))))
          ∙ or-false (is_among (names_of below) name))

-- the one at the place that a name has tells whether that name is among them
pub place_tells : (places : Table ℕ) (name : Name) (items : List Frame) (place : ℕ) → AreFound places (reverse items) → get places name ≡ Some place
    → option_map_or (λ f. is_same name f.name) (slice_get items place) false ≡ is_among (names_of (reverse items)) name
place_tells places name items place e is =
    ap (λ (xs : List Frame). has_name places name (slice_get xs place)) (sym (reverse-reverse items)) ∙ found_at places name (reverse items) place e is

-- ---- one is opened, or closed

others_stay : (places : Table ℕ) (name : Name) (place : ℕ) (fs : List Frame) → is_among (names_of fs) name ≡ false → map (λ f. get (insert places name place) f.name) fs ≡ map (λ f. get places f.name) fs
others_stay places name place [] free = refl
others_stay places name place (f ∷ below) free =
    let two = parted f below name free in
    ap₂ ◌∷◌ (get_put_name places name place f.name ∙ ap (λ (b : Bool). if b then Some place else get places f.name) (turned f.name name ∙ two.1)) (others_stay places name place below two.0)

-- those that wait are found still, where another name gets a place
still_found : (places after : Table ℕ) (newest : Frame) (place : ℕ) (items : List Frame) → AreFound places (reverse items) → is_among (names_of (reverse items)) newest.name ≡ false
    → after ≡ insert places newest.name place → AreFound after (reverse items)
still_found places after newest place items e closed is =
    subst (λ (t : Table ℕ). AreFound t (reverse items)) (sym is) (others_stay places newest.name place (reverse items) closed ∙ e)

-- the newest waits too
newest_found : (places after : Table ℕ) (newest : Frame) (place : ℕ) (items more : List Frame) → AreFound places (reverse items) → is_among (names_of (reverse items)) newest.name ≡ false
    → after ≡ insert places newest.name place → place ≡ length items → more ≡ items ++ newest ∷ [] → AreFound after (reverse more)
newest_found places after newest place items more e closed is at joined =
    subst (λ (fs : List Frame). AreFound after fs) (sym (ap (λ (xs : List Frame). reverse xs) joined ∙ reverse-append items (newest ∷ [])))
    (ap₂ ◌∷◌
    (ap (λ (t : Table ℕ). get t newest.name) is ∙ get_put_name places newest.name place newest.name ∙ ap (λ (b : Bool). if b then Some place else get places newest.name) (reflexive newest.name)
    ∙ ap Some (at ∙ sym (length-reverse items)))
    (still_found places after newest place items e closed is))

-- a further one is none of those that waited already
not_below : (newest : Frame) (items : List Frame) (name : Name) → is_among (names_of (newest ∷ reverse items)) name ≡ false → is_among (names_of (reverse items)) name ≡ false
not_below newest items name free = (parted newest (reverse items) name free).0

-- after the newest was put among those that wait, or there was no room
pub opened_found : (places after : Table ℕ) (newest waiting : Frame) (place : ℕ) (items more : List Frame) (room : Bool) → AreFound places (reverse items) → is_among (names_of (reverse items)) newest.name ≡ false
    → after ≡ insert places newest.name place → place ≡ length items → waiting ≡ newest → more ≡ (if room then items ++ waiting ∷ [] else items) → AreFound after (reverse more)
opened_found places after newest waiting place items more true e closed is at was joined =
    newest_found places after newest place items more e closed is at (joined ∙ ap (λ (f : Frame). items ++ f ∷ []) was)
opened_found places after newest waiting place items more false e closed is at was joined =
    subst (λ (xs : List Frame). AreFound after (reverse xs)) (sym joined) (still_found places after newest place items e closed is)

pub opened_closed : (newest waiting further now : Frame) (items more : List Frame) (room : Bool) → is_among (names_of (newest ∷ reverse items)) further.name ≡ false → waiting ≡ newest → now ≡ further
    → more ≡ (if room then items ++ waiting ∷ [] else items) → is_among (names_of (reverse more)) now.name ≡ false
opened_closed newest waiting further now items more true free was is joined =
    ap₂ (λ (fs : List Frame) (f : Frame). is_among (names_of fs) f.name)
    (ap (λ (xs : List Frame). reverse xs) (joined ∙ ap (λ (f : Frame). items ++ f ∷ []) was) ∙ reverse-append items (newest ∷ [])) is
    ∙ free
opened_closed newest waiting further now items more false free was is joined =
    ap₂ (λ (xs : List Frame) (f : Frame). is_among (names_of (reverse xs)) f.name) joined is ∙ not_below newest items further.name free

module _ (places : Table ℕ) (items rest : List Frame) (g : Frame) (e : AreFound places (reverse items)) (is : items ≡ rest ++ g ∷ []) where
  all_found : AreFound places (g ∷ reverse rest)
  all_found = subst (λ (fs : List Frame). AreFound places fs) (ap (λ (xs : List Frame). reverse xs) is ∙ reverse-append rest (g ∷ [])) e

  -- those below one that waited are found
  pub rest_found : AreFound places (reverse rest)
  rest_found = ap rest_of all_found

  -- and it is none of them
  pub none_twice : is_among (names_of (reverse rest)) g.name ≡ false
  none_twice = past places g.name (reverse rest) (length (reverse rest)) rest_found (ap first_of all_found) (omega arith)

-- so they are after the last one was taken off, or there was none
pub popped_found : (places : Table ℕ) (items rest : List Frame) (out : Option Frame) → AreFound places (reverse items) → items ≡ rest ++ option_to_list out → AreFound places (reverse rest)
popped_found places items rest None e is = subst (λ (xs : List Frame). AreFound places (reverse xs)) (is ∙ append-nil rest) e
popped_found places items rest (Some g) e is = rest_found places items rest g e is

pub popped_closed : (newest : Frame) (items rest : List Frame) (out : Option Frame) → is_among (names_of (reverse items)) newest.name ≡ false → items ≡ rest ++ option_to_list out
    → is_among (names_of (reverse rest)) newest.name ≡ false
popped_closed newest items rest None closed is = ap (λ (xs : List Frame). is_among (names_of (reverse xs)) newest.name) (sym (is ∙ append-nil rest)) ∙ closed
popped_closed newest items rest (Some g) closed is =
    not_below g rest newest.name (ap (λ (fs : List Frame). is_among (names_of fs) newest.name) (sym (ap (λ (xs : List Frame). reverse xs) is ∙ reverse-append rest (g ∷ []))) ∙ closed)
