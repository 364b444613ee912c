-- The acts at the places of a set, in a loop over the set.
use Rattle.std.proofs.Common.{◌≡◌, ℕ, ◌+◌, ◌<◌, ◌≤◌, true, false, cond, not, List, [], ◌∷◌, ◌++◌, length, get_or, take, drop, map, Option, Some, None, refl, sym, ap, ◌∙◌, arith}
use Rattle.std.specs.Prelude.{slice_get}
use Rattle.std.specs.List.{find, flat_map, cons_option}
use Rattle.std.specs.Option.{option_map, option_map_or}
use Rattle.std.proofs.lemmas.List.{flat_map_more, at_drop_more, at_drop_all, take-append-drop}
use Rattle.std.proofs.lemmas.Option.{same_Some, slice_get-get_or, get_or_from_slice_get}
use Rattle.jam_journal.specs.Tables.{Text}
use Rattle.jam_scope.specs.Worlds.{World}
use Rattle.jam_graph.specs.declared.graph.Act.{Act}
use Rattle.jam_graph.proofs.ListsGrow.{taken, filter_on}
use Rattle.jam_engine.specs.Acts.{acts_at, is_quiet_in}
use Rattle.jam_engine.specs.Spreading.{seconds_at}
use Rattle.jam_engine.specs.Stepping.{name_in}

pub acts_both : (all : List Act) (xs ys : List ℕ) → acts_at all (xs ++ ys) ≡ acts_at all xs ++ acts_at all ys
acts_both all [] ys = refl
acts_both all (p ∷ xs) ys = go (slice_get all p) (acts_both all xs ys)
  where
    go : (o : Option Act) → acts_at all (xs ++ ys) ≡ acts_at all xs ++ acts_at all ys
        → option_map_or (λ (a : Act). a ∷ acts_at all (xs ++ ys)) o (acts_at all (xs ++ ys)) ≡ option_map_or (λ (a : Act). a ∷ acts_at all xs) o (acts_at all xs) ++ acts_at all ys
    go None e = e
    go (Some a) e = ap (λ (l : List Act). a ∷ l) e

-- what is read at a place is what a look-up finds there
pub read_at : {X : Type 0} (xs : List X) (p : ℕ) (x : X) → p < length xs → x ≡ get_or xs p x → slice_get xs p ≡ Some x
read_at xs p x low is = slice_get-get_or xs p x low ∙ ap (λ y. let o : Option _ = Some y in o) (sym is)

-- what is read twice at a place is one
pub same_item : {X : Type 0} (xs : List X) (p : ℕ) (x y : X) → p < length xs → x ≡ get_or xs p x → y ≡ get_or xs p y → x ≡ y
same_item xs p x y low one other = same_Some x y (sym (read_at xs p x low one) ∙ read_at xs p y low other)

-- a list that is not empty begins with its first element
pub head_is : {X : Type 0} (xs : List X) (x : X) → 1 ≤ length xs → x ≡ get_or xs 0 x → xs ≡ x ∷ drop 1 xs
head_is [] x low is = absurd (omega (arith, low))
head_is (y ∷ xs) x low is = ap (λ z. z ∷ xs) (sym is)

-- what stands where nothing else is read does not matter
pub same_read : {X : Type 0} (xs : List X) (i : ℕ) (x d : X) → i < length xs → x ≡ get_or xs i d → x ≡ get_or xs i x
same_read xs i x d low is = is ∙ get_or_from_slice_get xs i (get_or xs i x) d (slice_get-get_or xs i x low)

acts_one : (all : List Act) (p : ℕ) (more : List ℕ) (a : Act) → p < length all → a ≡ get_or all p a → acts_at all (p ∷ more) ≡ a ∷ acts_at all more
acts_one all p more a low is = ap (λ (o : Option Act). option_map_or (λ (b : Act). b ∷ acts_at all more) o (acts_at all more)) (read_at all p a low is)

module _ (all : List Act) (set : List ℕ) (i p : ℕ) (a : Act) (low : i < length set) (place_is : p ≡ get_or set i 0) (within : p < length all) (is : a ≡ get_or all p a) where
  place_read : p ≡ get_or set i p
  place_read = same_read set i p 0 low place_is

  pub acts_taken : acts_at all (take i set) ++ a ∷ [] ≡ acts_at all (take (i + 1) set)
  acts_taken =
      ap (λ (l : List Act). acts_at all (take i set) ++ l) (sym (acts_one all p [] a within is))
      ∙ sym (acts_both all (take i set) (p ∷ [])) ∙ ap (acts_at all) (taken set i p low place_read)

  pub acts_dropped : acts_at all (drop i set) ≡ a ∷ acts_at all (drop (i + 1) set)
  acts_dropped = at_drop_more (acts_at all) set i p low ∙ ap (λ (q : ℕ). acts_at all (q ∷ drop (i + 1) set)) (sym place_read) ∙ acts_one all p (drop (i + 1) set) a within is

  -- the acts before, this one, and those behind it
  pub acts_whole : acts_at all (take i set) ++ a ∷ acts_at all (drop (i + 1) set) ≡ acts_at all set
  acts_whole =
      ap (λ (l : List Act). acts_at all (take i set) ++ l) (sym acts_dropped) ∙ sym (acts_both all (take i set) (drop i set)) ∙ ap (acts_at all) (take-append-drop i set)

  -- what each act gives, in order
  pub flat_acts : (f : Act → List Text) (now next : List Text) → now ≡ flat_map f (acts_at all (take i set)) → next ≡ now ++ f a → next ≡ flat_map f (acts_at all (take (i + 1) set))
  flat_acts f now next was adds = adds ∙ ap (λ (l : List Text). l ++ f a) was ∙ flat_map_more f [] (acts_at all (take i set)) a ∙ ap (flat_map f) acts_taken

  -- ---- the first act that is not quiet

  module _ (w : World) (before : find (λ b. not (is_quiet_in w b)) (acts_at all (drop i set)) ≡ find (λ b. not (is_quiet_in w b)) (acts_at all set)) where
    first_here : find (λ b. not (is_quiet_in w b)) (acts_at all (drop i set)) ≡ cond (not (is_quiet_in w a)) (Some a) (find (λ b. not (is_quiet_in w b)) (acts_at all (drop (i + 1) set)))
    first_here = ap (find (λ b. not (is_quiet_in w b))) acts_dropped

    pub name_found : (copied : Text) → is_quiet_in w a ≡ false → copied ≡ a.name → copied ≡ name_in w (acts_at all set)
    name_found copied loud copied_is =
        copied_is
        ∙ ap (λ (o : Option Act). option_map_or (λ (b : Act). b.name) o []) (
        sym (ap (λ b. cond (not b) (Some a) (find (λ c. not (is_quiet_in w c)) (acts_at all (drop (i + 1) set)))) loud) ∙ sym first_here ∙ before)

    pub name_later : is_quiet_in w a ≡ true → find (λ b. not (is_quiet_in w b)) (acts_at all (drop (i + 1) set)) ≡ find (λ b. not (is_quiet_in w b)) (acts_at all set)
    name_later quiet = sym (ap (λ b. cond (not b) (Some a) (find (λ c. not (is_quiet_in w c)) (acts_at all (drop (i + 1) set)))) quiet) ∙ sym first_here ∙ before

-- all acts are quiet
pub name_none : (all : List Act) (set : List ℕ) (i : ℕ) (w : World) (made : Text) → length set ≤ i → find (λ b. not (is_quiet_in w b)) (acts_at all (drop i set)) ≡ find (λ b. not (is_quiet_in w b)) (acts_at all set)
    → made ≡ [] → made ≡ name_in w (acts_at all set)
name_none all set i w made past before made_is =
    made_is
    ∙ ap (λ (o : Option Act). option_map_or (λ (b : Act). b.name) o []) (sym (at_drop_all (λ (l : List ℕ). find (λ b. not (is_quiet_in w b)) (acts_at all l)) set i past) ∙ before)

-- ---- pairs at places

pub seconds_step : (start now next : List Text) (pairs : List (Text × Text)) (places : List ℕ) (i p : ℕ) (pair : Text × Text) → i < length places → p ≡ get_or places i 0 → p < length pairs → pair ≡ get_or pairs p pair
    → now ≡ start ++ seconds_at pairs (take i places) → next ≡ now ++ pair.1 ∷ [] → next ≡ start ++ seconds_at pairs (take (i + 1) places)
seconds_step start now next pairs places i p pair low place_is within is was adds =
    filter_on (λ q. option_map (λ (one : Text × Text). one.1) (slice_get pairs q)) start now next places i p low (same_read places i p 0 low place_is) was
    (adds ∙ ap (λ (l : List Text). now ++ l) (sym (ap (λ (o : Option (Text × Text)). cons_option (option_map (λ (one : Text × Text). one.1) o) []) (read_at pairs p pair within is))))

-- ---- what each element of a list gives

map_both : {X Y : Type 0} (f : X → Y) (xs ys : List X) → map f (xs ++ ys) ≡ map f xs ++ map f ys
map_both f [] ys = refl
map_both f (x ∷ xs) ys = ap (λ l. f x ∷ l) (map_both f xs ys)

module _ {X Y : Type 0} (f : X → Y) (xs : List X) (i : ℕ) (x : X) (low : i < length xs) (is : x ≡ get_or xs i x) where
  pub map_taken : map f (take i xs) ++ f x ∷ [] ≡ map f (take (i + 1) xs)
  map_taken = sym (map_both f (take i xs) (x ∷ [])) ∙ ap (map f) (taken xs i x low is)

  pub map_whole : map f (take i xs) ++ f x ∷ map f (drop (i + 1) xs) ≡ map f xs
  map_whole =
      ap (λ (l : List Y). map f (take i xs) ++ l) (sym (at_drop_more (map f) xs i x low ∙ ap (λ (y : X). f y ∷ map f (drop (i + 1) xs)) (sym is))) ∙ sym (map_both f (take i xs) (drop i xs)) ∙ ap (map f) (take-append-drop i xs)
