-- Look-ups, searches and places in lists give one result, also over mapped entries; a tool box for tables of features.
use Rattle.std.proofs.Common.{◌≡◌, ℕ, ◌+◌, ◌≤◌, Bool, true, false, cond, not, nat_lt, List, [], ◌∷◌, ◌++◌, map, length, position, slice_get, suc, Option, Some, None, refl, sym, ◌∙◌, ap, ap₂, arith}
use Rattle.std.specs.Borrow.{Bor}
use Rattle.std.specs.Option.{option_map, option_copied, option_or}
use Rattle.std.specs.List.{find, position_or_len}
use Rattle.std.specs.Map.{lookup, set_value}
use Rattle.std.proofs.lemmas.List.{length-map}
use Rattle.std.proofs.lemmas.List.Folds.{find_at}
use Rattle.std.proofs.lemmas.Bool.Decides.{nat_tests}
use Rattle.std.proofs.lemmas.Option.{slice_get_past}

-- a look-up over entries whose keys are mapped
pub lookup-map_keys : {K L X : Type 0} (f : K → L) (test : L → Bool) (es : List (K × X)) → lookup test (map (λ e. (f e.0, e.1)) es) ≡ lookup (λ k. test (f k)) es
lookup-map_keys f test [] = refl
lookup-map_keys f test (e ∷ es) = ap (cond (test (f e.0)) (Some e.1)) (lookup-map_keys f test es)

-- a value, mapped, where there is one
pub option_map-cond : {X Y : Type 0} (f : X → Y) (b : Bool) (x : X) (o : Option X) → option_map f (cond b (Some x) o) ≡ cond b (Some (f x)) (option_map f o)
option_map-cond f true x o = refl
option_map-cond f false x o = refl

place_or_len-map : {X Y : Type 0} (p : Y → Bool) (f : X → Y) (xs : List X) → position_or_len p (map f xs) ≡ position_or_len (λ x. p (f x)) xs
place_or_len-map p f [] = refl
place_or_len-map p f (x ∷ xs) = ap (λ (n : ℕ). cond (not (p (f x))) (1 + n) 0) (place_or_len-map p f xs)

-- a place among mapped elements
pub position-map : {X Y : Type 0} (p : Y → Bool) (f : X → Y) (xs : List X) → position p (map f xs) ≡ position (λ x. p (f x)) xs
position-map p f xs = ap₂ (λ (n l : ℕ). cond (nat_lt n l) (Some n) None) (place_or_len-map p f xs) (length-map xs f)

-- the element at the place that a search gives is the one that it finds
pub find-at_position : {X : Type 0} (p : X → Bool) (xs : List X) (i : ℕ) → position p xs ≡ Some i → find p xs ≡ slice_get xs i
find-at_position {X} p xs i e = find_at p xs ∙ ap (slice_get xs) (go (nat_lt (position_or_len p xs) (length xs)) e)
  where
    go : (b : Bool) → cond b (Some (position_or_len p xs)) None ≡ Some i → position_or_len p xs ≡ i
    go true e = cc
    go false e = cc

-- where a search gives no place there is nothing to find
pub find-none : {X : Type 0} (p : X → Bool) (xs : List X) → position p xs ≡ None → find p xs ≡ None
find-none {X} p xs e = find_at p xs ∙ slice_get_past xs (position_or_len p xs) (go (nat_lt (position_or_len p xs) (length xs)) refl e)
  where
    go : (b : Bool) → nat_lt (position_or_len p xs) (length xs) ≡ b → cond b (Some (position_or_len p xs)) None ≡ None → length xs ≤ position_or_len p xs
    go true t e = cc
    go false t e = grind (arith, t)

-- a search among mapped entries
pub lookup-map : {K X Y : Type 0} (g : X → Y) (test : K → Bool) (es : List (K × X)) → lookup test (map (λ e. (e.0, g e.1)) es) ≡ option_map (λ e. g e.1) (find (λ e. test e.0) es)
lookup-map g test [] = refl
lookup-map g test (e ∷ es) = ap (cond (test e.0) (Some (g e.1))) (lookup-map g test es) ∙ sym (option_map-cond (λ e. g e.1) (test e.0) e (find (λ e. test e.0) es))

-- the same of a found reference
pub lookup-found : {K X Y : Type 0} (g : X → Y) (test : K → Bool) (es : List (K × X)) (r : Option (Bor (K × X))) → option_copied r ≡ find (λ e. test e.0) es → option_map (λ b. g b.now.1) r ≡ lookup test (map (λ e. (e.0, g e.1)) es)
lookup-found g test es None h = ap (option_map (λ e. g e.1)) h ∙ sym (lookup-map g test es)
lookup-found g test es (Some b) h = ap (option_map (λ e. g e.1)) h ∙ sym (lookup-map g test es)

-- a place, by the first element
position-cons : {X : Type 0} (p : X → Bool) (x : X) (xs : List X) → position p (x ∷ xs) ≡ cond (p x) (Some 0) (option_map (λ n. suc n) (position p xs))
position-cons {X} p x xs = go (p x) (position_or_len p xs) (length xs)
  where
    shifted : (n l : ℕ) → nat_lt (1 + n) (suc l) ≡ nat_lt n l
    shifted n l = grind (arith, nat_tests)

    first : (l : ℕ) → nat_lt 0 (suc l) ≡ true
    first l = grind (arith, nat_tests)

    some_at : (b : Bool) (n m : ℕ) → m ≡ suc n → cond b (Some m) None ≡ option_map (λ k. suc k) (cond b (Some n) None)
    some_at true n m e = ap (λ k. Some k) e
    some_at false n m e = refl

    go : (b : Bool) (n l : ℕ) → cond (nat_lt (cond (not b) (1 + n) 0) (suc l)) (Some (cond (not b) (1 + n) 0)) None ≡ cond b (Some 0) (option_map (λ k. suc k) (cond (nat_lt n l) (Some n) None))
    go true n l = ap (λ t. cond t (Some 0) None) (first l)
    go false n l = ap (λ t. cond t (Some (1 + n)) None) (shifted n l) ∙ some_at (nat_lt n l) n (1 + n) (omega arith)

-- one more element at the end
pub position-push : {X : Type 0} (p : X → Bool) (xs : List X) (y : X) → position p (xs ++ y ∷ []) ≡ option_or (position p xs) (cond (p y) (Some (length xs)) None)
position-push p [] y = position-cons p y []
position-push {X} p (x ∷ xs) y =
    position-cons p x (xs ++ y ∷ []) ∙ ap (λ o. cond (p x) (Some 0) (option_map (λ n. suc n) o)) (position-push p xs y)
    ∙ go (p x) (p y) (position p xs) ∙ ap (λ o. option_or o (cond (p y) (Some (suc (length xs))) None)) (sym (position-cons p x xs))
  where
    go : (first last : Bool) (o : Option ℕ) → cond first (Some 0) (option_map (λ n. suc n) (option_or o (cond last (Some (length xs)) None))) ≡ option_or (cond first (Some 0) (option_map (λ n. suc n) o)) (cond last (Some (suc (length xs))) None)
    go true last o = refl
    go false last (Some n) = refl
    go false true None = refl
    go false false None = refl

-- a search that finds nothing gives no place
pub position-none : {X : Type 0} (p : X → Bool) (xs : List X) → find p xs ≡ None → position p xs ≡ None
position-none p [] none = refl
position-none {X} p (x ∷ xs) none = position-cons p x xs ∙ go (p x) none (position-none p xs)
  where
    go : (b : Bool) → cond b (Some x) (find p xs) ≡ None → (find p xs ≡ None → position p xs ≡ None) → cond b (Some 0) (option_map (λ n. suc n) (position p xs)) ≡ None
    go true at more = cc
    go false at more = ap (option_map (λ n. suc n)) (more at)

-- ---- a value that takes the place of another

-- what the other values show stays
pub values-set_value : {K X Y : Type 0} (G : X → Y) (test : K → Bool) (es : List (K × X)) (f w : X) → lookup test es ≡ Some f → G w ≡ G f → map (λ e. G e.1) (set_value test es w) ≡ map (λ e. G e.1) es
values-set_value G test [] f w found same = refl
values-set_value {K} {X} {Y} G test (e ∷ es) f w found same = go (test e.0) found (values-set_value G test es f w)
  where
    go : (b : Bool) → cond b (Some e.1) (lookup test es) ≡ Some f → (lookup test es ≡ Some f → G w ≡ G f → map (λ e'. G e'.1) (set_value test es w) ≡ map (λ e'. G e'.1) es)
        → map (λ e'. G e'.1) (cond b ((e.0, w) ∷ es) (e ∷ set_value test es w)) ≡ G e.1 ∷ map (λ e'. G e'.1) es
    go true at more = let here : e.1 ≡ f = cc in ap (λ y. y ∷ map (λ e'. G e'.1) es) (same ∙ ap G (sym here))
    go false at more = ap (λ ys. G e.1 ∷ ys) (more at same)

-- the keys stay
pub keys-set_value : {K X Y : Type 0} (H : K → Y) (test : K → Bool) (es : List (K × X)) (w : X) → map (λ e. H e.0) (set_value test es w) ≡ map (λ e. H e.0) es
keys-set_value H test [] w = refl
keys-set_value {K} {X} {Y} H test (e ∷ es) w = go (test e.0) (keys-set_value H test es w)
  where
    go : (b : Bool) → map (λ e'. H e'.0) (set_value test es w) ≡ map (λ e'. H e'.0) es → map (λ e'. H e'.0) (cond b ((e.0, w) ∷ es) (e ∷ set_value test es w)) ≡ H e.0 ∷ map (λ e'. H e'.0) es
    go true more = refl
    go false more = ap (λ ys. H e.0 ∷ ys) more
