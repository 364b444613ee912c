-- What is known, and where files are, after one path of a map was made known or got a place.
use Rattle.std.proofs.Common.{◌≡◌, ℕ, Bool, true, false, cond, List, Option, Some, None, is_some, unwrap_or, refl, ap, sym, ◌∙◌}
use Rattle.std.specs.Borrow.{Bor}
use Rattle.std.specs.Option.{option_copied}
use Rattle.std.specs.FinMap.{get, insert, get-insert}
use Rattle.std.specs.Str.{bytes_eq}
use Rattle.std.proofs.lemmas.Cmp.{nat_list_cmp_total, eq_by_cmp_equiv}
use Rattle.std.proofs.lemmas.Map.Text.{is_eq-slice_cmp}
use Rattle.std.proofs.lemmas.Slice.Eq.{bytes_eq-Decides}
use Rattle.b2_files.specs.Stores.{PlaceMap, place_of, is_known}

-- the maps differ at one path alone
abbrev pub Differs : List ℕ → Option (Option ℕ) → PlaceMap → PlaceMap → Type 0
Differs path w m n = (q : List ℕ) → get n q ≡ cond (bytes_eq path q) w (get m q)

-- the map with another place
pub inserted : (m : PlaceMap) (path : List ℕ) (place : Option ℕ) → Differs path (Some place) m (insert m path place)
inserted m path place q =
    get-insert nat_list_cmp_total m path place q
    ∙ ap (λ b. cond b (Some place) (get m q)) ((eq_by_cmp_equiv nat_list_cmp_total).symm q path ∙ is_eq-slice_cmp path q)

-- the path itself
pub at_path : (m n : PlaceMap) (path : List ℕ) (w : Option (Option ℕ)) → Differs path w m n → get n path ≡ w
at_path m n path w h = h path ∙ ap (λ b. cond b w (get m path)) ((bytes_eq-Decides path path).1 refl)

-- what was known is known
pub stays_known : (m n : PlaceMap) (path : List ℕ) (place : Option ℕ) → Differs path (Some place) m n → (q : List ℕ) → is_known m q ≡ true → is_known n q ≡ true
stays_known m n path place h q k = ap is_some (h q) ∙ elim (bytes_eq path q) as (λ b. is_some (cond b (Some place) (get m q)) ≡ true) [ true ↦ refl | false ↦ k ]

-- a path that was known stays known, and no other becomes so
pub same_known : (m n : PlaceMap) (path : List ℕ) (place : Option ℕ) → is_known m path ≡ true → Differs path (Some place) m n → (q : List ℕ) → is_known n q ≡ is_known m q
same_known m n path place known h q = ap is_some (h q) ∙ go (bytes_eq path q) refl
  where
    go : (b : Bool) → bytes_eq path q ≡ b → is_some (cond b (Some place) (get m q)) ≡ is_known m q
    go true e = sym (ap (is_known m) (sym ((bytes_eq-Decides path q).0 e)) ∙ known)
    go false e = refl

-- a path that was not known gets no place
pub same_places : (m n : PlaceMap) (path : List ℕ) → get m path ≡ None → Differs path (Some None) m n → (q : List ℕ) → place_of n q ≡ place_of m q
same_places m n path absent h q = ap (λ o. unwrap_or o None) (h q) ∙ go (bytes_eq path q) refl
  where
    go : (b : Bool) → bytes_eq path q ≡ b → unwrap_or (cond b (Some None) (get m q)) None ≡ place_of m q
    go true e = sym (ap (place_of m) (sym ((bytes_eq-Decides path q).0 e)) ∙ ap (λ o. unwrap_or o None) absent)
    go false e = refl

-- where a known path gets a place
pub new_places : (m n : PlaceMap) (path : List ℕ) (place : Option ℕ) → is_known m path ≡ true → Differs path (Some place) m n → (q : List ℕ) → place_of n q ≡ cond (bytes_eq path q) (cond (is_known m path) place None) (place_of m q)
new_places m n path place known h q = ap (λ o. unwrap_or o None) (h q) ∙ elim (bytes_eq path q) as (λ b. unwrap_or (cond b (Some place) (get m q)) None ≡ cond b (cond (is_known m path) place None) (place_of m q)) [ true ↦ sym (ap (λ k. cond k place None) known) | false ↦ refl ]

-- where a path is not known
pub no_places : (m : PlaceMap) (path : List ℕ) (place : Option ℕ) → get m path ≡ None → (q : List ℕ) → place_of m q ≡ cond (bytes_eq path q) (cond (is_known m path) place None) (place_of m q)
no_places m path place absent q = go (bytes_eq path q) refl
  where
    go : (b : Bool) → bytes_eq path q ≡ b → place_of m q ≡ cond b (cond (is_known m path) place None) (place_of m q)
    go true e = ap (place_of m) (sym ((bytes_eq-Decides path q).0 e)) ∙ ap (λ o. unwrap_or o None) absent ∙ sym (ap (λ o. cond (is_some o) place None) absent)
    go false e = refl

pub none_from : {X : Type 0} (o : Option X) → is_some o ≡ false → o ≡ None
none_from None e = refl
none_from (Some x) e = cc

-- what setting a place leaves known
pub set_known : (m : PlaceMap) (path : List ℕ) (place : Option ℕ) (q : List ℕ) → is_known (cond (is_known m path) (insert m path place) m) q ≡ is_known m q
set_known m path place q = go (is_known m path) refl
  where
    go : (b : Bool) → is_known m path ≡ b → is_known (cond b (insert m path place) m) q ≡ is_known m q
    go true known = same_known m (insert m path place) path place known (inserted m path place) q
    go false absent = refl

-- where files are once a place is set
pub set_places : (m : PlaceMap) (path : List ℕ) (place : Option ℕ) (q : List ℕ) → place_of (cond (is_known m path) (insert m path place) m) q ≡ cond (bytes_eq path q) (cond (is_known m path) place None) (place_of m q)
set_places m path place q = go (is_known m path) refl
  where
    go : (b : Bool) → is_known m path ≡ b → place_of (cond b (insert m path place) m) q ≡ cond (bytes_eq path q) (cond (is_known m path) place None) (place_of m q)
    go true known = new_places m (insert m path place) path place known (inserted m path place) q
    go false absent = no_places m path place (none_from (get m path) absent) q

-- what setting a place in the map that a model is seen by makes of it
pub place_set : (inside seen new : PlaceMap) (text path : List ℕ) (place : Option ℕ) → inside ≡ seen → text ≡ path → new ≡ cond (is_some (get inside text)) (insert inside text place) inside → new ≡ cond (is_known seen path) (insert seen path place) seen
place_set inside seen new text path place same at h =
    h ∙ ap (λ m. cond (is_known m text) (insert m text place) m) same ∙ ap (λ p. cond (is_known seen p) (insert seen p place) seen) at

-- the same of a path that is made known
pub made_known : (inside seen new : PlaceMap) (copy text path : List ℕ) → inside ≡ seen → copy ≡ text → text ≡ path → new ≡ insert inside copy None → new ≡ insert seen path None
made_known inside seen new copy text path same copied at h = h ∙ ap (λ m. insert m copy None) same ∙ ap (λ p. insert seen p None) (copied ∙ at)

pub absent_at : (inside seen : PlaceMap) (text path : List ℕ) → inside ≡ seen → text ≡ path → get inside text ≡ None → get seen path ≡ None
absent_at inside seen text path same at h = sym (ap (λ m. get m text) same ∙ ap (get seen) at) ∙ h

pub put_known : (m n : PlaceMap) (path : List ℕ) → n ≡ insert m path None → is_known n path ≡ true
put_known m n path h = ap (λ k. is_known k path) h ∙ ap is_some (at_path m (insert m path None) path (Some None) (inserted m path None))

pub put_stays : (m n : PlaceMap) (path : List ℕ) → n ≡ insert m path None → (q : List ℕ) → is_known m q ≡ true → is_known n q ≡ true
put_stays m n path h q k = ap (λ o. is_known o q) h ∙ stays_known m (insert m path None) path None (inserted m path None) q k

pub put_places : (m n : PlaceMap) (path : List ℕ) → get m path ≡ None → n ≡ insert m path None → (q : List ℕ) → place_of n q ≡ place_of m q
put_places m n path absent h q = ap (λ k. place_of k q) h ∙ same_places m (insert m path None) path absent (inserted m path None) q

pub none_copied : {X : Type 0} (o : Option (Bor X)) → is_some o ≡ false → option_copied o ≡ None
none_copied None e = refl
none_copied (Some x) e = cc
