-- One more entry, to which the place of its path then leads, is one write to the disk that the store stands for.
use Rattle.std.proofs.Common.{◌≡◌, ℕ, zero, suc, ◌+◌, ◌<◌, Bool, true, false, cond, List, ◌∷◌, [], ◌++◌, length, Option, Some, None, unwrap_or, option_and_then, refl, ap, ap₂, sym, ◌∙◌, subst, arith, slice_get}
use mathlib.Core.Path.{fun_ext}
use Rattle.std.specs.Option.{option_map, IfSome}
use Rattle.std.specs.FinMap.{from_entries}
use Rattle.b2_base.proofs.MapsHoldWhatEntriesHold.{get_text}
use Rattle.std.specs.Str.{bytes_eq}
use Rattle.std.proofs.lemmas.Option.{slice_get_within}
use Rattle.std.proofs.lemmas.Slice.Eq.{bytes_eq-Decides}
use Rattle.b2_host.specs.Disks.{File, put}
use Rattle.b2_files.specs.Writes.{written}
use Rattle.b2_files.specs.Consistency.{length-stood}
use Rattle.b2_files.specs.Stores.{Write, PlaceMap, place_of, is_known, write_path, file_of, file_at, standing, stood, disk_of, IsPlaced}

-- ---- one more at the end

pub some_more : {X Y : Type 0} (f : X → Y) (xs ys : List X) (i : ℕ) (y : Y) → option_map f (slice_get xs i) ≡ Some y → slice_get (xs ++ ys) i ≡ slice_get xs i
some_more f [] ys i y h = cc
some_more f (x ∷ xs) ys zero y h = refl
some_more f (x ∷ xs) ys (suc i) y h = some_more f xs ys i y h

pub at_end : {X : Type 0} (xs : List X) (x : X) → slice_get (xs ++ x ∷ []) (length xs) ≡ Some x
at_end [] x = refl
at_end (y ∷ xs) x = at_end xs x

stood_more : (place : ℕ) (xs : List Write) (x : Write) → stood place (xs ++ x ∷ []) ≡ stood place xs ++ record { path = x.0; file = file_of (place + length xs) x } ∷ []
stood_more place [] x = let e : place ≡ place + 0 = omega arith in ap (λ n. record { path = x.0; file = file_of n x } ∷ []) e
stood_more place (y ∷ xs) x =
    let e : place + 1 + length xs ≡ place + suc (length xs) = omega arith in
    ap (λ r. record { path = y.0; file = file_of place y } ∷ r) (stood_more (place + 1) xs x ∙ ap (λ n. stood (place + 1) xs ++ record { path = x.0; file = file_of n x } ∷ []) e)

-- ---- the places of entries

-- no path has a place in the empty map
pub placed_none : (xs : List Write) (m : PlaceMap) → m ≡ from_entries [] → IsPlaced xs m
placed_none xs m e path place h =
    let none : place_of m path ≡ None = ap (λ n. place_of n path) e ∙ ap (λ o. unwrap_or o None) (get_text [] path) in
    cc

-- a place is one of an entry
pub place_within : (xs : List Write) (m : PlaceMap) (path : List ℕ) → IsPlaced xs m → (n : ℕ) → n ≡ length xs → (o : Option ℕ) → o ≡ place_of m path → IfSome o (λ place. place < n)
place_within xs m path placed n e None h = tt
place_within xs m path placed n e (Some place) h = go (slice_get xs place) refl (placed path place (sym h))
  where
    go : (o : Option Write) → slice_get xs place ≡ o → option_map write_path o ≡ Some path → place < n
    go None is a = cc
    go (Some x) is a = subst (λ k. place < k) (sym e) (slice_get_within xs place x is)

-- ---- one more entry

-- where the places are, once the path of one more entry has its place
abbrev pub HasPut : List Write → Write → PlaceMap → PlaceMap → Type 0
HasPut xs x m n = (q : List ℕ) → place_of n q ≡ cond (bytes_eq x.0 q) (Some (length xs)) (place_of m q)

pub placed_put : (xs : List Write) (x : Write) (m n : PlaceMap) → IsPlaced xs m → HasPut xs x m n → IsPlaced (xs ++ x ∷ []) n
placed_put xs x m n placed h q place is = go (bytes_eq x.0 q) refl (sym (h q) ∙ is)
  where
    go : (b : Bool) → bytes_eq x.0 q ≡ b → cond b (Some (length xs)) (place_of m q) ≡ Some place → option_map write_path (slice_get (xs ++ x ∷ []) place) ≡ Some q
    go true e a =
        let at : length xs ≡ place = cc in
        ap (λ k. option_map write_path (slice_get (xs ++ x ∷ []) k)) (sym at) ∙ ap (option_map write_path) (at_end xs x) ∙ ap Some ((bytes_eq-Decides x.0 q).0 e)
    go false e a = ap (option_map write_path) (some_more write_path xs (x ∷ []) place q (placed q place a)) ∙ placed q place a

-- a place of old reads the same
old_place : (xs ys : List Write) (m : PlaceMap) → IsPlaced xs m → (q : List ℕ) → option_and_then (file_at (xs ++ ys)) (place_of m q) ≡ standing xs m q
old_place xs ys m placed q = go (place_of m q) refl
  where
    go : (o : Option ℕ) → place_of m q ≡ o → option_and_then (file_at (xs ++ ys)) o ≡ option_and_then (file_at xs) o
    go None e = refl
    go (Some place) e = ap (option_map (file_of place)) (some_more write_path xs ys place q (placed q place e))

-- the newest place reads the entry
new_place : (xs : List Write) (x : Write) → file_at (xs ++ x ∷ []) (length xs) ≡ Some (record { stamp = length (stood 0 xs) + 1; bytes = x.1 })
new_place xs x = ap (option_map (file_of (length xs))) (at_end xs x) ∙ ap (λ n. Some (record { stamp = n + 1; bytes = x.1 })) (sym (length-stood 0 xs))

pub disk_put : (xs : List Write) (x : Write) (m n : PlaceMap) → IsPlaced xs m → HasPut xs x m n → disk_of (xs ++ x ∷ []) n ≡ written x.0 x.1 (disk_of xs m)
disk_put xs x m n placed h = ap₂ (λ f p. record { now = f; past = p }) (fun_ext folder) past_is
  where
    file : File
    file = record { stamp = length (stood 0 xs) + 1; bytes = x.1 }

    folder : (q : List ℕ) → standing (xs ++ x ∷ []) n q ≡ put x.0 (Some file) (standing xs m) q
    folder q = ap (option_and_then (file_at (xs ++ x ∷ []))) (h q) ∙ elim (bytes_eq x.0 q) as (λ b. option_and_then (file_at (xs ++ x ∷ [])) (cond b (Some (length xs)) (place_of m q)) ≡ cond b (Some file) (standing xs m q)) [ true ↦ new_place xs x | false ↦ old_place xs (x ∷ []) m placed q ]

    past_is : stood 0 (xs ++ x ∷ []) ≡ stood 0 xs ++ record { path = x.0; file = file } ∷ []
    past_is = stood_more 0 xs x ∙ ap (λ k. stood 0 xs ++ record { path = x.0; file = record { stamp = k + 1; bytes = x.1 } } ∷ []) (let e : 0 + length xs ≡ length xs = omega arith in e ∙ sym (length-stood 0 xs))

pub has_put : (xs : List Write) (x : Write) (m n : PlaceMap) (k : ℕ) → is_known m x.0 ≡ true → k ≡ length xs
    → ((q : List ℕ) → place_of n q ≡ cond (bytes_eq x.0 q) (cond (is_known m x.0) (Some k) None) (place_of m q)) → HasPut xs x m n
has_put xs x m n k known e h q = h q ∙ ap (λ b. cond (bytes_eq x.0 q) (cond b (Some k) None) (place_of m q)) known ∙ ap (λ j. cond (bytes_eq x.0 q) (Some j) (place_of m q)) e
