use Rattle.std.specs.Prelude.{◌≡◌, ℕ, ◌+◌, ◌<◌, ◌≤◌, List, [], ◌∷◌, length, slice_get, Option, Some, None, option_and_then, refl}
use Rattle.std.specs.Option.{option_map}
use Rattle.std.specs.List.{Contains}
use Rattle.std.proofs.Common.{zero, suc, get_or, ap, ap₂, sym, ◌∙◌, subst, arith}
use Rattle.std.proofs.lemmas.Option.{slice_get_within}
use Rattle.std.proofs.lemmas.List.{get_or_default}
use Rattle.b2_host.specs.Disks.{File, Past, IsConsistent, IsOneEach, Stood}
use Rattle.b2_files.specs.Stores.{Write, PlaceMap, place_of, write_path, file_of, file_at, standing, stood, disk_of, IsPlaced}

pub length-stood : (place : ℕ) (xs : List Write) → length (stood place xs) ≡ length xs
length-stood place [] = refl
length-stood place (x ∷ xs) = ap suc (length-stood (place + 1) xs)

-- the stamp at each place counts from 1
stood_at : (place : ℕ) (xs : List Write) (i : ℕ) (d : Past) → i < length (stood place xs) → (get_or (stood place xs) i d).file.stamp ≡ place + i + 1
stood_at place [] i d h = absurd (omega (arith, h))
stood_at place (x ∷ xs) zero d h = let e : place + 1 ≡ place + 0 + 1 = omega arith in e
stood_at place (x ∷ xs) (suc i) d h = let low : i < length (stood (place + 1) xs) = omega arith in let e : place + 1 + i + 1 ≡ place + suc i + 1 = omega arith in stood_at (place + 1) xs i d low ∙ e

-- what stands at each place
stood_is : (place : ℕ) (xs : List Write) (i : ℕ) (x : Write) (d : Past) → slice_get xs i ≡ Some x → get_or (stood place xs) i d ≡ record { path = x.0; file = file_of (place + i) x }
stood_is place [] i x d h = cc
stood_is place (y ∷ xs) zero x d h =
    let same : y ≡ x = cc in
    let e : place ≡ place + 0 = omega arith in
    ap (λ z. record { path = z.0; file = file_of place z }) same ∙ ap (λ n. record { path = x.0; file = file_of n x }) e
stood_is place (y ∷ xs) (suc i) x d h =
    let e : place + 1 + i ≡ place + suc i = omega arith in
    stood_is (place + 1) xs i x d h ∙ ap (λ n. record { path = x.0; file = file_of n x }) e

-- there is one content for a path and a stamp
one_each : (xs : List Write) → IsOneEach (stood 0 xs)
one_each xs path stamp x y a b =
    let p : Past = record { path = path; file = record { stamp = stamp; bytes = x } } in
    let q : Past = record { path = path; file = record { stamp = stamp; bytes = y } } in
    let i : stamp ≡ a.0 + 1 = ap (λ r. r.file.stamp) (sym a.2) ∙ stood_at 0 xs a.0 p a.1 ∙ (let e : 0 + a.0 + 1 ≡ a.0 + 1 = omega arith in e) in
    let j : stamp ≡ b.0 + 1 = ap (λ r. r.file.stamp) (sym b.2) ∙ stood_at 0 xs b.0 q b.1 ∙ (let e : 0 + b.0 + 1 ≡ b.0 + 1 = omega arith in e) in
    let same : a.0 ≡ b.0 = omega (arith, i, j) in
    ap (λ r. r.file.bytes) (sym a.2 ∙ get_or_default (stood 0 xs) a.0 p q a.1 ∙ ap (λ k. get_or (stood 0 xs) k q) same ∙ b.2)

-- the file at a place is among what stood
stands_at : (xs : List Write) (path : List ℕ) (place : ℕ) (file : File) → option_map write_path (slice_get xs place) ≡ Some path → file_at xs place ≡ Some file → Stood (stood 0 xs) path file
stands_at xs path place file h e = go (slice_get xs place) refl h e
  where
    go : (o : Option Write) → slice_get xs place ≡ o → option_map write_path o ≡ Some path → option_map (file_of place) o ≡ Some file → Stood (stood 0 xs) path file
    go None is a b = cc
    go (Some x) is a b =
        let p : x.0 ≡ path = cc in
        let f : file_of place x ≡ file = cc in
        let zero_in : file_of (0 + place) x ≡ file_of place x = ap (λ n. file_of n x) (omega arith) in
        let low : place < length (stood 0 xs) = subst (λ n. place < n) (sym (length-stood 0 xs)) (slice_get_within xs place x is) in
        (place, low, stood_is 0 xs place x _ is ∙ ap₂ (λ q g. record { path = q; file = g }) p (zero_in ∙ f))

-- what stands is among what stood
stands : (xs : List Write) (m : PlaceMap) → IsPlaced xs m → (path : List ℕ) (file : File) → standing xs m path ≡ Some file → Stood (stood 0 xs) path file
stands xs m placed path file e = go (place_of m path) refl e
  where
    go : (o : Option ℕ) → place_of m path ≡ o → option_and_then (file_at xs) o ≡ Some file → Stood (stood 0 xs) path file
    go None is h = cc
    go (Some place) is h = stands_at xs path place file (placed path place is) h

-- no stamp is above the number of those that stood
pub stamp_within : (xs : List Write) (p : Past) → Contains (stood 0 xs) p → p.file.stamp ≤ length (stood 0 xs)
stamp_within xs p a =
    let at : p.file.stamp ≡ 0 + a.0 + 1 = ap (λ r. r.file.stamp) (sym a.2) ∙ stood_at 0 xs a.0 p a.1 in
    let low : a.0 < length (stood 0 xs) = a.1 in
    omega (arith, at, low)

-- what entries and places tell is among what stood, and has one content for a path and a stamp
pub kept_disk : (xs : List Write) (m : PlaceMap) → IsPlaced xs m → IsConsistent (disk_of xs m)
kept_disk xs m placed = record { one_each = one_each xs; stands = stands xs m placed }
