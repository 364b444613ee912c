-- What a file includes, by its lines, and what its includes are.
use Rattle.std.proofs.Common.{◌≡◌, ℕ, zero, suc, cond, Bool, true, false, List, [], ◌∷◌, All, Option, Some, None, inl, inr, ◌⊎◌, refl, sym, ap, subst, ◌∙◌, arith}
use Rattle.std.specs.List.{Contains, filter_map, cons_option}
use Rattle.std.proofs.lemmas.List.Elements.{All-contains_itself, All-nil}
use Rattle.jam_scan.specs.IncludeLines.{IsName, lines, include_of, includes_of}
use Rattle.jam_scan.specs.Scans.{is_scanned}
use Rattle.jam_scan.specs.Laws.{FilesInclude, IncludesAreNamed}
use Rattle.jam_scan.proofs.LinesAreIncludes.{lines_include}

-- ---- what a function gives of the elements of a list

pub contains_here : {X : Type 0} (x : X) (xs : List X) → Contains (x ∷ xs) x
contains_here x xs = (zero, omega arith, refl)

pub contains_there : {X : Type 0} (x y : X) (xs : List X) → Contains xs y → Contains (x ∷ xs) y
contains_there x y xs (k, h, e) = (suc k, omega arith, e)

pub contains_cases : {X : Type 0} (x y : X) (xs : List X) → Contains (x ∷ xs) y → (x ≡ y) ⊎ Contains xs y
contains_cases x y xs (zero, h, e) = inl e
contains_cases x y xs (suc k, h, e) = inr (k, omega arith, e)

given_by : {X Y : Type 0} (h : X → Option Y) (xs : List X) (y : Y) → Contains (filter_map h xs) y → (x : X) × Contains xs x × (h x ≡ Some y)
given_by h [] y (k, l, e) = absurd (omega (arith, l))
given_by {X} {Y} h (x ∷ xs) y c = go (h x) refl (given_by h xs y) c
  where
    go : (o : Option Y) → h x ≡ o → (Contains (filter_map h xs) y → (z : X) × Contains xs z × (h z ≡ Some y)) → Contains (cons_option o (filter_map h xs)) y → (z : X) × Contains (x ∷ xs) z × (h z ≡ Some y)
    go None is more c = let (z, among, gives) = more c in (z, contains_there x z xs among, gives)
    go (Some first) is more c = elim (contains_cases first y (filter_map h xs) c) [
      | inl same ↦ (x, contains_here x xs, is ∙ ap Some same)
      | inr later ↦ let (z, among, gives) = more later in (z, contains_there x z xs among, gives)
    ]

gives : {X Y : Type 0} (h : X → Option Y) (xs : List X) (x : X) (y : Y) → Contains xs x → h x ≡ Some y → Contains (filter_map h xs) y
gives h [] x y (k, l, e) is = absurd (omega (arith, l))
gives {X} {Y} h (first ∷ xs) x y among is = go (h first) refl (contains_cases first x xs among) (λ c. gives h xs x y c is)
  where
    go : (o : Option Y) → h first ≡ o → (first ≡ x) ⊎ Contains xs x → (Contains xs x → Contains (filter_map h xs) y) → Contains (cons_option o (filter_map h xs)) y
    go None was (inl same) more = absurd (let e : None ≡ Some y = sym was ∙ ap h same ∙ is in cc)
    go None was (inr later) more = more later
    go (Some z) was (inl same) more =
        let e : z ≡ y = let f : Some z ≡ Some y = sym was ∙ ap h same ∙ is in cc in
        subst (Contains (z ∷ filter_map h xs)) e (contains_here z (filter_map h xs))
    go (Some z) was (inr later) more = contains_there z y (filter_map h xs) (more later)

-- ---- the laws

pub files_include : FilesInclude
unfolding includes_of
files_include bytes include = (
  λ c. let (line, among, is) = given_by include_of (lines bytes) include c in (line, among, (lines_include line include).0 is),
  λ (line, among, is). gives include_of (lines bytes) line include among ((lines_include line include).1 is),
)

named_each : (bytes : List ℕ) → All (λ include. IsName include.0) (includes_of bytes)
named_each bytes k d l =
    let itself = All-contains_itself (includes_of bytes) k d l in
    let (line, among, is) = (files_include bytes _).0 itself in
    is.name

pub includes_are_named : IncludesAreNamed
includes_are_named path bytes = go (is_scanned path)
  where
    go : (b : Bool) → All (λ include. IsName include.0) (cond b (includes_of bytes) [])
    go true = named_each bytes
    go false = All-nil (λ include. IsName include.0)
