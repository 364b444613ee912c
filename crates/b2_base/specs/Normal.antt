use Rattle.std.specs.Prelude.{◌≡◌, ◌≢◌, ℕ, Bool, true, false, not, List, [], ◌∷◌, ◌++◌, codes, replicate, filter}
use Rattle.std.specs.List.{AllByRecursion}
use Rattle.b2_base.specs.Segments.{segments, is_dropped, is_up, is_rooted, written}

-- a segment that is neither empty nor `.` nor `..`, with no slash in it
pub record IsName (segment : List ℕ) : Type 0 where
  pub shown : is_dropped segment ≡ false
  pub name : is_up segment ≡ false
  pub whole : AllByRecursion (λ byte. byte ≢ 47) segment

-- The text is some `..`, none of them at the root, and then names, joined by slashes.
pub record IsNormal (text : List ℕ) : Type 0 where
  pub rooted : Bool
  pub ups : ℕ
  pub names : List (List ℕ)
  pub text_is : text ≡ written rooted (replicate ups (codes "..") ++ names)
  pub at_root : rooted ≡ true → ups ≡ 0
  pub each : AllByRecursion IsName names

-- the path's segments: none for `.` and for the root
abbrev pub parts : List ℕ → List (List ℕ)
parts path = filter (λ segment. not (is_dropped segment)) (segments path)

-- the first segment, or nothing
abbrev pub first_part : List ℕ → List ℕ
first_part path = first_of (parts path)
  where
    first_of : List (List ℕ) → List ℕ
    first_of [] = []
    first_of (part ∷ more) = part

-- The folder's segments are a proper prefix of the path's. Below `.` lies all that is relative and does not begin
-- with `..`.
pub record IsUnder (path dir : List ℕ) : Type 0 where
  pub next : List ℕ
  pub more : List (List ℕ)
  pub rooted : is_rooted path ≡ is_rooted dir
  pub goes_on : parts path ≡ parts dir ++ next ∷ more
  pub not_above : dir ≡ codes "." → is_up next ≡ false
