use Rattle.std.specs.Prelude.{◌≡◌, ◌≢◌, ◌↔◌, ℕ, ◌+◌, ◌<◌, ◌≤◌, ◌==◌, List, [], ◌∷◌, drop, length, slice_index, Option, Some, None, if◌then◌else◌, ⊤}
use Rattle.std.specs.List.{list_any, before_first, after_first}
use Rattle.std.specs.Borrow.{Bor}
use Rattle.std.specs.Str.{chars, IsUtf8}
use Rattle.jam_path.specs.Patterns.{is_taken, Match}
use Rattle.jam_path.specs.declared.walk.WalkEnd.{WalkEnd}
use Rattle.jam_path.specs.declared.walk.WalkEnd.TheVariants.{Fits, Fails, Star}

-- none of the last so many bytes is a `]`
abbrev pub IsUnclosed : ℕ → List ℕ → Type 0
IsUnclosed count pattern = (place : ℕ) → length pattern ≤ place + count → place < length pattern → slice_index pattern place ≢ 93

-- what a walk to a `*` leaves: an end of the pattern, shorter than before, and no more text
abbrev pub IsLeft : List ℕ → List ℕ → WalkEnd → Type 0
IsLeft pattern text Fits = ⊤
IsLeft pattern text Fails = ⊤
IsLeft pattern text (Star rest left) =
    ((k : ℕ) × (rest.now ≡ drop k pattern)) × (length rest.now < length pattern) × (length left.now ≤ length text)
    × IsUtf8 rest.now × IsUtf8 left.now

-- what an answer about a pattern says: the rest of the pattern, by its characters, or nothing
abbrev pub Leads : Option (Bor (List ℕ)) → Option (List ℕ) → List ℕ → Type 0
Leads None rest pattern = rest ≡ None
Leads (Some found) rest pattern = (rest ≡ Some (chars found.now)) × ((k : ℕ) × (found.now ≡ drop k pattern)) × IsUtf8 found.now

-- the members after a dash that stands first
abbrev pub after_dash : List ℕ → Option (List ℕ)
after_dash [] = None
after_dash (dash ∷ []) = None
after_dash (dash ∷ high ∷ more) = if dash == 45 then Some more else None

-- what stands after a piece that takes one given character
abbrev pub after_exact : ℕ → List ℕ → ℕ → Option (List ℕ)
after_exact exact rest character = if exact == character then Some rest else None

abbrev pub after_escape : List ℕ → ℕ → Option (List ℕ)
after_escape [] character = after_exact 92 [] character
after_escape (next ∷ rest) character = after_exact next rest character

abbrev pub after_class : List ℕ → List ℕ → ℕ → Option (List ℕ)
after_class members rest character = if is_taken members character then Some rest else None

abbrev pub after_bracket : List ℕ → ℕ → Option (List ℕ)
after_bracket rest character =
    if list_any (λ other. other == 93) rest
    then after_class (before_first (λ other. other == 93) rest) (after_first (λ other. other == 93) rest) character
    else after_exact 91 rest character

-- the pattern after its first piece, where that piece takes the character; nothing elsewhere, and at a `*`
abbrev pub after_one : List ℕ → ℕ → Option (List ℕ)
after_one [] character = None
after_one (first ∷ rest) character =
    if first == 42 then None
    else (if first == 63 then Some rest
    else (if first == 92 then after_escape rest character
    else (if first == 91 then after_bracket rest character
    else after_exact first rest character)))

-- no `*` stands first
abbrev pub IsStarless : List ℕ → Type 0
IsStarless pattern = (rest : List ℕ) → pattern ≢ 42 ∷ rest

-- how far a walk over the pieces before the next `*` came
abbrev pub IsWalk : List ℕ → List ℕ → WalkEnd → Type 0
IsWalk pattern text Fits = Match pattern text
IsWalk pattern text Fails = ¬ Match pattern text
IsWalk pattern text (Star rest left) =
    (Match pattern text ↔ Match (42 ∷ chars rest.now) (chars left.now))
    × (Match (42 ∷ pattern) text ↔ Match (42 ∷ chars rest.now) (chars left.now))
