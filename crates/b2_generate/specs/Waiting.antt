-- Where the open main targets that wait are found by their names.
use Rattle.std.specs.Prelude.{◌≡◌, ℕ, List, [], ◌∷◌, Option, Some, map, length}
use Rattle.std.specs.FinMap as finite
use Rattle.b2_generate.specs.Tables.{Table}
use Rattle.b2_generate.specs.declared.frame.Frame.{Frame}

-- the places of open main targets, of which the newest comes first: the number of those below each
abbrev pub places_of : List Frame → List (Option ℕ)
places_of [] = []
places_of (f ∷ below) = Some (length below) ∷ places_of below

-- each of them is found at its place
abbrev pub AreFound : Table ℕ → List Frame → Type 0
AreFound places fs = map (λ f. finite.get places f.name) fs ≡ places_of fs
