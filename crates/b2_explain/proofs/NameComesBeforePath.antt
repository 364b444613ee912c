-- A line has a name and a space before a path, where the name is not empty.
use Rattle.std.proofs.Common.{◌≡◌, ◌≢◌, ℕ, ◌==◌, Bool, false, List, [], ◌∷◌, ◌++◌, length, codes, refl}
use Rattle.b2_runs.specs.Reports.{named}

-- a text whose length is told not to be zero is not empty
pub some_text : (text : List ℕ) (empty : Bool) → empty ≡ (length text == 0) → empty ≡ false → text ≢ []
some_text [] empty e t = λ h. absurd cc
some_text (x ∷ text) empty e t = λ h. cc

-- a name and a space before a path
pub named_some : (name path : List ℕ) → name ≢ [] → named name path ≡ name ++ codes " " ++ path
named_some [] path some = absurd (some refl)
named_some (x ∷ name) path some = refl
