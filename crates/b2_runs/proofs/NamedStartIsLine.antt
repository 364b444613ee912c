-- A step that has a name starts with a line of the name and the first output.
use Rattle.std.proofs.Common.{◌≡◌, ◌≢◌, ℕ, ◌==◌, Bool, false, List, [], ◌∷◌, ◌++◌, length, codes, refl}
use Rattle.b2_runs.specs.Reports.{line, start_text}

pub some_text : (text : List ℕ) (empty : Bool) → empty ≡ (length text == 0) → empty ≡ false → text ≢ []
some_text [] empty e t = λ h. absurd cc
some_text (x ∷ text) empty e t = λ h. cc

pub named_start : (name out : List ℕ) → name ≢ [] → start_text name out ≡ line (name ++ codes " " ++ out)
named_start [] out some = absurd (some refl)
named_start (letter ∷ name) out some = refl
