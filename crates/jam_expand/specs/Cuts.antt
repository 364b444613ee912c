-- A text, cut in two at a sign.
use Rattle.std.specs.Prelude.{◌≡◌, ℕ, List, [], ◌∷◌, if◌then◌else◌}
use Rattle.b2_base.specs.Numbers.{is_among}

-- what stands before the first of the signs, or the whole text
abbrev pub up_to : List ℕ → List ℕ → List ℕ
up_to signs [] = []
up_to signs (byte ∷ bytes) = if is_among signs byte then [] else byte ∷ up_to signs bytes

-- the text from the first of the signs on
abbrev pub from_on : List ℕ → List ℕ → List ℕ
from_on signs [] = []
from_on signs (byte ∷ bytes) = if is_among signs byte then byte ∷ bytes else from_on signs bytes

-- the text is empty or begins with a byte that does not pass
abbrev pub BeginsWithout : (ℕ → Type 0) → List ℕ → Type 0
BeginsWithout P text = (byte : ℕ) (bytes : List ℕ) → text ≡ byte ∷ bytes → P byte → ⊥
