-- What is found of outputs that are older than members.
use Rattle.std.specs.Prelude.{◌≡◌, ℕ, List, Some}
use Rattle.b2_facts.specs.Facts.{Knowledge}
use Rattle.b2_verdicts.specs.Sights.{stamp_of}
use Rattle.b2_verdicts.specs.Stamps.{IsFirstNewer, IsFirstOlder}

-- The member at a place is the first that is newer than an output.
pub record IsNewerThanOutput (g : Knowledge) (ins : List ℕ) (out member : ℕ) : Type 0 where
  pub written : ℕ
  pub written_is : stamp_of g out ≡ Some written
  pub newer : IsFirstNewer g written ins member

-- the output and the member at these places are the first
abbrev pub IsOlderAt : Knowledge → List ℕ → List ℕ → ℕ × ℕ → Type 0
IsOlderAt g outs ins places = IsFirstOlder g outs ins places.0 places.1
