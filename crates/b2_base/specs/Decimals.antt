-- Texts that parse as numbers.
use Rattle.std.specs.Prelude.{ℕ, ◌==◌, ◌||◌, Bool, false, List, [], ◌∷◌}

-- a text that parses as a number and is not written for it: it begins with a sign, or with a zero before further digits
abbrev pub has_lead : List ℕ → Bool
has_lead [] = false
has_lead (first ∷ []) = first == 43
has_lead (first ∷ second ∷ more) = first == 43 || first == 48
