-- The variables of a transcript.
use Rattle.std.specs.Prelude.{ℕ, List, [], Option, Some, None}

-- the texts of a variable that may not be set; one that is not has none
abbrev pub texts_of : Option (List (List ℕ)) → List (List ℕ)
texts_of None = []
texts_of (Some texts) = texts
