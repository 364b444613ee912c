-- Pieces of the texts of refusals.
use Rattle.std.specs.Prelude.{ℕ, List, [], ◌∷◌, ◌++◌, codes}
use Rattle.std.specs.List.{flat_map}
use Rattle.std.specs.Fmt.{decimal}
use Rattle.b2_alternatives.specs.Choosing.{property_text}
use Rattle.b2_props.specs.Sets.{Pair}

-- a text after its path and its line
abbrev pub at_line : List ℕ → ℕ → List ℕ → List ℕ
at_line path number text = path ++ codes ":" ++ decimal number ++ codes ": " ++ text

-- a file that is too big
abbrev pub size_text : List ℕ → ℕ → List ℕ
size_text path size = path ++ codes " has " ++ decimal size ++ codes " bytes"

-- more steps than there are numbers for
abbrev pub steps_text : ℕ → List ℕ
steps_text count = decimal count ++ codes " steps"

-- texts with one between each two
abbrev pub joined : List ℕ → List (List ℕ) → List ℕ
joined between [] = []
joined between (text ∷ more) = text ++ flat_map (λ other. between ++ other) more

-- each of these texts needs the one after it, and the last one the first, which stands again at the end
abbrev pub with_arrows : List (List ℕ) → List ℕ
with_arrows [] = []
with_arrows (text ∷ more) = joined (codes " -> ") (text ∷ more) ++ codes " -> " ++ text

-- properties, each after a space
abbrev pub after_spaces : List Pair → List ℕ
after_spaces set = flat_map (λ pair. codes " " ++ property_text pair) set

-- properties with one space between them; nothing for a set without properties
abbrev pub props_text : List Pair → List ℕ
props_text [] = []
props_text (pair ∷ more) = property_text pair ++ after_spaces more
