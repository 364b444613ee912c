-- What a text within a part stands for.
use Rattle.std.specs.Prelude.{ℕ, List, [], ◌∷◌, ◌++◌, Ok}
use Rattle.b2_base.specs.Results.{and_then}
use Rattle.jam_expand.specs.Cuts.{up_to, from_on}
use Rattle.jam_expand.specs.Indexes.{selected}
use Rattle.jam_expand.specs.Limits.{Answer, within}
use Rattle.jam_expand.specs.Modifiers.{edited}
use Rattle.jam_expand.specs.References.{reference_of}

-- A name ends before the first `[` (91) or `:` (58). Its values are what it stands for, after index and modifiers.
abbrev pub values_of : (List ℕ → List (List ℕ)) → List ℕ → Answer
values_of names text =
    and_then (λ found. Ok (edited found.modifiers (selected found.index (names (up_to (91 ∷ 58 ∷ []) text))))) (reference_of (from_on (91 ∷ 58 ∷ []) text))

-- The values of some texts, joined after a list. Each time they are joined the list is not too large.
unfoldable pub joined_after : (List ℕ → List (List ℕ)) → List (List ℕ) → List (List ℕ) → Answer
joined_after names list [] = Ok list
joined_after names list (text ∷ texts) = and_then (λ values. and_then (λ longer. joined_after names longer texts) (within (list ++ values))) (values_of names text)

-- the values of a part whose inside stands for these texts
abbrev pub values_of_all : (List ℕ → List (List ℕ)) → List (List ℕ) → Answer
values_of_all names texts = joined_after names [] texts
