-- Lists for a product, of which those of one text are joined.
use Rattle.std.specs.Prelude.{ℕ, List, [], ◌∷◌, ◌++◌}

-- The lists after a text. Those of one text are joined to it one after the other; before each other list, and at the
-- end, the text that was joined so far is a list of its own.
abbrev pub merged_after : List ℕ → List (List (List ℕ)) → List (List (List ℕ))
merged_after run [] = (run ∷ []) ∷ []
merged_after run ([] ∷ lists) = (run ∷ []) ∷ [] ∷ merged_after [] lists
merged_after run ((text ∷ []) ∷ lists) = merged_after (run ++ text) lists
merged_after run ((text ∷ next ∷ texts) ∷ lists) = (run ∷ []) ∷ (text ∷ next ∷ texts) ∷ merged_after [] lists
