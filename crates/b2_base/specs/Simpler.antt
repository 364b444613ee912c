use Rattle.std.specs.Prelude.{◌≡◌, ◌≢◌, ℕ, Bool, true, List, [], ◌∷◌, ◌++◌, codes}
use Rattle.b2_base.specs.Segments.{is_rooted, written}
use Rattle.b2_base.specs.Normal.{parts}

-- a segment that names an entry of a folder: it is not empty, and neither `.` nor `..`
pub record IsEntry (segment : List ℕ) : Type 0 where
  pub not_empty : segment ≢ []
  pub not_dot : segment ≢ codes "."
  pub not_up : segment ≢ codes ".."

-- One step of simplification. An empty segment goes, wherever it stands, and so does a `.`. An entry goes with the `..`
-- directly after it. A leading `..` goes where the path is rooted.
pub data Simpler (rooted : Bool) : List (List ℕ) → List (List ℕ) → Type 0 where
  blank : (before after : List (List ℕ)) → Simpler rooted (before ++ [] ∷ after) (before ++ after)
  dot : (before after : List (List ℕ)) → Simpler rooted (before ++ codes "." ∷ after) (before ++ after)
  back : (before : List (List ℕ)) (name : List ℕ) (after : List (List ℕ)) → IsEntry name → Simpler rooted (before ++ name ∷ codes ".." ∷ after) (before ++ after)
  leading : (after : List (List ℕ)) → rooted ≡ true → Simpler rooted (codes ".." ∷ after) after

-- some such steps, or none
pub data Reaches (rooted : Bool) : List (List ℕ) → List (List ℕ) → Type 0 where
  here : (segments : List (List ℕ)) → Reaches rooted segments segments
  onward : (from next to : List (List ℕ)) → Simpler rooted from next → Reaches rooted next to → Reaches rooted from to

-- no step leads on
abbrev pub IsSimplest : Bool → List (List ℕ) → Type 0
IsSimplest rooted segments = (next : List (List ℕ)) → ¬ Simpler rooted segments next

-- A run of steps that starts at the first list, and comes to one from which no step leads on, comes to the second list.
abbrev pub IsOnlyEnd : Bool → List (List ℕ) → List (List ℕ) → Type 0
IsOnlyEnd rooted segments end = (found : List (List ℕ)) → Reaches rooted segments found → IsSimplest rooted found → found ≡ end

-- The text is its root and its segments written again, and no step leads on from these segments.
pub record IsSimplestText (text : List ℕ) : Type 0 where
  pub text_is : text ≡ written (is_rooted text) (parts text)
  pub simplest : IsSimplest (is_rooted text) (parts text)
