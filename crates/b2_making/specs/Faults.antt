-- Why a main target has no steps.
use Rattle.std.specs.Prelude.{ℕ, List}

-- The first refusal. `E` is why the text of a step has no value.
pub data Fault (E : Type 0) : Type 0 where
  no_chain : (from to : List ℕ) → Fault E
  two_chains : (from to : List ℕ) (first second : List (List ℕ)) → Fault E
  path_clash : (path : List ℕ) → Fault E
  location_outside : (path : List ℕ) → Fault E
  too_many_steps : (count : ℕ) → Fault E
  eval : (fault : E) → Fault E
