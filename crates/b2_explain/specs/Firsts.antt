-- What comes first.
use Rattle.std.specs.Prelude.{◌≡◌, List, ◌∷◌, ◌++◌, ℕ}
use Rattle.std.specs.List.{Contains}
use Rattle.b2_base.specs.Bytes.{Before}

-- The path has the property, and none before it in byte order has it.
pub record IsFirstPath (P : List ℕ → Type 0) (path : List ℕ) : Type 0 where
  pub so : P path
  pub none_before : (other : List ℕ) → Before other path → P other → ⊥

-- The element has the property, and none before it in the list has it.
pub record IsFirstIn {X : Type 0} (P : X → Type 0) (list : List X) (x : X) : Type 0 where
  pub before : List X
  pub after : List X
  pub list_is : list ≡ before ++ x ∷ after
  pub so : P x
  pub none_before : (other : X) → Contains before other → P other → ⊥
