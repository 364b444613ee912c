-- What generation gives.
use Rattle.std.specs.Prelude.{ℕ, List, Result}
use Rattle.std.specs.List.{AllByRecursion}
use Rattle.b2_plan.specs.declared.step.Step.{Step}
use Rattle.b2_props.specs.Sets.{Pair, IsSet}
use Rattle.b2_declared.specs.declared.whole.Declared.{Declared}
use Rattle.b2_references.specs.Names.{Name, features}
use Rattle.b2_virtual.specs.declared.entry.Supply.{Supply}
use Rattle.b2_generate.specs.Faults.{Fault}

-- a main target that was opened: the number of its alternative, from 1, and the set of its properties
pub record Row : Type 0 where
  pub name : Name
  pub alternative : ℕ
  pub set : List Pair

-- the properties of each row are a set of the features that are declared
abbrev pub HaveSets : Declared → List Row → Type 0
HaveSets d rows = AllByRecursion (λ row. IsSet (features d) row.set) rows

-- What a main target gives: its entries and the libraries that it carries on, its usage requirements, and the rows of all that was
-- opened for it, its own first.
pub record Generated : Type 0 where
  pub supply : Supply
  pub usage : List Pair
  pub rows : List Row

-- what comes, with the steps that are joined then, or the first refusal
abbrev pub Outcome : Type 0 → Type 0 → Type 0
Outcome E A = Result (A × List Step) (Fault E)
