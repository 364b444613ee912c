-- Laws of plans.
use Rattle.std.specs.Prelude.{◌≡◌, ℕ, List, Ok, codes}
use Rattle.std.specs.List.{Contains}
use Rattle.b2_plan.specs.Plans.{Apart}
use Rattle.b2_props.specs.Sets.{Pair}
use Rattle.b2_generators.specs.Table.{HaveDistinctIds}
use Rattle.b2_declared.specs.declared.visit.Call.{Call}
use Rattle.b2_declared.specs.declared.visit.Visit.{Visit}
use Rattle.b2_declared.specs.declared.whole.Declared.{Declared}
use Rattle.b2_declared.specs.Declaring.{declared}
use Rattle.b2_generate.specs.LoadedProjects.{LoadedProject}
use Rattle.b2_generate.specs.Planning.{Planned, Plans}

-- The outputs of each plan are apart, where `bin` is an output root and no two generators have one id, as each table of generators
-- keeps it. Where two had one, the first of them would stand for the other in a chain, also if it has no outputs.
abbrev pub PlansAreApart : Type 0 → Type 0
PlansAreApart E = (l : LoadedProject E) (sets : List (List Pair)) (words : List (List ℕ)) (planned : Planned) →
    Contains l.roots (codes "bin") → HaveDistinctIds l.declared.types.generators → Plans l sets words (Ok planned) → Apart planned.steps planned.roots

-- no two generators that the calls of a load declare have one id
abbrev pub IdsAreDistinct : Type 0
IdsAreDistinct = (visits : List Visit) (calls : List Call) (found : Declared) → declared visits calls ≡ Ok found
    → HaveDistinctIds found.types.generators
