-- Laws of generation and of plans.
use Rattle.std.specs.Prelude.{◌≡◌, ℕ, false, List, [], ◌∷◌, ◌++◌, Result, Ok}
use Rattle.std.specs.List.{AllByRecursion, flat_map}
use Rattle.b2_plan.specs.declared.step.Step.{Step}
use Rattle.b2_props.specs.Sets.{Pair}
use Rattle.b2_making.specs.Laws.{StandIn}
use Rattle.b2_references.specs.Names.{Name, is_among}
use Rattle.b2_alternatives.specs.Choosing.{Chosen, Chooses}
use Rattle.b2_generate.specs.Faults.{Fault}
use Rattle.b2_generate.specs.LoadedProjects.{LoadedProject, returned}
use Rattle.b2_generate.specs.Answers.{Row, Generated, Outcome}
use Rattle.b2_generate.specs.OpenTargets.{Standing, with_target}
use Rattle.b2_generate.specs.Generation.{Generates, Finishes}
use Rattle.b2_generate.specs.Planning.{Planned, Plans}

-- ---- one answer

-- a main target that is asked for has one outcome at most
abbrev pub OneOutcome : Type 0 → Type 0
OneOutcome E = (l : LoadedProject E) (above : List Name) (name : Name) (set : List Pair) (before : List Step) (a b : Outcome E Generated) →
    Generates l above name set before a → Generates l above name set before b → a ≡ b

-- what it gives depends on the target and the set alone: neither on what is open nor on the steps before
abbrev pub SameAnswer : Type 0 → Type 0
SameAnswer E = (l : LoadedProject E) (above others : List Name) (name : Name) (set : List Pair) (before after earlier later : List Step) (a b : Generated) →
    Generates l above name set before (Ok (a, after)) → Generates l others name set earlier (Ok (b, later)) → a ≡ b

-- none of the targets that were opened for an answer is open
abbrev pub AreClosed : List Name → List Row → Type 0
AreClosed above rows = AllByRecursion (λ row. is_among above row.name ≡ false) rows

-- An answer may be remembered: where its steps stand, and none of the targets that were opened for it is open, the target gives
-- the same with this set, and no step is new.
abbrev pub MayBeRemembered : Type 0 → Type 0
MayBeRemembered E = (l : LoadedProject E) (above others : List Name) (name : Name) (set : List Pair) (before after later : List Step) (given : Generated) →
    Generates l above name set before (Ok (given, after)) → StandIn later after → AreClosed others given.rows →
    Generates l others name set later (Ok (given, later))

-- none of the targets that were opened for an answer was open; so where one is, there is no such answer
abbrev pub OpensClosed : Type 0 → Type 0
OpensClosed E = (l : LoadedProject E) (above : List Name) (name : Name) (set : List Pair) (before after : List Step) (given : Generated) →
    Generates l above name set before (Ok (given, after)) → AreClosed above given.rows

-- ---- rows

-- the first row is the target's own
abbrev pub OwnRowIsFirst : Type 0 → Type 0
OwnRowIsFirst E = (l : LoadedProject E) (above : List Name) (name : Name) (set : List Pair) (before after : List Step) (given : Generated) →
    Generates l above name set before (Ok (given, after)) → (row : Row) × (more : List Row) × (given.rows ≡ row ∷ more) × (row.name ≡ name)

-- the row is the own one of a main target that was generated
pub record IsOpened {E : Type 0} (l : LoadedProject E) (row : Row) : Type 0 where
  pub above : List Name
  pub asked : List Pair
  pub before : List Step
  pub after : List Step
  pub given : Generated
  pub more : List Row
  pub generates : Generates l above row.name asked before (Ok (given, after))
  pub own : given.rows ≡ row ∷ more

-- each row is the own row of a target that was opened
abbrev pub RowsAreOpenings : Type 0 → Type 0
RowsAreOpenings E = (l : LoadedProject E) (above : List Name) (name : Name) (set : List Pair) (before after : List Step) (given : Generated) →
    Generates l above name set before (Ok (given, after)) → AllByRecursion (IsOpened l) given.rows

-- ---- steps

-- the steps before stay as they are, and new ones stand after them
abbrev pub StepsStay : Type 0 → Type 0
StepsStay E = (l : LoadedProject E) (above : List Name) (name : Name) (set : List Pair) (before after : List Step) (given : Generated) →
    Generates l above name set before (Ok (given, after)) → (more : List Step) × (after ≡ before ++ more)

-- ---- plans

abbrev pub OnePlan : Type 0 → Type 0
OnePlan E = (l : LoadedProject E) (sets : List (List Pair)) (words : List (List ℕ)) (a b : Result Planned (Fault E)) →
    Plans l sets words a → Plans l sets words b → a ≡ b

-- ---- what the laws stand on

abbrev pub rows_of : List (Name × Generated) → List Row
rows_of done = flat_map (λ d. d.1.rows) done

-- what is known of the choice of an alternative and of what is made
pub record IsLawful {E : Type 0} (l : LoadedProject E) : Type 0 where
  pub stays : (c : Chosen) (s : Standing) (before after : List Step) (given : Generated) → Finishes l c s before (Ok (given, after)) →
      (more : List Step) × (after ≡ before ++ more)
  pub again : (c : Chosen) (s : Standing) (before after later : List Step) (given : Generated) → Finishes l c s before (Ok (given, after)) →
      StandIn later after → Finishes l c s later (Ok (given, later))
  pub rows : (c : Chosen) (s : Standing) (before after : List Step) (given : Generated) → Finishes l c s before (Ok (given, after)) →
      (row : Row) × (row.name ≡ c.name) × (given.rows ≡ row ∷ rows_of s.done)
  pub named : (name : Name) (set : List Pair) (c : Chosen) → Chooses l.declared (returned l) name set (Ok c) → c.name ≡ name
  pub done : (s : Standing) (name : Name) (given : Generated) → (with_target l.declared s name given).done ≡ s.done ++ (name, given) ∷ []
