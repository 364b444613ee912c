-- Open targets, one above another, and how each came to where it stands.
use Rattle.std.specs.Prelude.{◌≡◌, false, List, [], ◌∷◌, ◌++◌, Ok}
use Rattle.b2_references.specs.Names.{Name, is_among}
use Rattle.b2_props.specs.Sets.{Pair}
use Rattle.b2_plan.specs.declared.step.Step.{Step}
use Rattle.b2_alternatives.specs.Choosing.{Chooses, Chosen}
use Rattle.b2_generate.specs.Answers.{Generated, Outcome}
use Rattle.b2_generate.specs.OpenTargets.{Standing, with_target, at_first, hands_on, next}
use Rattle.b2_alternatives.specs.declared.need.Next.TheVariants.{Due}
use Rattle.b2_declared.specs.declared.whole.Declared.{Declared}
use Rattle.b2_generate.specs.LoadedProjects.{LoadedProject, returned}
use Rattle.b2_generate.specs.Generation.{Depends}

-- an open target: its name, the set that it was asked for with, what was chosen for it, and where it stands
pub record Frame : Type 0 where
  pub name : Name
  pub asked : List Pair
  pub chosen : Chosen
  pub stands : Standing

-- the names of open targets, of which the newest comes first, the oldest name first
abbrev pub opened : List Frame → List Name
opened [] = []
opened (f ∷ rest) = opened rest ++ f.name ∷ []

-- a target that is opened
abbrev pub fresh : Name → List Pair → Chosen → Frame
fresh name asked c = record { name = name; asked = asked; chosen = c; stands = at_first c }

-- an open target after another one was generated for it
abbrev pub supplied : Declared → Frame → Name → Generated → Frame
supplied d f name given = record f { stands = with_target d f.stands name given }

-- A target waits for one that it needs, which is asked for with what it hands on.
pub record Waits (d : Declared) (f : Frame) (name : Name) (asked : List Pair) : Type 0 where
  pub due : next d f.chosen f.stands ≡ Due name
  pub handed : asked ≡ hands_on d f.stands

module _ {E : Type 0} (l : LoadedProject E) where
  -- A target was opened while others are open: it was chosen, and what follows from where it stands with these steps follows from
  -- its beginning with the steps before.
  pub record IsBegun (above : List Name) (f : Frame) (before steps : List Step) : Type 0 where
    pub closed : is_among above f.name ≡ false
    pub chooses : Chooses l.declared (returned l) f.name f.asked (Ok f.chosen)
    pub leads : (outcome : Outcome E Standing) → Depends l (above ++ f.name ∷ []) f.chosen f.stands steps outcome
        → Depends l (above ++ f.name ∷ []) f.chosen (at_first f.chosen) before outcome

  -- The newest open target came to where it stands with these steps; each below it waits for the one above it; and the oldest is
  -- asked for by this name and set, with the steps at the start.
  abbrev pub IsUnderWay : Name → List Pair → List Step → List Frame → List Step → Type 0
  IsUnderWay name set start [] steps = ⊥
  IsUnderWay name set start (f ∷ []) steps = (f.name ≡ name) × (f.asked ≡ set) × IsBegun [] f start steps
  IsUnderWay name set start (f ∷ g ∷ rest) steps =
      (before : List Step) × IsBegun (opened (g ∷ rest)) f before steps × Waits l.declared g f.name f.asked × IsUnderWay name set start (g ∷ rest) before
