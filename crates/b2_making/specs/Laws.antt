-- Laws of what main targets make.
use Rattle.std.specs.Prelude.{◌≡◌, true, List, ◌++◌, Ok}
use Rattle.std.specs.List.{Contains}
use Rattle.b2_plan.specs.declared.step.Step.{Step}
use Rattle.b2_virtual.specs.Joining.{stands_in}
use Rattle.b2_making.specs.Acts.{Outcome, Act}
use Rattle.b2_making.specs.Contexts.{Context, Site}
use Rattle.b2_making.specs.Conversions.{makes}

-- an act has one outcome at most
abbrev pub IsOne : {E A : Type 0} → Act E A → Type 0
IsOne {E} {A} act = (before : List Step) (a b : Outcome E A) → act before a → act before b → a ≡ b

-- the steps before an act stay as they are, and new ones stand after them
abbrev pub StepsStay : {E A : Type 0} → Act E A → Type 0
StepsStay {E} {A} act = (before after : List Step) (value : A) → act before (Ok (value, after)) → (more : List Step) × (after ≡ before ++ more)

-- the steps stand among others
abbrev pub StandIn : List Step → List Step → Type 0
StandIn others steps = (step : Step) → Contains steps step → stands_in others step ≡ true

-- where the steps that were there afterwards stand in others, an act gives the same there, and no step is new
abbrev pub IsRepeated : {E A : Type 0} → Act E A → Type 0
IsRepeated {E} {A} act =
    (before after later : List Step) (value : A) → act before (Ok (value, after)) → StandIn later after → act later (Ok (value, later))

-- what a main target makes is one thing at most
abbrev pub OneOutcome : Type 0 → Type 0
OneOutcome E = (c : Context E) (s : Site) → IsOne (makes c s)

abbrev pub MadeStepsStay : Type 0 → Type 0
MadeStepsStay E = (c : Context E) (s : Site) → StepsStay (makes c s)

abbrev pub MakesAgain : Type 0 → Type 0
MakesAgain E = (c : Context E) (s : Site) → IsRepeated (makes c s)
