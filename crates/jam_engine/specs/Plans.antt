-- The plan of requested targets in a graph.
use Rattle.std.specs.Prelude.{◌≡◌, ℕ, Bool, not, List, [], ◌∷◌, ◌++◌, Option, Some, None, Result, Ok, Err, map as each}
use Rattle.std.specs.List.{find}
use Rattle.b2_plan.specs.declared.step.Step.{Step}
use Rattle.jam_journal.specs.Tables.{Text}
use Rattle.jam_journal.specs.Scopes.{Value}
use Rattle.jam_graph.specs.declared.graph.Act.{Act}
use Rattle.jam_graph.specs.declared.graph.Graph.{Graph}
use Rattle.jam_graph.specs.Graphs.{everything}
use Rattle.jam_graph.specs.Loads.{Refusal, no_target}
use Rattle.jam_engine.specs.Targets.{is_target, roots, place}
use Rattle.jam_engine.specs.Acts.{acts, acts_at, AreSets}
use Rattle.jam_engine.specs.Spreads.{Spreads}
use Rattle.jam_engine.specs.Steps.{Refuses, Accepts}

-- the targets that words ask for
abbrev pub requested : List Text → Value
requested [] = everything ∷ []
requested (word ∷ words) = word ∷ words

-- the steps, the wanted files and the roots of a plan
pub record Target : Type 0 where
  pub steps : List Step
  pub wanted : List Text
  pub roots : List Text

-- the first word that is no target
abbrev pub unknown : Graph → Value → Option Text
unknown g targets = find (λ target. not (is_target g target)) targets

module _ (g : Graph) (stands : Text → Bool) where
  -- behind some steps, the sets one after another, up to the first that is refused
  pub data Joins : List Step → List (List Act) → Result (List Step) Refusal → Type 0 where
    all : {steps : List Step} → Joins steps [] (Ok steps)
    stops : {steps : List Step} {set : List Act} {more : List (List Act)} (why : Refusal) → Refuses g stands steps set why → Joins steps (set ∷ more) (Err why)
    goes_on : {steps : List Step} {set : List Act} {more : List (List Act)} {last : Result (List Step) Refusal} (step : Step) → Accepts g stands steps set step → Joins (steps ++ step ∷ []) more last → Joins steps (set ∷ more) last

  -- the steps of all sets of linked acts
  pub record Steps (last : Result (List Step) Refusal) : Type 0 where
    pub sets : List (List ℕ)
    pub are : AreSets (acts g stands) sets
    pub joins : Joins [] (each (acts_at (acts g stands)) sets) last

  -- the plan of requested targets, or why there is none
  pub data PlansTo (targets : Value) : Result Target Refusal → Type 0 where
    is_unknown : (target : Text) → unknown g targets ≡ Some target → PlansTo targets (Err (no_target target))
    is_refused : (why : Refusal) → unknown g targets ≡ None → Steps (Err why) → PlansTo targets (Err why)
    is_planned : (steps : List Step) (found : Value) → unknown g targets ≡ None → Steps (Ok steps) → Spreads g stands targets found
        → PlansTo targets (Ok (record { steps = steps; wanted = each (place g stands) found; roots = roots g }))
