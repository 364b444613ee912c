-- What the definitions say, in other words.
use Rattle.std.specs.Prelude.{◌≡◌, ◌≢◌, ℕ, Bool, true, List, [], ◌∷◌, ◌++◌, Some, Result, Ok}
use Rattle.std.specs.List.{Contains, AllPairs}
use Rattle.b2_plan.specs.declared.step.Step.{Step}
use Rattle.b2_plan.specs.Plans.{step_at, Apart}
use Rattle.jam_journal.specs.Tables.{Text}
use Rattle.jam_journal.specs.Scopes.{Value}
use Rattle.jam_scope.specs.Worlds.{Worlds}
use Rattle.jam_graph.specs.declared.said.Said.{Said}
use Rattle.jam_graph.specs.declared.graph.Act.{Act}
use Rattle.jam_graph.specs.declared.graph.Graph.{Graph}
use Rattle.jam_graph.specs.Graphs.{graph_of, IsReady, everything}
use Rattle.jam_graph.specs.Loads.{Refusal}
use Rattle.jam_engine.specs.Targets.{is_acted, place}
use Rattle.jam_engine.specs.Acts.{acts}
use Rattle.jam_engine.specs.Spreads.{next, Meets}
use Rattle.jam_engine.specs.Steps.{text_of}
use Rattle.jam_engine.specs.Plans.{Target, PlansTo}

-- targets come to one plan or refusal
abbrev pub OnePlan : Type 0
OnePlan = (g : Graph) (stands : Text → Bool) (targets : Value) (a b : Result Target Refusal) → PlansTo g stands targets a → PlansTo g stands targets b → a ≡ b

-- each list meets something
abbrev pub EachMeets : Type 0
EachMeets = (g : Graph) (list : Value) → (met : Value) × Meets g [] list met

-- a target leads on to others
pub data Reaches (g : Graph) : Text → Text → Type 0 where
  self : (target : Text) → Reaches g target target
  on : (target middle other : Text) → Contains (next g target) middle → Reaches g middle other → Reaches g target other

-- what is met is what the list leads to, each once
abbrev pub MetIsReached : Type 0
MetIsReached = (g : Graph) (list met : Value) (target : Text) → Meets g [] list met → Contains met target → (first : Text) × Contains list first × Reaches g first target

abbrev pub ReachedIsMet : Type 0
ReachedIsMet = (g : Graph) (list met : Value) (first target : Text) → Meets g [] list met → Contains list first → Reaches g first target → Contains met target

abbrev pub EachIsMetOnce : Type 0
EachIsMetOnce = (g : Graph) (list met : Value) → Meets g [] list met → AllPairs (λ (a b : Text). a ≢ b) met

-- the text of each act is a part of the text of a step that makes its targets: so no act is dropped
pub record HasText (step : Step) (text : Text) : Type 0 where
  pub before : Text
  pub after : Text
  pub is : step.text ≡ before ++ text ++ after

abbrev pub EachActIsInAStep : Type 0
EachActIsInAStep = (g : Graph) (stands : Text → Bool) (targets : Value) (plan : Target) (act : Act) (text : Text) → PlansTo g stands targets (Ok plan) → Contains (acts g stands) act → text_of g stands act ≡ Ok text
    → (number : ℕ) × (step : Step) × (step_at plan.steps number ≡ Some step) × HasText step text × ((target : Text) → Contains act.targets target → Contains step.outs (place g stands target))

-- a requested target that is made is wanted
abbrev pub RequestedIsWanted : Type 0
RequestedIsWanted = (g : Graph) (stands : Text → Bool) (targets : Value) (plan : Target) (target : Text) → PlansTo g stands targets (Ok plan) → Contains targets target → is_acted g target ≡ true → Contains plan.wanted (place g stands target)

-- a plan's outputs are apart
abbrev pub PlanIsApart : Type 0
PlanIsApart = (g : Graph) (stands : Text → Bool) (targets : Value) (plan : Target) → IsReady g → PlansTo g stands targets (Ok plan) → Apart plan.steps plan.roots

-- `all` is the first target of each graph
abbrev pub AllIsFirst : Type 0
AllIsFirst = (path : Text) (ws : Worlds) (calls : List Said) → (more : Value) × ((graph_of path ws calls).targets ≡ everything ∷ more)
