-- How a list of targets is spread.
use Rattle.std.specs.Prelude.{◌≡◌, ℕ, Bool, true, List, [], ◌∷◌, ◌++◌, map as each, reverse, slice_get, if◌then◌else◌}
use Rattle.std.specs.FinMap as map
use Rattle.std.specs.Borrow.{Bor}
use Rattle.std.specs.List.{filter_map}
use Rattle.std.specs.Option.{option_map}
use Rattle.jam_journal.specs.Tables.{Text, Names}
use Rattle.jam_journal.specs.Scopes.{Value}
use Rattle.jam_graph.specs.declared.graph.Graph.{Graph}
use Rattle.jam_engine.specs.Targets.{place}
use Rattle.jam_engine.specs.Tables.{is_in}
use Rattle.jam_engine.specs.Spreads.{next, Spreads}

-- the texts of a stack that lends them
abbrev pub stacked : List (Bor Text) → Value
stacked stack = each (λ text. text.now) stack

-- the second texts of the pairs at some places
abbrev pub seconds_at : List (Text × Text) → List ℕ → Value
seconds_at pairs places = filter_map (λ place. option_map (λ (pair : Text × Text). pair.1) (slice_get pairs place)) places

-- a target that was seen changes nothing; another one is met, and what comes behind it waits
pub record MeetsOne (g : Graph) (target : Text) (seen later : Names Bool) (met more : Value) (stack waits : Value) : Type 0 where
  pub set : later ≡ (if is_in seen target then seen else map.insert seen target true)
  pub met_now : more ≡ (if is_in seen target then met else met ++ target ∷ [])
  pub waiting : waits ≡ (if is_in seen target then stack else stack ++ reverse (next g target))

-- the paths of what a list comes to
pub record SpreadsTo (g : Graph) (stands : Text → Bool) (list : Value) (paths : List Text) : Type 0 where
  pub found : Value
  pub spreads : Spreads g stands list found
  pub are : paths ≡ each (place g stands) found
