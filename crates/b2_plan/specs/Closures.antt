use Rattle.std.specs.Prelude.{ℕ, List, Option, Some, None}
use Rattle.std.specs.List.{Contains, AllPairs, filter_map}
use Rattle.b2_base.specs.Bytes.{Before}
use Rattle.b2_plan.specs.declared.step.Step.{Step}
use Rattle.b2_plan.specs.Sources.{Build, Includes}

-- a value of a path: its bytes, or None for an output of a notfile step, where no file is asked for
abbrev pub Value : Type 0
Value = Option (List ℕ)

-- what is known of values: v path value says that the path has the value
abbrev pub Values : Type 1
Values = List ℕ → Value → Type 0

-- The least set with the step's inputs and, for each member whose bytes are known, each of its includes.
pub data Known (b : Build) (v : Values) (step : Step) : List ℕ → Type 0 where
  input : (path : List ℕ) → Contains step.ins path → Known b v step path
  include : (path bytes found : List ℕ) → Known b v step path → v path (Some bytes) → Includes b step path bytes found → Known b v step found

-- The closure of a step: the members of `Known` with their values, in byte order of path. So each member has a value.
pub record IsClosure (b : Build) (v : Values) (step : Step) (members : List (List ℕ × Value)) : Type 0 where
  pub ordered : AllPairs (λ x y. Before x.0 y.0) members
  pub each : (path : List ℕ) (value : Value) → Contains members (path, value) → Known b v step path × v path value
  pub whole : (path : List ℕ) → Known b v step path → (value : Value) × Contains members (path, value)

-- a member that has bytes, with them
abbrev pub named : List ℕ × Value → Option (List ℕ × List ℕ)
named (path, None) = None
named (path, Some bytes) = Some (path, bytes)

-- the members that have bytes
abbrev pub with_bytes : List (List ℕ × Value) → List (List ℕ × List ℕ)
with_bytes members = filter_map named members
