-- What requirements ask for.
use Rattle.std.specs.Prelude.{ℕ, ◌<◌}
use Rattle.b2_props.specs.declared.requirement.Requirement.{Requirement}
use Rattle.b2_props.specs.declared.requirement.Requirement.TheVariants.{Plain, Indirect}

-- a requirement asks none but the rules below a number
abbrev pub AsksBelow : ℕ → Requirement → Type 0
AsksBelow rules (Plain conditions property) = Unit {0}
AsksBelow rules (Indirect rule) = rule < rules
