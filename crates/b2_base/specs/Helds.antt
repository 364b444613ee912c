-- The bytes of a text, wherever they are.
use Rattle.std.specs.Prelude.{ℕ, List, string_bytes}
use Rattle.b2_base.specs.declared.held.Held.{Held}
use Rattle.b2_base.specs.declared.held.Held.TheVariants.{Short, Shared, Alone}

abbrev pub held_bytes : Held → List ℕ
held_bytes (Short text) = text
held_bytes (Shared text) = string_bytes text.value
held_bytes (Alone text) = string_bytes text
