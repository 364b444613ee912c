-- What follows from results.
use Rattle.std.specs.Prelude.{Result, Ok, Err}

-- what follows from a value, unless there is a fault
abbrev pub and_then : {A B E : Type 0} → (A → Result B E) → Result A E → Result B E
and_then next (Ok value) = next value
and_then next (Err fault) = Err fault
