use Rattle.std.specs.Prelude.{◌≡◌, ℕ, Bool, false, List, Result, Err}
use Rattle.b2_props.specs.Sets.{Pair}

-- how rules, named by their numbers, answer for a set: with properties or with a fault
abbrev pub Answer : Type 0 → Type 0
Answer F = ℕ → List Pair → Result (List Pair) F

-- a fault is the one of an answer, unless it is one of the host or out of memory
abbrev pub IsFaultOf : {F T : Type 0} → (F → Bool) → (F → Bool) → Result T F → F → Type 0
IsFaultOf is_host is_memory answer fault = is_host fault ≡ false → is_memory fault ≡ false → answer ≡ Err fault
