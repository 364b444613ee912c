use Rattle.std.proofs.Common.{◌≡◌, ℕ, List, map, take}
use Rattle.b2_files.specs.Stores.{write_of}
use Rattle.b2_memory.specs.NamedBytes.{bytes_found}
use Rattle.b2_memory.specs.Results.{bytes_named}
use Rattle.b2_memory.proofs.made.by_name.Given as goal

-- the inputs so far are found
abbrev pub invariant-loop-input : goal.invariant-loop-input
invariant-loop-input l = (name : List ℕ) → bytes_found l.found name ≡ bytes_named (map write_of (take l.input-index l.held)) name
