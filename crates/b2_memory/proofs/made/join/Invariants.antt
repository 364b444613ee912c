use Rattle.std.proofs.Common.{◌≡◌, ◌++◌, map, drop}
use Rattle.b2_base.specs.Segments.{texts}
use Rattle.b2_files.specs.Stores.{write_of}
use Rattle.b2_memory.specs.Results.{joined}
use Rattle.b2_memory.proofs.made.join.Given as goal

-- what is joined so far, and what is still to be joined
abbrev pub invariant-loop-name : goal.invariant-loop-name
invariant-loop-name l = l.bytes.items ++ joined (map write_of l.held) (texts (drop l.name-index l.names)) ≡ joined (map write_of l.held) (texts l.names)
