use Rattle.std.proofs.Common.{◌≡◌, take}
use Rattle.b2_declaring_calls.specs.References.{list_dependencies}
use Rattle.b2_declaring_calls.proofs.references.list_dependencies.Given as goal

-- the values so far
abbrev pub invariant-loop-list : goal.invariant-loop-list
invariant-loop-list l = l.found ≡ list_dependencies (take l.list-index l.lists)
