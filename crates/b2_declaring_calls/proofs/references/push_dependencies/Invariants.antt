use Rattle.std.proofs.Common.{◌≡◌, ◌++◌, take}
use Rattle.b2_declaring_calls.specs.References.{dependencies}
use Rattle.b2_declaring_calls.proofs.references.push_dependencies.Given as goal

-- the values so far
abbrev pub invariant-loop-text : goal.invariant-loop-text
invariant-loop-text l = l.found ≡ l.fn.found ++ dependencies l.reading (take l.text-index l.texts)
