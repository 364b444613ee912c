use Rattle.std.proofs.Common.{◌≡◌, ◌++◌, take}
use Rattle.b2_declaring_calls.specs.Directories.{directories}
use Rattle.b2_declaring_calls.proofs.naming.push_directories.Given as goal

-- the directories so far
abbrev pub invariant-loop-text : goal.invariant-loop-text
invariant-loop-text l = l.found ≡ l.fn.found ++ directories l.owner (take l.text-index l.texts)
