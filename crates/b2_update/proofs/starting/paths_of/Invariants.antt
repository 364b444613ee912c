use Rattle.std.proofs.Common.{◌≡◌, Some, take}
use Rattle.std.specs.List.{AllZip}
use Rattle.b2_facts.specs.Facts.{path_at}
use Rattle.b2_update.proofs.starting.paths_of.Given as goal

-- the paths of the numbers so far
abbrev pub invariant-loop-number : goal.invariant-loop-number
invariant-loop-number l = AllZip (λ n path. path_at l.facts n ≡ Some path) (take l.number-index l.numbers) l.paths.items
