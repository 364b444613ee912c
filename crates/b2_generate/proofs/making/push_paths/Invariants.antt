use Rattle.std.proofs.Common.{◌≡◌, ◌++◌, map, take}
use Rattle.b2_generate.proofs.making.push_paths.Given as goal

abbrev pub invariant-loop-entry : goal.invariant-loop-entry
invariant-loop-entry l = l.paths ≡ l.fn.paths ++ map (λ e. e.path) (take l.entry-index l.entries)
