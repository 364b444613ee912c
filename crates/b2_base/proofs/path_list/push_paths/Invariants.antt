use Rattle.std.proofs.Common.{◌≡◌, ◌++◌, take}
use Rattle.b2_base.proofs.path_list.push_paths.Given as goal

abbrev pub invariant-loop-path : goal.invariant-loop-path
invariant-loop-path l = l.made ≡ l.fn.made ++ take l.path-index l.paths
