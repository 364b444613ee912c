use Rattle.std.proofs.Common.{◌≡◌, take}
use Rattle.jam_scan.specs.Gatherings.{with_paths}
use Rattle.jam_scan.proofs.closure.Closure.add_all.Given as goal

-- the paths so far have come in
abbrev pub invariant-loop-path : goal.invariant-loop-path
invariant-loop-path l = l.self ≡ with_paths l.fn.self (take l.path-index l.paths)
