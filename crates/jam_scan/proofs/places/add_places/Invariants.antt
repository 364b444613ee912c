use Rattle.std.proofs.Common.{◌≡◌, ◌++◌, map, take}
use Rattle.jam_scan.specs.Places.{in_dir}
use Rattle.jam_scan.proofs.places.add_places.Given as goal

-- the directories so far
abbrev pub invariant-loop-dir : goal.invariant-loop-dir
invariant-loop-dir l = l.found ≡ l.fn.found ++ map (in_dir l.name) (take l.dir-index l.dirs)
