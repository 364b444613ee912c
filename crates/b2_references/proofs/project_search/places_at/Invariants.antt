use Rattle.std.proofs.Common.{◌≡◌, take}
use Rattle.std.specs.List.{filter_map}
use Rattle.b2_references.specs.References.{place_at}
use Rattle.b2_references.proofs.project_search.places_at.Given as goal

-- the projects of the directories so far
abbrev pub invariant-loop-dir : goal.invariant-loop-dir
invariant-loop-dir l = l.made.items ≡ filter_map (place_at l.index) (take l.dir-index l.dirs)
