use Rattle.std.proofs.Common.{◌≡◌, take}
use Rattle.std.specs.List.{flat_map}
use Rattle.b2_references.specs.References.{listed_targets}
use Rattle.b2_references.proofs.projects.listed.Given as goal

-- the main targets of the projects so far
abbrev pub invariant-loop-project : goal.invariant-loop-project
invariant-loop-project l = l.made ≡ flat_map (listed_targets l.index) (take l.project-index l.projects)
