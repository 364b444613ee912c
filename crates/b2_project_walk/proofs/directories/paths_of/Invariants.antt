use Rattle.std.proofs.Common.{◌≡◌, take, map}
use Rattle.b2_base.specs.Segments.{texts}
use Rattle.b2_project_walk.specs.Directories.{beginnings, path_of}
use Rattle.b2_project_walk.proofs.directories.paths_of.Given as goal

abbrev pub invariant-loop-place : goal.invariant-loop-place
invariant-loop-place l = l.paths ≡ map path_of (beginnings (take l.place (texts l.segments)))
