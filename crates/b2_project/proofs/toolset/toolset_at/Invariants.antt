use Rattle.std.proofs.Common.{◌≡◌, None, take}
use Rattle.b2_project.specs.Loads.{up_to_toolset}
use Rattle.b2_project.proofs.toolset.toolset_at.Given as goal

abbrev pub invariant-loop-place : goal.invariant-loop-place
invariant-loop-place l = up_to_toolset (take l.place l.calls) ≡ None
