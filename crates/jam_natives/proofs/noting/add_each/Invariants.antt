use Rattle.std.proofs.Common.{◌≡◌, take}
use Rattle.jam_scope.specs.Changes.{changed}
use Rattle.jam_natives.specs.Rows.{add_each}
use Rattle.jam_natives.proofs.noting.add_each.Given as goal

abbrev pub invariant-loop-source : goal.invariant-loop-source
invariant-loop-source l = l.world ≡ changed (add_each (take l.source-index l.sources)) l.fn.world
