use Rattle.std.proofs.Common.{◌≡◌, take}
use Rattle.jam_scope.specs.Changes.{changed}
use Rattle.jam_natives.specs.Rows.{import_each}
use Rattle.jam_natives.proofs.importing.import_each.Given as goal

abbrev pub invariant-loop-index : goal.invariant-loop-index
invariant-loop-index l = l.world ≡ changed (import_each l.from (take l.index l.names) l.to (take l.index l.places)) l.fn.world
