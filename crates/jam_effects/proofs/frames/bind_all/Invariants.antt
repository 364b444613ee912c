use Rattle.std.proofs.Common.{◌≡◌, ◌≢◌, ◌++◌, []}
use Rattle.std.specs.Vec.Iter.{into_iter_items}
use Rattle.jam_journal.specs.Scopes.{bind_each}
use Rattle.jam_scope.specs.Changes.{rescoped}
use Rattle.jam_values.specs.Bindings.{bindings_of}
use Rattle.jam_effects.proofs.frames.bind_all.Given as goal

abbrev pub invariant-loop-bound : goal.invariant-loop-bound
invariant-loop-bound l = record {
  framed : l.world.now.scopes.frames ≢ [];
  bound : l.world ≡ rescoped (bind_each (bindings_of l.yielded)) l.initial.world;
  whole : l.yielded ++ into_iter_items l.bound-iterator ≡ l.fn.bindings.items;
}
