use Rattle.std.proofs.Common.{◌≡◌, ◌≢◌, [], drop}
use Rattle.jam_scope.specs.Changes.{rescoped}
use Rattle.jam_meaning.specs.Forms.{bind_names}
use Rattle.jam_effects.specs.Naming.{SameFrames}
use Rattle.jam_effects.proofs.naming.bind_names.Given as goal

abbrev pub invariant-loop-name : goal.invariant-loop-name
invariant-loop-name l = record {
  framed : l.world.now.scopes.frames ≢ [];
  bound : rescoped (bind_names (drop l.name-index l.names) l.value) l.world ≡ rescoped (bind_names l.names l.value) l.initial.world;
  same : SameFrames l.initial.world l.world;
}
