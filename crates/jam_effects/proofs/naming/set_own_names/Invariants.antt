use Rattle.std.proofs.Common.{◌≡◌, drop}
use Rattle.jam_effects.specs.Naming.{set_own_in, for_each, SameFrames}
use Rattle.jam_effects.proofs.naming.set_own_names.Given as goal

abbrev pub invariant-loop-name : goal.invariant-loop-name
invariant-loop-name l = record {
  so_far : for_each (drop l.name-index l.names) (set_own_in l.target l.sign l.value) l.world ≡ for_each l.names (set_own_in l.target l.sign l.value) l.initial.world;
  same : SameFrames l.initial.world l.world;
}
