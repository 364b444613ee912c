use Rattle.std.proofs.Common.{◌≡◌, drop}
use Rattle.jam_effects.specs.Naming.{set_own_in, for_each, SameFrames}
use Rattle.jam_effects.proofs.naming.set_own.Given as goal

abbrev pub invariant-loop-target : goal.invariant-loop-target
invariant-loop-target l = record {
  so_far : for_each (drop l.target-index l.targets) (λ target. for_each l.names (set_own_in target l.sign l.value)) l.world
      ≡ for_each l.targets (λ target. for_each l.names (set_own_in target l.sign l.value)) l.initial.world;
  same : SameFrames l.initial.world l.world;
}
