use Rattle.std.proofs.Common.{◌≡◌, [], take}
use Rattle.std.specs.List.{flat_map, fold}
use Rattle.b2_virtual.specs.Repeats.{with_entry, HasPaths}
use Rattle.b2_virtual.proofs.supplies.carried_of.Given as goal

abbrev pub invariant-loop-supply : goal.invariant-loop-supply
invariant-loop-supply l = record {
  paths : HasPaths l.made.entries l.made.paths;
  so_far : l.made.entries ≡ fold with_entry [] (flat_map (λ s. s.carried) (take l.supply-index l.supplies));
}
