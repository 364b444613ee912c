use Rattle.std.proofs.Common.{◌≡◌, ◌++◌, [], take}
use Rattle.std.specs.List.{filter, flat_map, fold}
use Rattle.b2_virtual.specs.Supplies.{is_library}
use Rattle.b2_virtual.specs.Repeats.{with_entry, HasPaths}
use Rattle.b2_virtual.proofs.supplies.libraries_of.Given as goal

abbrev pub invariant-loop-supply : goal.invariant-loop-supply
invariant-loop-supply l = record {
  paths : HasPaths l.made.entries l.made.paths;
  so_far : l.made.entries ≡ fold with_entry [] (flat_map (λ s. filter is_library s.entries ++ s.carried) (take l.supply-index l.supplies));
}
