use Rattle.std.proofs.Common.{◌≡◌, take}
use Rattle.std.specs.List.{fold}
use Rattle.b2_virtual.specs.Repeats.{with_entry, HasPaths}
use Rattle.b2_virtual.proofs.distinct.Distinct.add_all.Given as goal

abbrev pub invariant-loop-entry : goal.invariant-loop-entry
invariant-loop-entry l = record {
  paths : HasPaths l.self.entries l.self.paths;
  so_far : l.self.entries ≡ fold with_entry l.fn.self.entries (take l.entry-index l.entries);
}
