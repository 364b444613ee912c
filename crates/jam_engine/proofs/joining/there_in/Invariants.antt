use Rattle.std.proofs.Common.{filter, take, ◌≡◌}
use Rattle.std.specs.List.{AllByRecursion}
use Rattle.jam_engine.specs.Scenes.{IsKnown, is_there_in}
use Rattle.jam_engine.proofs.joining.there_in.Given as goal

abbrev pub invariant-loop-source : goal.invariant-loop-source
invariant-loop-source l = record {
  kept : l.kept ≡ filter (is_there_in l.scene) (take l.source-index l.sources);
  known : AllByRecursion (IsKnown l.scene) (take l.source-index l.sources);
}
