use Rattle.std.proofs.Common.{Bool, List, ℕ, ◌≡◌}
use Rattle.jam_engine.specs.Looking.{StaysScene}
use Rattle.jam_engine.specs.Tables.{Sees}
use Rattle.jam_engine.proofs.looking.find_seconds.Given as goal

-- what was found so far is so
abbrev pub invariant-loop-pair : goal.invariant-loop-pair
invariant-loop-pair g l = record {
  outside : g.F.Files.outside l.files ≡ g.F.Files.outside l.initial.files;
  index : l.scene.index ≡ l.initial.scene.index;
  roots : l.scene.roots ≡ l.initial.scene.roots;
  so : (stands : List ℕ → Bool) → Sees (g.F.Files.outside l.initial.files).disk stands → StaysScene l.graph stands l.initial.scene l.scene;
}
