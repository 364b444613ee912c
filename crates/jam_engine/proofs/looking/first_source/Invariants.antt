use Rattle.std.proofs.Common.{Bool, List, drop, ℕ, ◌≡◌}
use Rattle.jam_engine.specs.Tables.{Sees}
use Rattle.jam_engine.specs.Targets.{first_source}
use Rattle.jam_engine.proofs.looking.first_source.Given as goal

-- no directory so far has the source
abbrev pub invariant-loop-dir : goal.invariant-loop-dir
invariant-loop-dir g l = record {
  outside : g.F.Files.outside l.files ≡ g.F.Files.outside l.initial.files;
  none : (stands : List ℕ → Bool) → Sees (g.F.Files.outside l.initial.files).disk stands → first_source l.roots stands (drop l.dir-index l.dirs) l.name ≡ first_source l.roots stands l.dirs l.name;
}
