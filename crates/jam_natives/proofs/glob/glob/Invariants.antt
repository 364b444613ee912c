use Rattle.std.proofs.Common.{◌≡◌, take}
use Rattle.jam_natives.specs.Sights.{WhereSeen}
use Rattle.jam_natives.specs.Globs.{globbed}
use Rattle.jam_natives.proofs.glob.glob.Given as goal

abbrev pub invariant-loop-dir : goal.invariant-loop-dir
invariant-loop-dir g l = record {
  files : g.F.Files.outside l.files ≡ g.F.Files.outside l.fn.files;
  so_far : WhereSeen (g.F.Files.outside l.fn.files).disk (λ sight. l.found ≡ globbed sight l.roots (take l.dir-index l.dirs) l.patterns);
}
