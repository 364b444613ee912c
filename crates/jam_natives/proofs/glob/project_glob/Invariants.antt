use Rattle.std.proofs.Common.{◌≡◌, take}
use Rattle.std.specs.List.{flat_map}
use Rattle.jam_natives.specs.Sights.{WhereSeen}
use Rattle.jam_natives.specs.Globs.{found_by}
use Rattle.jam_natives.proofs.glob.project_glob.Given as goal

abbrev pub invariant-loop-pattern : goal.invariant-loop-pattern
invariant-loop-pattern g l = record {
  files : g.F.Files.outside l.files ≡ g.F.Files.outside l.fn.files;
  so_far : WhereSeen (g.F.Files.outside l.fn.files).disk (λ sight. l.found ≡ flat_map (found_by sight l.roots l.place l.excluded) (take l.pattern-index l.patterns));
}
