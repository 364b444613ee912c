use Rattle.std.proofs.Common.{◌≡◌, false, map, take}
use Rattle.std.specs.List.{list_any}
use Rattle.b2_base.specs.Segments.{normal_of}
use Rattle.jam_natives.specs.OutputDirs.{is_no_root}
use Rattle.jam_natives.proofs.output_dirs.roots_of.Given as goal

abbrev pub invariant-loop-dir : goal.invariant-loop-dir
invariant-loop-dir l = record { so_far : l.roots ≡ map normal_of (take l.dir-index l.dirs); good : list_any is_no_root (take l.dir-index l.dirs) ≡ false }
