use Rattle.std.proofs.Common.{◌≡◌, take}
use Rattle.std.specs.Prelude.{map}
use Rattle.b2_log.specs.Finding.{path_of}
use Rattle.b2_log.proofs.subject.paths_of.Given as goal

abbrev pub invariant-loop-file : goal.invariant-loop-file
invariant-loop-file l = l.paths.items ≡ map path_of (take l.file-index l.files)
