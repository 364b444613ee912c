use Rattle.std.proofs.Common.{◌≡◌, drop}
use Rattle.std.specs.List.{find}
use Rattle.jam_natives.specs.Targets.{is_no_path}
use Rattle.jam_natives.proofs.target.no_path.Given as goal

abbrev pub invariant-loop-source : goal.invariant-loop-source
invariant-loop-source l = find is_no_path (drop l.source-index l.sources) ≡ find is_no_path l.sources
