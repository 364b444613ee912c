use Rattle.std.proofs.Common.{◌≡◌, take}
use Rattle.std.specs.List.{flat_map}
use Rattle.b2_host.specs.Output.{with_written}
use Rattle.b2_runs.specs.Reports.{missing_line}
use Rattle.b2_endings.proofs.lists.tell_missing.Given as goal

abbrev pub invariant-loop-path : goal.invariant-loop-path
invariant-loop-path g l = g.S.Sink.output l.out ≡ with_written (flat_map missing_line (take l.path-index l.paths)) (g.S.Sink.output l.fn.out)
