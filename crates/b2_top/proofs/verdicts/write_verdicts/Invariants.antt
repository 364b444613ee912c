use Rattle.std.proofs.Common.{◌≡◌, take}
use Rattle.std.specs.List.{zip, flat_map}
use Rattle.b2_host.specs.Output.{with_written}
use Rattle.b2_top.proofs.VerdictsAreWritten.{judged_line}
use Rattle.b2_top.proofs.verdicts.write_verdicts.Given as goal

abbrev pub invariant-loop-place : goal.invariant-loop-place
invariant-loop-place g l = g.S.Sink.output l.out ≡ with_written (flat_map judged_line (take l.place (zip l.tests l.verdicts))) (g.S.Sink.output l.fn.out)
