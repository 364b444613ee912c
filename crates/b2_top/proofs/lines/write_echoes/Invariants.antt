use Rattle.std.proofs.Common.{◌≡◌, take}
use Rattle.b2_host.specs.Output.{with_written}
use Rattle.b2_top.specs.Reports.{echo_lines}
use Rattle.b2_top.proofs.lines.write_echoes.Given as goal

abbrev pub invariant-loop-echo : goal.invariant-loop-echo
invariant-loop-echo g l = g.S.Sink.output l.out ≡ with_written (echo_lines (take l.echo-index l.echoes)) (g.S.Sink.output l.fn.out)
