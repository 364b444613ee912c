use Rattle.std.proofs.Common.{◌≡◌, take}
use Rattle.b2_host.specs.Output.{with_written}
use Rattle.b2_explain.specs.Lines.{why_lines}
use Rattle.b2_top.proofs.explain.write_whys.Given as goal

abbrev pub invariant-loop-why : goal.invariant-loop-why
invariant-loop-why g l = g.S.Sink.output l.out ≡ with_written (why_lines l.steps (take l.why-index l.whys)) (g.S.Sink.output l.fn.out)
