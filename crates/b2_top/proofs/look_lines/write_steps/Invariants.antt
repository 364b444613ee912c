use Rattle.std.proofs.Common.{◌≡◌, take}
use Rattle.b2_host.specs.Output.{with_written}
use Rattle.b2_top.specs.Looks.{steps_lines}
use Rattle.b2_top.proofs.look_lines.write_steps.Given as goal

abbrev pub invariant-loop-step : goal.invariant-loop-step
invariant-loop-step g l = g.S.Sink.output l.out ≡ with_written (steps_lines (take l.step-index l.steps)) (g.S.Sink.output l.fn.out)
