use Rattle.std.proofs.Common.{◌≡◌, take}
use Rattle.b2_host.specs.Output.{with_written}
use Rattle.b2_endings.specs.Writings.{skipped_lines}
use Rattle.b2_endings.proofs.lists.tell_skipped.Given as goal

abbrev pub invariant-loop-number : goal.invariant-loop-number
invariant-loop-number g l = g.S.Sink.output l.out ≡ with_written (skipped_lines l.steps (take l.number-index l.numbers)) (g.S.Sink.output l.fn.out)
