use Rattle.std.proofs.Common.{◌≡◌, take}
use Rattle.b2_host.specs.Output.{with_written}
use Rattle.b2_top.specs.Looks.{table_lines}
use Rattle.b2_top.proofs.look_lines.write_table.Given as goal

abbrev pub invariant-loop-row : goal.invariant-loop-row
invariant-loop-row g l = g.S.Sink.output l.out ≡ with_written (table_lines (take l.row-index l.table)) (g.S.Sink.output l.fn.out)
