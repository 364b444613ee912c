use Rattle.std.proofs.Common.{arith}
use Rattle.jam_scan.specs.IncludeLines.{includes_of}
use Rattle.jam_scan.proofs.LinesAreReadInOrder.{line_more, line_last, take_rest}
use Rattle.jam_scan.proofs.scan.includes.Goals as goal

pub loop-end-preserved : goal.loop-end-preserved
loop-end-preserved c =
    line_more (includes_of c.args.bytes.now) c.loop-end.found c.add_line.new.found c.loop-end.rest.now c.split_at.result.0.now c.split_at.result.1.now _ c.in-Some.end c.loop-end.invariant c.in-Some.ensures.0 c.in-Some.ensures.1
    c.split_at.ensures.front c.split_at.ensures.back (take_rest _ c.split_at.result.1.now (omega arith)) c.in_ok-add_line.ensures

pub returns : goal.returns
returns c = line_last (includes_of c.args.bytes.now) c.loop-end.found c.add_line-2.new.found c.loop-end.rest.now c.loop-end.invariant c.in_default.ensures c.in_ok-add_line-2.ensures
