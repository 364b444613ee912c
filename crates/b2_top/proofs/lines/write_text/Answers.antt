use Rattle.b2_top.proofs.PiecesWrittenMakeTheWhole.{prints_writes, writes_empty}
use Rattle.b2_top.proofs.lines.write_text.Goals as goal

pub returns-then-is_empty : goal.returns-then-is_empty
returns-then-is_empty g c = writes_empty c.args.text.now (g.S.Sink.output c.args.out.now) c.is_empty.result c.is_empty.ensures c.if-is_empty.true

pub returns : goal.returns
returns g c = prints_writes c.as_bytes.result.now c.args.text.now (g.S.Sink.output c.args.out.now) (g.S.Sink.output c.write.new.self) c.write.result c.as_bytes.ensures.value c.write.ensures
