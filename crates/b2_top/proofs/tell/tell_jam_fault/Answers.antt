use Rattle.b2_top.proofs.PiecesWrittenMakeTheWhole.{jam_says}
use Rattle.b2_top.proofs.tell.tell_jam_fault.Goals as goal

pub returns-in_default : goal.returns-in_default
returns-in_default g c =
    jam_says c.args.echoes.now c.args.fault (g.S.Sink.output c.args.out.now) (g.S.Sink.output c.tell_refusal.new.out) c.tell_refusal.result c.in_default.not-Host c.in_default.not-OutOfMemory c.tell_refusal.ensures
