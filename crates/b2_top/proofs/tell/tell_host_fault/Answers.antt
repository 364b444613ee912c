use Rattle.std.proofs.Common.{Err, ap, ◌∙◌}
use Rattle.b2_top.specs.Reports.{fault_report}
use Rattle.b2_top.proofs.PiecesWrittenMakeTheWhole.{fault_done, fault_not, fault_short}
use Rattle.b2_top.proofs.tell.tell_host_fault.Goals as goal

pub returns-in-Ok : goal.returns-in-Ok
returns-in-Ok g c =
    fault_done (fault_report c.args.echoes.now) (g.S.Sink.output c.args.out.now) (g.S.Sink.output c.write_host_fault.new.out) c.write_host_fault.result _ c.in-Ok.is c.write_host_fault.ensures

pub returns-in-Err-Failed : goal.returns-in-Err-Failed
returns-in-Err-Failed g c =
    fault_not (fault_report c.args.echoes.now) (g.S.Sink.output c.args.out.now) (g.S.Sink.output c.write_host_fault.new.out) c.write_host_fault.result
    (c.in-Err-Failed.is ∙ ap Err c.in-Err-Failed.field-0-is) c.write_host_fault.ensures

pub returns-in-Err-OutOfMemory : goal.returns-in-Err-OutOfMemory
returns-in-Err-OutOfMemory g c =
    fault_short (fault_report c.args.echoes.now) (g.S.Sink.output c.args.out.now) (g.S.Sink.output c.write_host_fault.new.out) c.write_host_fault.result
    (c.in-Err-OutOfMemory.is ∙ ap Err c.in-Err-OutOfMemory.field-0-is) c.write_host_fault.ensures
