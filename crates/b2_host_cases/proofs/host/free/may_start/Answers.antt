use Rattle.std.proofs.Common.{sym, ◌∙◌}
use Rattle.b2_host_cases.proofs.MayStart.{may_start_beside}
use Rattle.b2_host_cases.proofs.host.free.may_start.Goals as goal

pub returns : goal.returns
returns c = λ holds. may_start_beside c.args.ins.now c.args.outs.now c.args.running.now (sym c.are_beside.ensures ∙ holds)
