use Rattle.std.proofs.Common.{sym, subst}
use Rattle.b2_host.specs.ChildProcesses.{MayStart}
use Rattle.b2_host.specs.Outside.{Outside}
use Rattle.b2_host.specs.ChildCalls.{Starts}
use Rattle.b2_memory.specs.Hosts.{told_outside}
use Rattle.b2_cases.specs.Untold.{hidden}
use Rattle.b2_cases.proofs.CallsHoldWithFilesHidden.{may_start, starts_hidden}
use Rattle.b2_cases.proofs.memory.case_host.CaseHostChildren.start.Goals as goal

pub start-requires : goal.start-requires
start-requires c = may_start (told_outside c.note.new.self.memory).children c.args.ins.now c.args.outs.now (subst (λ (o : Outside). MayStart o.children.running c.args.ins.now c.args.outs.now) (sym c.note.ensures) c.requires)

pub returns : goal.returns
returns c =
    subst (λ (o : Outside). Starts c.args.step c.args.text.now c.args.ins.now c.args.outs.now o (hidden (told_outside c.start.new.self)) c.start.result) c.note.ensures
    (starts_hidden c.args.step c.args.text.now c.args.ins.now c.args.outs.now (told_outside c.note.new.self.memory) (told_outside c.start.new.self) c.start.result c.start.ensures.effect)
