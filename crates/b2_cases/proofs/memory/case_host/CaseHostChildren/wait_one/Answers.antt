use Rattle.std.proofs.Common.{[], Ok, sym, subst}
use Rattle.b2_host.specs.Outside.{Outside}
use Rattle.b2_host.specs.ChildCalls.{Awaits}
use Rattle.b2_memory.specs.Hosts.{told_outside}
use Rattle.b2_memory.specs.Results.{made_of}
use Rattle.b2_cases.specs.Untold.{hidden}
use Rattle.b2_cases.proofs.CallsHoldWithFilesHidden.{waits_hidden}
use Rattle.b2_cases.proofs.memory.case_host.CaseHostChildren.wait_one.Goals as goal

pub returns : goal.returns
returns c =
    subst (λ (o : Outside). Awaits (λ text held out. []) (hidden (told_outside c.args.self.now.memory)) c.in_ok-step.step c.in_ok-step.well o) (sym c.clear.ensures)
    (waits_hidden made_of (λ text held out. []) (told_outside c.args.self.now.memory) (told_outside c.wait_one.new.self) (Ok (c.in_ok-step.step, c.in_ok-step.well)) c.in_ok-step.ensures.effect)
