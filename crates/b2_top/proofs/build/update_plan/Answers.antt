use Rattle.std.proofs.Common.{List, [], refl, subst}
use Rattle.b2_top.specs.Reports.{refusal_report}
use Rattle.b2_top.specs.Writing.{Says}
use Rattle.b2_top.specs.declared.answer.Answer.TheVariants as answers
use Rattle.b2_plan.specs.declared.step.Step.{Step}
use Rattle.b2_refusals.specs.declared.fault.Fault.TheVariants as faults
use Rattle.b2_update.specs.declared.update_answer.UpdateAnswer.TheVariants as ended
use Rattle.b2_top.proofs.build.update_plan.Goals as goal

pub tell_verdicts-requires-clause-apart : goal.tell_verdicts-requires-clause-apart
tell_verdicts-requires-clause-apart g c = c.requires.apart

pub returns-in-Done-clause-updates : goal.returns-in-Done-clause-updates
returns-in-Done-clause-updates g c =
    record {
      ended = ended.Done;
      out = g.S.Sink.output c.update.new.out;
      counts = c.in-Done.ensures.counts;
      out_keeps = c.in-Done.ensures.out_keeps;
      turns = c.in-Done.ensures.turns;
      left_open = c.in-Done.ensures.left_open;
      told = c.in-Done.ensures.told;
      ends = c.tell_verdicts.ensures;
    }

pub returns-in-Done-clause-none_left : goal.returns-in-Done-clause-none_left
returns-in-Done-clause-none_left g c = c.in-Done.ensures.none_left

pub returns-in-Done-clause-keeps : goal.returns-in-Done-clause-keeps
returns-in-Done-clause-keeps g c = c.in-Done.ensures.keeps

pub returns-in-Failed-clause-updates : goal.returns-in-Failed-clause-updates
returns-in-Failed-clause-updates g c =
    record {
      ended = ended.Failed c.in-Failed.lists;
      out = g.S.Sink.output c.update.new.out;
      counts = c.in-Failed.ensures.counts;
      out_keeps = c.in-Failed.ensures.out_keeps;
      turns = c.in-Failed.ensures.turns;
      left_open = c.in-Failed.ensures.left_open;
      told = c.in-Failed.ensures.told;
      ends = c.tell_verdicts-in-Failed.ensures;
    }

pub returns-in-Failed-clause-none_left : goal.returns-in-Failed-clause-none_left
returns-in-Failed-clause-none_left g c = c.in-Failed.ensures.none_left

pub returns-in-Failed-clause-keeps : goal.returns-in-Failed-clause-keeps
returns-in-Failed-clause-keeps g c = c.in-Failed.ensures.keeps

pub returns-in-StepCycle-clause-updates : goal.returns-in-StepCycle-clause-updates
returns-in-StepCycle-clause-updates g c =
    let x = g.S.Sink.output c.update.new.out in
    let y = g.S.Sink.output c.tell_refusal.new.out in
    let fault = faults.StepCycle c.in-StepCycle.list in
    record {
      ended = ended.StepCycle c.in-StepCycle.list;
      out = g.S.Sink.output c.update.new.out;
      counts = c.in-StepCycle.ensures.counts;
      out_keeps = c.in-StepCycle.ensures.out_keeps;
      turns = c.in-StepCycle.ensures.turns;
      left_open = c.in-StepCycle.ensures.left_open;
      told = c.in-StepCycle.ensures.told;
      ends = subst (λ (steps : List Step). Says (answers.Refused fault) (refusal_report [] steps fault) x y c.tell_refusal.result) c.as_slice.ensures c.tell_refusal.ensures;
    }

pub returns-in-StepCycle-clause-none_left : goal.returns-in-StepCycle-clause-none_left
returns-in-StepCycle-clause-none_left g c = c.in-StepCycle.ensures.none_left

pub returns-in-StepCycle-clause-keeps : goal.returns-in-StepCycle-clause-keeps
returns-in-StepCycle-clause-keeps g c = c.in-StepCycle.ensures.keeps

pub returns-in-TooBig-clause-updates : goal.returns-in-TooBig-clause-updates
returns-in-TooBig-clause-updates g c =
    let x = g.S.Sink.output c.update.new.out in
    let y = g.S.Sink.output c.tell_refusal-in-TooBig.new.out in
    let fault = faults.TooBig c.in-TooBig.path c.in-TooBig.size in
    record {
      ended = ended.TooBig c.in-TooBig.path c.in-TooBig.size;
      out = g.S.Sink.output c.update.new.out;
      counts = c.in-TooBig.ensures.counts;
      out_keeps = c.in-TooBig.ensures.out_keeps;
      turns = c.in-TooBig.ensures.turns;
      left_open = c.in-TooBig.ensures.left_open;
      told = c.in-TooBig.ensures.told;
      ends = subst (λ (steps : List Step). Says (answers.Refused fault) (refusal_report [] steps fault) x y c.tell_refusal-in-TooBig.result) c.as_slice-in-TooBig.ensures c.tell_refusal-in-TooBig.ensures;
    }

pub returns-in-TooBig-clause-none_left : goal.returns-in-TooBig-clause-none_left
returns-in-TooBig-clause-none_left g c = c.in-TooBig.ensures.none_left

pub returns-in-TooBig-clause-keeps : goal.returns-in-TooBig-clause-keeps
returns-in-TooBig-clause-keeps g c = c.in-TooBig.ensures.keeps

pub returns-in-HostFault-clause-updates : goal.returns-in-HostFault-clause-updates
returns-in-HostFault-clause-updates g c =
    record {
      ended = ended.HostFault;
      out = g.S.Sink.output c.update.new.out;
      counts = c.in-HostFault.ensures.counts;
      out_keeps = c.in-HostFault.ensures.out_keeps;
      turns = c.in-HostFault.ensures.turns;
      left_open = c.in-HostFault.ensures.left_open;
      told = c.in-HostFault.ensures.told;
      ends = c.tell_host_fault.ensures;
    }

pub returns-in-HostFault-clause-none_left : goal.returns-in-HostFault-clause-none_left
returns-in-HostFault-clause-none_left g c = c.in-HostFault.ensures.none_left

pub returns-in-HostFault-clause-keeps : goal.returns-in-HostFault-clause-keeps
returns-in-HostFault-clause-keeps g c = c.in-HostFault.ensures.keeps

pub returns-in-SinkFault-clause-updates : goal.returns-in-SinkFault-clause-updates
returns-in-SinkFault-clause-updates g c =
    record {
      ended = ended.SinkFault;
      out = g.S.Sink.output c.update.new.out;
      counts = c.in-SinkFault.ensures.counts;
      out_keeps = c.in-SinkFault.ensures.out_keeps;
      turns = c.in-SinkFault.ensures.turns;
      left_open = c.in-SinkFault.ensures.left_open;
      told = c.in-SinkFault.ensures.told;
      ends = (refl, refl);
    }

pub returns-in-SinkFault-clause-none_left : goal.returns-in-SinkFault-clause-none_left
returns-in-SinkFault-clause-none_left g c = c.in-SinkFault.ensures.none_left

pub returns-in-SinkFault-clause-keeps : goal.returns-in-SinkFault-clause-keeps
returns-in-SinkFault-clause-keeps g c = c.in-SinkFault.ensures.keeps

pub returns-in-OutOfMemory-clause-updates : goal.returns-in-OutOfMemory-clause-updates
returns-in-OutOfMemory-clause-updates g c =
    record {
      ended = ended.OutOfMemory;
      out = g.S.Sink.output c.update.new.out;
      counts = c.in-OutOfMemory.ensures.counts;
      out_keeps = c.in-OutOfMemory.ensures.out_keeps;
      turns = c.in-OutOfMemory.ensures.turns;
      left_open = c.in-OutOfMemory.ensures.left_open;
      told = c.in-OutOfMemory.ensures.told;
      ends = (refl, refl);
    }

pub returns-in-OutOfMemory-clause-none_left : goal.returns-in-OutOfMemory-clause-none_left
returns-in-OutOfMemory-clause-none_left g c = c.in-OutOfMemory.ensures.none_left

pub returns-in-OutOfMemory-clause-keeps : goal.returns-in-OutOfMemory-clause-keeps
returns-in-OutOfMemory-clause-keeps g c = c.in-OutOfMemory.ensures.keeps
