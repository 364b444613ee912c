use Rattle.jam_effects.specs.Machines.{machine}
use Rattle.jam_meaning.specs.StepJobs.{job_of}
use Rattle.jam_interp.proofs.StepTextsAreMadeAside.{step_rolls, back_again, newest_again}
use Rattle.jam_interp.proofs.step.step_text.Goals as goal

pub roll_back-requires : goal.roll_back-requires
roll_back-requires g c = newest_again c.args.world.now c.mark.new.self c.in_step-ended.new.world c.in_ok-mark.mark c.in_ok-mark.ensures.ok c.in_step-ended.ensures.marks c.in_ok-mark.ensures.mark

pub returns : goal.returns
returns g c = record {
  told = step_rolls (job_of c.args.job.now) (machine c.args.world.now c.args.turns.now (g.N.Natives.kept c.args.natives.now) (g.N.Natives.meaning c.args.natives.now) (g.F.Files.outside c.args.files.now)) c.mark.new.self _ c.roll_back.new.self c.in_step-ended.result
      c.in_ok-mark.ensures.ok c.in_step-ended.ensures c.roll_back.ensures;
  world = back_again c.args.world.now c.mark.new.self c.in_step-ended.new.world c.roll_back.new.self c.in_ok-mark.ensures.ok c.in_step-ended.ensures.marks c.roll_back.ensures;
  turns = c.in_step-ended.ensures.turns;
  budget = c.in_step-ended.ensures.budget;
  meaning = c.in_step-ended.ensures.meaning;
  disk = c.in_step-ended.ensures.disk;
  children = c.in_step-ended.ensures.children;
  keeps = c.in_step-ended.ensures.keeps;
  counts = c.in_step-ended.ensures.counts;
  whole = c.in_step-ended.ensures.whole;
  took = c.in_step-ended.ensures.took;
}
