use Rattle.b2_generate.proofs.CycleListsOpenTargets.{unchosen}
use Rattle.b2_generate.proofs.opening.chosen_for.Goals as goal

pub choose-requires : goal.choose-requires
choose-requires g c = c.requires

pub returns-in-Ok-clause-chosen : goal.returns-in-Ok-clause-chosen
returns-in-Ok-clause-chosen g c = c.in-Ok.ensures.chosen

pub returns-in-Ok-clause-set : goal.returns-in-Ok-clause-set
returns-in-Ok-clause-set g c = c.in-Ok.ensures.set

pub returns-in-Ok-clause-target : goal.returns-in-Ok-clause-target
returns-in-Ok-clause-target g c = c.in-Ok.ensures.target

pub returns-in-Ok-clause-project : goal.returns-in-Ok-clause-project
returns-in-Ok-clause-project g c = c.in-Ok.ensures.project

pub returns-in-Ok-clause-leaves : goal.returns-in-Ok-clause-leaves
returns-in-Ok-clause-leaves g c = record {
  same_answers = c.in-Ok.ensures.leaves.same_answers;
  same_kept = c.in-Ok.ensures.leaves.same_kept;
  counted = c.in-Ok.ensures.leaves.counted;
  known = record {};
}

pub returns-in-Err-clause-refused : goal.returns-in-Err-clause-refused
returns-in-Err-clause-refused g c = λ told is.
    unchosen g.E.Evaluate.is_host_fault g.E.Evaluate.is_out_of_memory c.args.asker.now.index.now told.returned c.args.name.now c.args.asked.now c.in-Err.fault (c.in-Err.ensures.refused told is)

pub returns-in-Err-clause-leaves : goal.returns-in-Err-clause-leaves
returns-in-Err-clause-leaves g c = record {
  same_answers = c.in-Err.ensures.leaves.same_answers;
  same_kept = c.in-Err.ensures.leaves.same_kept;
  counted = c.in-Err.ensures.leaves.counted;
  known = c.in-Err.ensures.leaves.known;
}

pub returns-in-Err-clause-project : goal.returns-in-Err-clause-project
returns-in-Err-clause-project g c = c.in-Err.ensures.project
