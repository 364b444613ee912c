use Rattle.jam_meaning.specs.Outcomes.{in_module}
use Rattle.jam_meaning.specs.States.{with_world, with_worlds}
use Rattle.jam_meaning.specs.Eval.{run_call}
use Rattle.jam_scope.specs.Changes.{mark}
use Rattle.jam_meaning.specs.Rolled.{nowhere, step_open, in_step}
use Rattle.jam_meaning.proofs.FramesStay.{back_same}
use Rattle.jam_meaning.proofs.laws.rolled_back.Goals as goal

pub returns-clause-call : goal.returns-clause-call
returns-clause-call c _ setting name lists s = back_same s (run_call setting name lists nowhere (with_worlds mark s))

pub returns-clause-step : goal.returns-clause-step
returns-clause-step c _ setting job s = back_same s (in_module job.owner (λ s₂. in_step setting job s₂) (with_world (step_open job) (with_worlds mark s)))
