use Rattle.std.proofs.Common.{refl, inl}
use Rattle.b2_host.specs.OutsideLaws.{keeps_same}
use Rattle.b2_top.specs.Running.Runs.{updates, stops}
use Rattle.b2_top.proofs.build.run_plan.Goals as goal

pub returns-in-Ok-clause-runs : goal.returns-in-Ok-clause-runs
returns-in-Ok-clause-runs g c = updates (g.S.Sink.output c.write_echoes.new.out) c.in-Ok.ensures c.update_plan.ensures.updates

pub returns-in-Ok-clause-none_left : goal.returns-in-Ok-clause-none_left
returns-in-Ok-clause-none_left g c = c.update_plan.ensures.none_left

pub returns-in-Ok-clause-keeps : goal.returns-in-Ok-clause-keeps
returns-in-Ok-clause-keeps g c = c.update_plan.ensures.keeps

pub returns-in-Err-clause-runs : goal.returns-in-Err-clause-runs
returns-in-Err-clause-runs g c = stops c.in-Err.fault c.in-Err.ensures refl c.unwritten.ensures

pub returns-in-Err-clause-none_left : goal.returns-in-Err-clause-none_left
returns-in-Err-clause-none_left g c = inl c.requires.idle

pub returns-in-Err-clause-keeps : goal.returns-in-Err-clause-keeps
returns-in-Err-clause-keeps g c = keeps_same _ _ refl
