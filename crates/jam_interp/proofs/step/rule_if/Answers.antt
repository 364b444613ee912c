use Rattle.std.proofs.Common.{◌≡◌, Some, ◌∙◌, subst}
use Rattle.jam_scope.specs.Lines.{rule_place}
use Rattle.jam_effects.specs.Machines.{machine}
use Rattle.jam_meaning.specs.StepJobs.{job_of}
use Rattle.jam_effects.proofs.RecordingDoesAsDefined.{some_key}
use Rattle.jam_interp.proofs.StepsCallTheirRule.{rule_called}
use Rattle.jam_interp.proofs.step.rule_if.Goals as goal

pub returns : goal.returns
returns g c =
    let at = some_key _ _ _ _ c.find_rule.ensures.found c.is_none.ensures c.if-is_none.false in
    rule_called (job_of c.args.job.now) c.args.at.now at.0 c.as_slice.result.now
    (machine c.args.world.now c.args.turns.now (g.N.Natives.kept c.args.natives.now) (g.N.Natives.meaning c.args.natives.now) (g.F.Files.outside c.args.files.now))
    (machine c.call.new.world c.call.new.turns (g.N.Natives.kept c.call.new.natives) (g.N.Natives.meaning c.call.new.natives) (g.F.Files.outside c.call.new.files)) c.call.result
    (subst (λ n. rule_place n c.args.world.now.now ≡ Some at.0) c.as_str.ensures.value at.1) (c.as_slice.ensures ∙ c.in_ok-lists.ensures) c.requires c.call.ensures
