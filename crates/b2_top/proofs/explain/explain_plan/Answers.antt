use Rattle.std.proofs.Common.{List, subst}
use Rattle.b2_plan.specs.declared.step.Step.{Step}
use Rattle.b2_top.specs.Explains.{TellsWhys}
use Rattle.b2_top.proofs.explain.explain_plan.Goals as goal

pub returns : goal.returns
returns g c =
    let x = g.S.Sink.output c.args.out.now in
    let y = g.S.Sink.output c.tell_whys.new.out in
    let explained = c.explain_log-explained.result in
    record {
      explained = explained;
      still = c.explain_log-explained.ensures.still;
      counts = c.explain_log-explained.ensures.counts;
      by_log = c.explain_log-explained.ensures.told;
      tells = subst (λ (steps : List Step). TellsWhys c.args.echoes.now steps explained x y c.tell_whys.result) c.as_slice.ensures c.tell_whys.ensures;
    }
