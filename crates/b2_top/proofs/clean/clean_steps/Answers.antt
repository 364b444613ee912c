use Rattle.std.proofs.Common.{refl}
use Rattle.b2_top.specs.Cleans.CleansPlan.{cut, told}
use Rattle.b2_top.proofs.clean.clean_steps.Goals as goal

pub returns-in-Ok : goal.returns-in-Ok
returns-in-Ok g c =
    told c.clean_plan-cleaned.result (g.S.Sink.output c.write_echoes.new.out) (g.S.Sink.output c.clean_plan-cleaned.new.out) c.in-Ok.ensures
    c.clean_plan-cleaned.ensures.counts c.clean_plan-cleaned.ensures.told c.clean_plan-cleaned.ensures.written
    c.clean_plan-cleaned.ensures.children c.clean_plan-cleaned.ensures.keeps c.clean_plan-cleaned.ensures.out_keeps c.tell_cleaned.ensures

pub returns-in-Err : goal.returns-in-Err
returns-in-Err g c = cut c.in-Err.fault refl c.in-Err.ensures c.unwritten.ensures
