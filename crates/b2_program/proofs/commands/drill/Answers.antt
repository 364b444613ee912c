use Rattle.std.proofs.Common.{refl}
use Rattle.b2_program.proofs.commands.drill.Goals as goal

pub returns : goal.returns
returns g c = λ host. record {
  last = c.drill_in_memory.ensures.ends.0;
  answered = c.drill_in_memory.ensures.ends.1;
  usage = c.drill_in_memory.ensures.usage;
  host = refl;
  out_keeps = c.drill_in_memory.ensures.out_keeps;
}
