use Rattle.std.proofs.Common.{ap, inr, refl}
use Rattle.b2_host.specs.OutputLaws.{out_keeps_same}
use Rattle.b2_memory.specs.Hosts.{told_outside}
use Rattle.b2_memory.specs.Memories.{Memory, new_memory}
use Rattle.b2_drill_call.proofs.SummariesTellDrills.{ended_anew}
use Rattle.b2_drill_call.proofs.drill.drill_in_memory.Goals as goal

pub returns-in-Ok-clause-ends : goal.returns-in-Ok-clause-ends
returns-in-Ok-clause-ends g c =
    ended_anew c.args.words.now (told_outside c.in-Ok.host) (told_outside c.run_drill.new.host) (g.S.Sink.output c.args.out.now) (g.S.Sink.output c.run_drill.new.out) c.run_drill.result
    (ap (λ (m : Memory). m.outside) c.in-Ok.ensures) c.run_drill.ensures.ends

pub returns-in-Err-clause-ends : goal.returns-in-Err-clause-ends
returns-in-Err-clause-ends g c = (new_memory.outside, refl)

pub returns-in-Err-clause-usage : goal.returns-in-Err-clause-usage
returns-in-Err-clause-usage g c = λ none. inr (inr refl)

pub returns-in-Err-clause-out_keeps : goal.returns-in-Err-clause-out_keeps
returns-in-Err-clause-out_keeps g c = out_keeps_same (g.S.Sink.output c.args.out.now) (g.S.Sink.output c.args.out.now) refl
