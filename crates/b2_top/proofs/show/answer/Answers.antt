use Rattle.std.proofs.Common.{refl, ap, Err}
use Rattle.b2_top.proofs.LooksAnswerAsPromised.{answered_usage, ended_short}
use Rattle.b2_top.proofs.show.answer.Goals as goal

pub returns-in-Err-Usage-clause-answered : goal.returns-in-Err-Usage-clause-answered
returns-in-Err-Usage-clause-answered g c =
    answered_usage c.args.words.now (g.H.Files.outside c.args.host.now) (g.S.Sink.output c.args.out.now) (g.S.Sink.output c.tell_usage.new.out) c.tell_usage.result (c.in-Err-Usage.ensures.usage (ap Err c.in-Err-Usage.field-0-is)) c.tell_usage.ensures

pub returns-in-Err-OutOfMemory-clause-answered : goal.returns-in-Err-OutOfMemory-clause-answered
returns-in-Err-OutOfMemory-clause-answered g c =
    let host = g.H.Files.outside c.args.host.now in
    let out = g.S.Sink.output c.args.out.now in
    ended_short c.args.words.now host host out out refl (λ none. refl)
