use Rattle.std.proofs.Common.{refl, ap, Err}
use Rattle.b2_host.specs.OutsideLaws.{keeps_same}
use Rattle.b2_top.proofs.CleansAnswerAsPromised.{answered_usage, ended_short}
use Rattle.b2_top.proofs.clean.answer.Goals as goal

pub returns-in-Err-Usage : goal.returns-in-Err-Usage
returns-in-Err-Usage g c =
    answered_usage c.args.words.now (g.H.Files.outside c.args.host.now) (g.S.Sink.output c.args.out.now) (g.S.Sink.output c.tell_usage.new.out) c.tell_usage.result
    (c.in-Err-Usage.ensures.usage (ap Err c.in-Err-Usage.field-0-is)) c.tell_usage.ensures

pub returns-in-Err-OutOfMemory : goal.returns-in-Err-OutOfMemory
returns-in-Err-OutOfMemory g c =
    let host = g.H.Files.outside c.args.host.now in
    let out = g.S.Sink.output c.args.out.now in
    ended_short c.args.words.now host host out out refl refl (keeps_same host host refl) refl (λ none. refl)
