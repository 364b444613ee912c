use Rattle.std.proofs.Common.{Err, ap, inr, refl}
use Rattle.b2_host.specs.OutputLaws.{out_keeps_same}
use Rattle.b2_memory.specs.Hosts.{told_outside}
use Rattle.b2_refusals.specs.Lines.{usage_line}
use Rattle.b2_top.specs.declared.answer.Answer.TheVariants as answers
use Rattle.b2_update.specs.Moments.{moment}
use Rattle.b2_drill_call.specs.Asked.{drill_of}
use Rattle.b2_drill_call.specs.Drilled.{GoesWithoutFaults}
use Rattle.b2_drill_call.proofs.DrillsHaveTargets.{few_targets}
use Rattle.b2_drill_call.proofs.SummariesTellDrills.{says_keeps, asked_for, refused, usage_said, no_drill, gone_asked, gone_refused, gone_nowhere}
use Rattle.b2_drill_call.proofs.drill.run_drill.Goals as goal

-- ---- the words ask for a drill

pub returns-in-Ok-clause-ends : goal.returns-in-Ok-clause-ends
returns-in-Ok-clause-ends g c =
    asked_for c.args.words.now c.in-Ok.n (moment (told_outside c.args.host.now) (g.S.Sink.output c.args.out.now)) (moment (told_outside c.drill.new.host) (g.S.Sink.output c.drill.new.out)) c.drill.result
    c.in-Ok.ensures.ok c.drill.ensures.ends

pub returns-in-Ok-clause-usage : goal.returns-in-Ok-clause-usage
returns-in-Ok-clause-usage g c = λ none. no_drill (drill_of c.args.words.now) c.in-Ok.n c.in-Ok.ensures.ok none

pub returns-in-Ok-clause-alone : goal.returns-in-Ok-clause-alone
returns-in-Ok-clause-alone g c = λ none. no_drill (drill_of c.args.words.now) c.in-Ok.n c.in-Ok.ensures.ok none

pub returns-in-Ok-clause-gone : goal.returns-in-Ok-clause-gone
returns-in-Ok-clause-gone g c =
    gone_asked (λ n. GoesWithoutFaults n (told_outside c.args.host.now) (told_outside c.drill.new.host)) (drill_of c.args.words.now) c.in-Ok.n c.in-Ok.ensures.ok
    (c.drill.ensures.gone (few_targets c.args.words.now c.in-Ok.n c.in-Ok.ensures.ok))

-- ---- they do not

pub returns-in-Err-Usage-clause-ends : goal.returns-in-Err-Usage-clause-ends
returns-in-Err-Usage-clause-ends g c =
    refused c.args.words.now (moment (told_outside c.args.host.now) (g.S.Sink.output c.args.out.now)) (moment (told_outside c.args.host.now) (g.S.Sink.output c.tell_usage.new.out)) c.tell_usage.result
    (c.in-Err-Usage.ensures.usage (ap Err c.in-Err-Usage.field-0-is)) c.tell_usage.ensures

pub returns-in-Err-Usage-clause-usage : goal.returns-in-Err-Usage-clause-usage
returns-in-Err-Usage-clause-usage g c = λ none. usage_said usage_line (g.S.Sink.output c.args.out.now) (g.S.Sink.output c.tell_usage.new.out) c.tell_usage.result c.tell_usage.ensures

pub returns-in-Err-Usage-clause-alone : goal.returns-in-Err-Usage-clause-alone
returns-in-Err-Usage-clause-alone g c = λ none. refl

pub returns-in-Err-Usage-clause-gone : goal.returns-in-Err-Usage-clause-gone
returns-in-Err-Usage-clause-gone g c =
    gone_refused (λ n. GoesWithoutFaults n (told_outside c.args.host.now) (told_outside c.args.host.now)) (drill_of c.args.words.now) (c.in-Err-Usage.ensures.usage (ap Err c.in-Err-Usage.field-0-is))

pub returns-in-Err-Usage-clause-out_keeps : goal.returns-in-Err-Usage-clause-out_keeps
returns-in-Err-Usage-clause-out_keeps g c = says_keeps answers.Usage usage_line (g.S.Sink.output c.args.out.now) (g.S.Sink.output c.tell_usage.new.out) c.tell_usage.result c.tell_usage.ensures

-- ---- memory ran out at the words

pub returns-in-Err-OutOfMemory-clause-ends : goal.returns-in-Err-OutOfMemory-clause-ends
returns-in-Err-OutOfMemory-clause-ends g c = refl

pub returns-in-Err-OutOfMemory-clause-usage : goal.returns-in-Err-OutOfMemory-clause-usage
returns-in-Err-OutOfMemory-clause-usage g c = λ none. inr (inr refl)

pub returns-in-Err-OutOfMemory-clause-alone : goal.returns-in-Err-OutOfMemory-clause-alone
returns-in-Err-OutOfMemory-clause-alone g c = λ none. refl

pub returns-in-Err-OutOfMemory-clause-gone : goal.returns-in-Err-OutOfMemory-clause-gone
returns-in-Err-OutOfMemory-clause-gone g c = gone_nowhere (drill_of c.args.words.now) (told_outside c.args.host.now)

pub returns-in-Err-OutOfMemory-clause-out_keeps : goal.returns-in-Err-OutOfMemory-clause-out_keeps
returns-in-Err-OutOfMemory-clause-out_keeps g c = out_keeps_same (g.S.Sink.output c.args.out.now) (g.S.Sink.output c.args.out.now) refl
