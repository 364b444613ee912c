use Rattle.std.proofs.Common.{refl, ap, subst, ◌∙◌}
use Rattle.b2_facts.specs.Facts.{no_facts}
use Rattle.b2_host.specs.ChildProcesses.{Family}
use Rattle.b2_facts.specs.declared.stop.FilesStop.TheVariants as files
use Rattle.b2_update.specs.declared.stop.UpdateStop.TheVariants as stops
use Rattle.b2_update.specs.declared.update_answer.UpdateAnswer.TheVariants as answers
use Rattle.b2_host.specs.declared.fault.IoFault.{IoFault}
use Rattle.b2_update.specs.Moments.{moment}
use Rattle.b2_update.specs.Stops.{host_stop_of}
use Rattle.b2_update.specs.Going.{Halts}
use Rattle.b2_update.specs.Endings.{IsAnswered}
use Rattle.b2_update.proofs.AnswerIsGiven.{begin_is_answered}
use Rattle.b2_update.proofs.BegunIsTold.{begun_told, host_failed, memory_failed}
use Rattle.b2_update.proofs.update.run_update.Goals as goal

pub run_to_end-answer-requires-clause-going : goal.run_to_end-answer-requires-clause-going
run_to_end-answer-requires-clause-going g c = (moment (g.H.Files.outside c.args.host.now) (g.S.Sink.output c.args.out.now), c.in-Ok.ensures.going (g.S.Sink.output c.args.out.now))

pub returns-in-Ok-clause-answered : goal.returns-in-Ok-clause-answered
returns-in-Ok-clause-answered g c =
    let here = moment (g.H.Files.outside c.args.host.now) (g.S.Sink.output c.args.out.now) in
    let last = moment (g.H.Files.outside c.run_to_end-answer.new.host) (g.S.Sink.output c.run_to_end-answer.new.out) in
    subst (λ n. IsAnswered c.args.plan.now n here last c.run_to_end-answer.result) c.in-Ok.ensures.jobs (c.run_to_end-answer.ensures.answered here (c.in-Ok.ensures.going (g.S.Sink.output c.args.out.now)))

pub returns-in-Err-Failed-clause-answered : goal.returns-in-Err-Failed-clause-answered
returns-in-Err-Failed-clause-answered g c =
    let out = g.S.Sink.output c.args.out.now in
    begin_is_answered c.args.plan.now c.args.options.jobs (moment (g.H.Files.outside c.args.host.now) out) (moment (g.H.Files.outside c.begin.new.files) out) no_facts (stops.Files files.Host) answers.HostFault (subst (λ (f : IoFault). Halts c.args.plan.now c.args.options.jobs 0 (moment (g.H.Files.outside c.args.host.now) out) (moment (g.H.Files.outside c.begin.new.files) out) (host_stop_of f)) c.in-Err-Failed.field-0-is (c.in-Err-Failed.ensures.going out))
    (ap (λ (f : Family). f.running) c.in-Err-Failed.ensures.same ∙ c.requires.idle) refl

pub returns-in-Err-OutOfMemory-clause-answered : goal.returns-in-Err-OutOfMemory-clause-answered
returns-in-Err-OutOfMemory-clause-answered g c =
    let out = g.S.Sink.output c.args.out.now in
    begin_is_answered c.args.plan.now c.args.options.jobs (moment (g.H.Files.outside c.args.host.now) out) (moment (g.H.Files.outside c.begin.new.files) out) no_facts (stops.Files files.OutOfMemory) answers.OutOfMemory (subst (λ (f : IoFault). Halts c.args.plan.now c.args.options.jobs 0 (moment (g.H.Files.outside c.args.host.now) out) (moment (g.H.Files.outside c.begin.new.files) out) (host_stop_of f)) c.in-Err-OutOfMemory.field-0-is (c.in-Err-OutOfMemory.ensures.going out))
    (ap (λ (f : Family). f.running) c.in-Err-OutOfMemory.ensures.same ∙ c.requires.idle) refl

pub returns-in-Ok-clause-told : goal.returns-in-Ok-clause-told
returns-in-Ok-clause-told g c =
    let entry = moment (g.H.Files.outside c.args.host.now) (g.S.Sink.output c.args.out.now) in
    let here = moment (g.H.Files.outside c.begin.new.files) (g.S.Sink.output c.args.out.now) in
    let after = moment (g.H.Files.outside c.run_to_end-answer.new.host) (g.S.Sink.output c.run_to_end-answer.new.out) in
    begun_told c.args.plan.now c.args.options g.H.Children.made entry here after c.in-Ok.run' c.run_to_end-answer.result c.in-Ok.ensures.jobs c.in-Ok.ensures.asked c.run_to_end-answer.ensures.kept.files
    (c.in-Ok.ensures.told entry.out g.H.Children.made) c.run_to_end-answer.ensures.told

pub returns-in-Err-Failed-clause-told : goal.returns-in-Err-Failed-clause-told
returns-in-Err-Failed-clause-told g c =
    let entry = moment (g.H.Files.outside c.args.host.now) (g.S.Sink.output c.args.out.now) in
    let here = moment (g.H.Files.outside c.begin.new.files) (g.S.Sink.output c.args.out.now) in
    host_failed c.args.plan.now c.args.options g.H.Children.made entry here c.in-Err-Failed.field-0 c.in-Err-Failed.field-0-is c.requires.apart (g.met.H.Files.reads_alike c.begin.new.files) (c.in-Err-Failed.ensures.told entry.out g.H.Children.made)

pub returns-in-Err-OutOfMemory-clause-told : goal.returns-in-Err-OutOfMemory-clause-told
returns-in-Err-OutOfMemory-clause-told g c =
    let entry = moment (g.H.Files.outside c.args.host.now) (g.S.Sink.output c.args.out.now) in
    let here = moment (g.H.Files.outside c.begin.new.files) (g.S.Sink.output c.args.out.now) in
    memory_failed c.args.plan.now c.args.options g.H.Children.made entry here c.in-Err-OutOfMemory.field-0 c.in-Err-OutOfMemory.field-0-is c.requires.apart (g.met.H.Files.reads_alike c.begin.new.files) (c.in-Err-OutOfMemory.ensures.told entry.out g.H.Children.made)
