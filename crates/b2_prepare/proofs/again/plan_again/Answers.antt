use Rattle.std.proofs.Common.{Err, sym, ap, subst, ◌∙◌}
use Rattle.b2_host.specs.Outside.{Outside}
use Rattle.b2_base.specs.Counts.{CountsFault}
use Rattle.b2_own_text.specs.Faults.{is_host_fault, is_out_of_memory}
use Rattle.b2_prepare.specs.Again.{AnswersAgain}
use Rattle.b2_prepare.proofs.RefusedPatternGivesNoPlan.{text_same, answers_again_after, answers_again_text}
use Rattle.b2_prepare.proofs.again.plan_again.Goals as goal

pub returns-then-is_refused-clause-answers_again : goal.returns-then-is_refused-clause-answers_again
returns-then-is_refused-clause-answers_again g c =
    let outside = g.F.Files.outside in
    let from = outside c.args.first.host.files.now in
    let mid = outside c.ask.new.self.host.files.now in
    let to = outside c.plan_refusing.result.own.host.files.now in
    let sets = c.args.request.now.sets in
    let targets = c.args.request.now.targets in
    let same = ap outside c.take_refused.ensures.files in
    answers_again_after c.args.declared.now c.args.first.loaded.world sets targets from mid to c.plan_refusing.result.result
    (c.in-Err.ensures.disk ∙ ap (λ (o : Outside). o.disk) same)
    (text_same from mid c.in-Err.fault (sym c.is_refused.ensures ∙ c.if-is_refused.true)
    (subst (λ (o : Outside). CountsFault (is_host_fault c.in-Err.fault) (is_out_of_memory c.in-Err.fault) o.faults mid.faults) same c.in-Err.ensures.counted))
    (subst (λ ws. AnswersAgain c.args.declared.now ws sets targets mid to c.plan_refusing.result.result) (c.in-Err.ensures.world ∙ c.take_refused.ensures.world) c.plan_refusing.ensures.answers_again)

pub returns-clause-answers_again : goal.returns-clause-answers_again
returns-clause-answers_again g c =
    let outside = g.F.Files.outside in
    let from = outside c.args.first.host.files.now in
    let to = outside c.ask.new.self.host.files.now in
    subst (λ stop. AnswersAgain c.args.declared.now c.args.first.loaded.world c.args.request.now.sets c.args.request.now.targets from to (Err stop)) (sym c.stop_of_text-stop.ensures)
    (answers_again_text c.args.declared.now c.args.first.loaded.world c.args.request.now.sets c.args.request.now.targets from to c.in-Err.fault
    (subst (λ (o : Outside). CountsFault (is_host_fault c.in-Err.fault) (is_out_of_memory c.in-Err.fault) o.faults to.faults) (ap outside c.take_refused.ensures.files) c.in-Err.ensures.counted))
