use Rattle.std.proofs.Common.{ℕ, List, Result, IfSome, IfErr, subst}
use Rattle.b2_prepare.specs.Preparing.{IsPrepared, Counts, IsWhole}
use Rattle.b2_prepare.specs.declared.refusal.PlanStop.{PlanStop}
use Rattle.b2_request_plan.specs.declared.planned.Planned.{Planned}
use Rattle.b2_host.specs.Disks.{Disk}
use Rattle.b2_update.specs.Moments.{moment}
use Rattle.b2_top.specs.Explains.{TellsPlan}
use Rattle.b2_top.specs.Writing.{AnswersStop}
use Rattle.b2_top.proofs.ExplanationsAnswerAsPromised.{answered_plan, answered_stop}
use Rattle.b2_top.proofs.explain.explain_words.Goals as goal

pub returns-in-Ok : goal.returns-in-Ok
returns-in-Ok g c = λ words asked.
    let h0 = g.H.Files.outside c.args.host.now in
    let h1 = g.H.Files.outside c.prepare-echoes.new.files in
    let h2 = g.H.Files.outside c.explain_plan.new.host in
    let o0 = g.S.Sink.output c.args.out.now in
    let o2 = g.S.Sink.output c.explain_plan.new.out in
    let echoes = c.prepare-echoes.result.echoes in
    let planned = c.in-Ok.planned in
    let command = c.args.command.now in
    let words_told = subst (λ (l : List (List ℕ)). IfSome h0.disk (λ (disk : Disk). IsPrepared disk l echoes c.prepare-echoes.result.result)) c.as_slice.ensures c.prepare-echoes.ensures.told in
    let told = subst (λ (r : Result Planned PlanStop). IfSome h0.disk (λ (disk : Disk). IsPrepared disk command.words echoes r)) c.in-Ok.is words_told in
    let same = subst (λ (r : Result Planned PlanStop). Counts r h0 h1) c.in-Ok.is c.prepare-echoes.ensures.counts in
    let tells = subst (λ (lines : List (List ℕ)). TellsPlan lines planned.plan command.all (moment h1 o0) (moment h2 o2) c.explain_plan.result) c.as_slice-echoes.ensures c.explain_plan.ensures in
    answered_plan c.one_meaning.ensures words command asked h0 h1 h2 o0 o2 echoes c.prepare-echoes.ensures.disk c.prepare-echoes.ensures.children c.prepare-echoes.ensures.keeps
    same planned told c.explain_plan.result tells

pub returns : goal.returns
returns g c = λ words asked.
    let h0 = g.H.Files.outside c.args.host.now in
    let h1 = g.H.Files.outside c.prepare-echoes.new.files in
    let o0 = g.S.Sink.output c.args.out.now in
    let o1 = g.S.Sink.output c.tell_stop.new.out in
    let echoes = c.prepare-echoes.result.echoes in
    let command = c.args.command.now in
    let words_told = subst (λ (l : List (List ℕ)). IfSome h0.disk (λ (disk : Disk). IsPrepared disk l echoes c.prepare-echoes.result.result)) c.as_slice.ensures c.prepare-echoes.ensures.told in
    let told = subst (λ (r : Result Planned PlanStop). IfSome h0.disk (λ (disk : Disk). IsPrepared disk command.words echoes r)) c.in-Err.is words_told in
    let whole = subst (λ (r : Result Planned PlanStop). IfErr r IsWhole) c.in-Err.is c.prepare-echoes.ensures.whole in
    let counts = subst (λ (r : Result Planned PlanStop). Counts r h0 h1) c.in-Err.is c.prepare-echoes.ensures.counts in
    let says = subst (λ (lines : List (List ℕ)). AnswersStop lines c.in-Err.stop o0 o1 c.tell_stop.result) c.as_slice-in-Err.ensures c.tell_stop.ensures in
    answered_stop c.one_meaning.ensures words command asked h0 h1 o0 o1 echoes c.prepare-echoes.ensures.disk c.prepare-echoes.ensures.children c.prepare-echoes.ensures.keeps
    c.in-Err.stop c.tell_stop.result told whole counts says
