use Rattle.std.proofs.Common.{ℕ, List, Result, IfSome, IfOk, IfErr, inl, ap, ◌∙◌, subst}
use Rattle.b2_prepare.specs.Preparing.{IsPrepared, LinesTold, TestsTold, Counts, IsWhole}
use Rattle.b2_prepare.specs.declared.refusal.PlanStop.{PlanStop}
use Rattle.b2_request_plan.specs.declared.planned.Planned.{Planned}
use Rattle.b2_host.specs.ChildProcesses.{Family}
use Rattle.b2_host.specs.Disks.{Disk}
use Rattle.b2_host.specs.OutsideLaws.{keeps_then}
use Rattle.b2_plan.specs.Plans.{Apart}
use Rattle.b2_update.specs.Moments.{moment}
use Rattle.b2_update.specs.declared.options.Options.{Options}
use Rattle.b2_top.specs.Writing.{AnswersStop}
use Rattle.b2_top.specs.Running.{Runs}
use Rattle.b2_top.proofs.FaultsCountFromEarlier.{left_from}
use Rattle.b2_top.proofs.BuildsAnswerAsPromised.{run_of, stopped}
use Rattle.b2_top.proofs.build.build.Goals as goal

pub run_plan-answer-requires-clause-idle : goal.run_plan-answer-requires-clause-idle
run_plan-answer-requires-clause-idle g c = ap (λ (f : Family). f.running) c.prepare-echoes.ensures.children ∙ c.requires.idle

pub returns-in-Ok-clause-builds : goal.returns-in-Ok-clause-builds
returns-in-Ok-clause-builds g c = λ words asked.
    let made = g.H.Children.made in
    let h0 = g.H.Files.outside c.args.host.now in
    let h1 = g.H.Files.outside c.prepare-echoes.new.files in
    let h2 = g.H.Files.outside c.run_plan-answer.new.host in
    let o0 = g.S.Sink.output c.args.out.now in
    let o2 = g.S.Sink.output c.run_plan-answer.new.out in
    let echoes = c.prepare-echoes.result.echoes in
    let planned = c.in-Ok.planned in
    let command = c.args.command.now in
    let words_told = subst (λ (l : List (List ℕ)). IfSome h0.disk (λ (disk : Disk). IsPrepared disk l echoes c.prepare-echoes.result.result)) c.as_slice.ensures c.prepare-echoes.ensures.told in
    let told = subst (λ (r : Result Planned PlanStop). IfSome h0.disk (λ (disk : Disk). IsPrepared disk command.words echoes r)) c.in-Ok.is words_told in
    let tests = c.prepare-echoes.result.tests.items in
    let words_asked = subst (λ (l : List (List ℕ)). IfSome h0.disk (λ (disk : Disk). TestsTold disk l c.prepare-echoes.result.result tests)) c.as_slice.ensures c.prepare-echoes.ensures.tests in
    let asks = subst (λ (r : Result Planned PlanStop). IfSome h0.disk (λ (disk : Disk). TestsTold disk command.words r tests)) c.in-Ok.is words_asked in
    let apart = subst (λ (r : Result Planned PlanStop). IfOk r (λ (p : Planned). Apart p.plan.steps p.plan.roots)) c.in-Ok.is c.prepare-echoes.ensures.apart in
    let same = subst (λ (r : Result Planned PlanStop). Counts r h0 h1) c.in-Ok.is c.prepare-echoes.ensures.counts in
    let run = subst (λ (lines : List (List ℕ)). Runs made lines c.options_of-options.result planned.plan c.as_slice-in-Ok-2.result.now (moment h1 o0) (moment h2 o2) c.run_plan-answer.result) c.as_slice-in-Ok.ensures c.run_plan-answer.ensures.runs in
    let tests_so = subst (λ (ts : List (List ℕ × ℕ)). Runs made echoes c.options_of-options.result planned.plan ts (moment h1 o0) (moment h2 o2) c.run_plan-answer.result) c.as_slice-in-Ok-2.ensures.value run in
    let asked_so = subst (λ (o : Options). Runs made echoes o planned.plan tests (moment h1 o0) (moment h2 o2) c.run_plan-answer.result) c.options_of-options.ensures tests_so in
    run_of c.one_meaning.ensures made words command asked h0 h1 o0 c.requires.idle echoes c.prepare-echoes.ensures.disk c.prepare-echoes.ensures.children
    planned tests told asks apart same c.prepare-echoes.ensures.keeps h2 o2 c.run_plan-answer.result asked_so

pub returns-in-Ok-clause-none_left : goal.returns-in-Ok-clause-none_left
returns-in-Ok-clause-none_left g c =
    let h0 = g.H.Files.outside c.args.host.now in
    let h1 = g.H.Files.outside c.prepare-echoes.new.files in
    let h2 = g.H.Files.outside c.run_plan-answer.new.host in
    let keeps = c.prepare-echoes.ensures.keeps in
    left_from h0 h1 h2 keeps.faults keeps.risks keeps.waits c.run_plan-answer.ensures.none_left

pub returns-in-Ok-clause-keeps : goal.returns-in-Ok-clause-keeps
returns-in-Ok-clause-keeps g c = keeps_then _ _ _ c.prepare-echoes.ensures.keeps c.run_plan-answer.ensures.keeps

pub returns-clause-builds : goal.returns-clause-builds
returns-clause-builds g c = λ words asked.
    let made = g.H.Children.made in
    let h0 = g.H.Files.outside c.args.host.now in
    let h1 = g.H.Files.outside c.prepare-echoes.new.files in
    let o0 = g.S.Sink.output c.args.out.now in
    let o1 = g.S.Sink.output c.tell_stop.new.out in
    let echoes = c.prepare-echoes.result.echoes in
    let command = c.args.command.now in
    let words_told = subst (λ (l : List (List ℕ)). IfSome h0.disk (λ (disk : Disk). IsPrepared disk l echoes c.prepare-echoes.result.result)) c.as_slice.ensures c.prepare-echoes.ensures.told in
    let told = subst (λ (r : Result Planned PlanStop). IfSome h0.disk (λ (disk : Disk). IsPrepared disk command.words echoes r)) c.in-Err.is words_told in
    let words_lines = subst (λ (l : List (List ℕ)). IfSome h0.disk (λ (disk : Disk). LinesTold disk l echoes c.prepare-echoes.result.result)) c.as_slice.ensures c.prepare-echoes.ensures.lines in
    let lines_told = subst (λ (r : Result Planned PlanStop). IfSome h0.disk (λ (disk : Disk). LinesTold disk command.words echoes r)) c.in-Err.is words_lines in
    let whole = subst (λ (r : Result Planned PlanStop). IfErr r IsWhole) c.in-Err.is c.prepare-echoes.ensures.whole in
    let counts = subst (λ (r : Result Planned PlanStop). Counts r h0 h1) c.in-Err.is c.prepare-echoes.ensures.counts in
    let says = subst (λ (lines : List (List ℕ)). AnswersStop lines c.in-Err.stop o0 o1 c.tell_stop.result) c.as_slice-in-Err.ensures c.tell_stop.ensures in
    stopped c.one_meaning.ensures made words command asked h0 h1 o0 c.requires.idle echoes c.prepare-echoes.ensures.disk c.prepare-echoes.ensures.children
    o1 c.in-Err.stop c.tell_stop.result told lines_told whole counts says

pub returns-clause-none_left : goal.returns-clause-none_left
returns-clause-none_left g c = inl (ap (λ (f : Family). f.running) c.prepare-echoes.ensures.children ∙ c.requires.idle)

pub returns-clause-keeps : goal.returns-clause-keeps
returns-clause-keeps g c = c.prepare-echoes.ensures.keeps
