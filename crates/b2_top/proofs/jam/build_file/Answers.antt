use Rattle.std.proofs.Common.{ℕ, List, [], Result, IfSome, IfOk, IfErr, inl, ap, ◌∙◌, subst}
use Rattle.b2_host.specs.ChildProcesses.{Family}
use Rattle.b2_host.specs.Disks.{Disk}
use Rattle.b2_host.specs.OutsideLaws.{keeps_then}
use Rattle.b2_plan.specs.Plans.{Apart}
use Rattle.b2_plan.specs.declared.plan.Plan.{Plan}
use Rattle.b2_update.specs.Moments.{moment}
use Rattle.b2_update.specs.declared.options.Options.{Options}
use Rattle.jam_graph.specs.declared.fault.JamFault.{JamFault}
use Rattle.jam_graph.specs.Loading.{Counts, IsWhole}
use Rattle.jam_prepare.specs.Preparing.{IsPrepared, LinesTold}
use Rattle.b2_top.specs.Writing.{AnswersJam}
use Rattle.b2_top.specs.Running.{Runs}
use Rattle.b2_top.proofs.FaultsCountFromEarlier.{left_from}
use Rattle.b2_top.proofs.FilesAnswerAsPromised.{run_of, stopped}
use Rattle.b2_top.proofs.jam.build_file.Goals as goal

pub run_plan-answer-requires-clause-idle : goal.run_plan-answer-requires-clause-idle
run_plan-answer-requires-clause-idle g c = ap (λ (f : Family). f.running) c.prepare_jam-echoes.ensures.children ∙ c.requires.idle

pub returns-in-Ok-clause-calls : goal.returns-in-Ok-clause-calls
returns-in-Ok-clause-calls g c =
    let made = g.H.Children.made in
    let h0 = g.H.Files.outside c.args.host.now in
    let h1 = g.H.Files.outside c.prepare_jam-echoes.new.files in
    let h2 = g.H.Files.outside c.run_plan-answer.new.host in
    let o0 = g.S.Sink.output c.args.out.now in
    let o2 = g.S.Sink.output c.run_plan-answer.new.out in
    let echoes = c.prepare_jam-echoes.result.echoes in
    let plan = c.in-Ok.plan in
    let asked = c.args.asked.now in
    let words_told = subst (λ (l : List (List ℕ)). IfSome h0.disk (λ (disk : Disk). IsPrepared disk asked.file l echoes c.prepare_jam-echoes.result.result)) c.as_slice.ensures c.prepare_jam-echoes.ensures.told in
    let told = subst (λ (r : Result Plan JamFault). IfSome h0.disk (λ (disk : Disk). IsPrepared disk asked.file asked.command.words echoes r)) c.in-Ok.is words_told in
    let apart = subst (λ (r : Result Plan JamFault). IfOk r (λ (p : Plan). Apart p.steps p.roots)) c.in-Ok.is c.prepare_jam-echoes.ensures.apart in
    let same = subst (λ (r : Result Plan JamFault). Counts r h0 h1) c.in-Ok.is c.prepare_jam-echoes.ensures.counts in
    let run = subst (λ (lines : List (List ℕ)). Runs made lines c.options_of-options.result plan [] (moment h1 o0) (moment h2 o2) c.run_plan-answer.result) c.as_slice-in-Ok.ensures c.run_plan-answer.ensures.runs in
    let asked_so = subst (λ (o : Options). Runs made echoes o plan [] (moment h1 o0) (moment h2 o2) c.run_plan-answer.result) c.options_of-options.ensures run in
    run_of c.one_meaning.ensures made asked.file asked.command h0 h1 o0 c.requires.idle echoes c.prepare_jam-echoes.ensures.disk c.prepare_jam-echoes.ensures.children
    plan told apart same c.prepare_jam-echoes.ensures.keeps h2 o2 c.run_plan-answer.result asked_so

pub returns-in-Ok-clause-none_left : goal.returns-in-Ok-clause-none_left
returns-in-Ok-clause-none_left g c =
    let h0 = g.H.Files.outside c.args.host.now in
    let h1 = g.H.Files.outside c.prepare_jam-echoes.new.files in
    let h2 = g.H.Files.outside c.run_plan-answer.new.host in
    let keeps = c.prepare_jam-echoes.ensures.keeps in
    left_from h0 h1 h2 keeps.faults keeps.risks keeps.waits c.run_plan-answer.ensures.none_left

pub returns-in-Ok-clause-keeps : goal.returns-in-Ok-clause-keeps
returns-in-Ok-clause-keeps g c = keeps_then _ _ _ c.prepare_jam-echoes.ensures.keeps c.run_plan-answer.ensures.keeps

pub returns-clause-calls : goal.returns-clause-calls
returns-clause-calls g c =
    let made = g.H.Children.made in
    let h0 = g.H.Files.outside c.args.host.now in
    let h1 = g.H.Files.outside c.prepare_jam-echoes.new.files in
    let o0 = g.S.Sink.output c.args.out.now in
    let o1 = g.S.Sink.output c.tell_jam_fault.new.out in
    let echoes = c.prepare_jam-echoes.result.echoes in
    let asked = c.args.asked.now in
    let words_told = subst (λ (l : List (List ℕ)). IfSome h0.disk (λ (disk : Disk). IsPrepared disk asked.file l echoes c.prepare_jam-echoes.result.result)) c.as_slice.ensures c.prepare_jam-echoes.ensures.told in
    let told = subst (λ (r : Result Plan JamFault). IfSome h0.disk (λ (disk : Disk). IsPrepared disk asked.file asked.command.words echoes r)) c.in-Err.is words_told in
    let lines_told = subst (λ (r : Result Plan JamFault). IfSome h0.disk (λ (disk : Disk). LinesTold disk asked.file echoes r)) c.in-Err.is c.prepare_jam-echoes.ensures.lines in
    let whole = subst (λ (r : Result Plan JamFault). IfErr r IsWhole) c.in-Err.is c.prepare_jam-echoes.ensures.whole in
    let counts = subst (λ (r : Result Plan JamFault). Counts r h0 h1) c.in-Err.is c.prepare_jam-echoes.ensures.counts in
    let says = subst (λ (lines : List (List ℕ)). AnswersJam lines c.in-Err.fault o0 o1 c.tell_jam_fault.result) c.as_slice-in-Err.ensures c.tell_jam_fault.ensures in
    stopped c.one_meaning.ensures made asked.file asked.command h0 h1 o0 c.requires.idle echoes c.prepare_jam-echoes.ensures.disk c.prepare_jam-echoes.ensures.children
    o1 c.in-Err.fault c.tell_jam_fault.result told lines_told whole counts says

pub returns-clause-none_left : goal.returns-clause-none_left
returns-clause-none_left g c = inl (ap (λ (f : Family). f.running) c.prepare_jam-echoes.ensures.children ∙ c.requires.idle)

pub returns-clause-keeps : goal.returns-clause-keeps
returns-clause-keeps g c = c.prepare_jam-echoes.ensures.keeps
