use Rattle.std.proofs.Common.{◌∙◌, List, Err, sym, ap, subst}
use Rattle.std.proofs.lemmas.Result.{err_from_is_err_and}
use Rattle.b2_host.specs.LogChanges.{keeps_log_changes}
use Rattle.b2_plan.specs.declared.step.Step.{Step}
use Rattle.b2_explain.specs.Removing.{HaveOwnOuts, CleansMore}
use Rattle.b2_explain.proofs.PlanIsCleaned.{own_outs}
use Rattle.b2_explain.proofs.PlanEnds.{plan_counts, plan_children, plan_keeps, plan_told, plan_written, unopened_counts, unopened_told, unopened_written}
use Rattle.b2_explain.proofs.clean.clean_plan.Goals as goal

pub clean_steps-requires-clause-own : goal.clean_steps-requires-clause-own
clean_steps-requires-clause-own g c = subst HaveOwnOuts (sym c.as_slice.ensures) (own_outs c.args.plan.now.steps c.args.plan.now.roots c.requires.apart)

pub returns-in_err-journal-clause-counts : goal.returns-in_err-journal-clause-counts
returns-in_err-journal-clause-counts g c =
    let (y, e, q) = err_from_is_err_and c.from_residual.result c.from_residual.ensures.1 in
    let failed = c.in_err-journal.ensures in
    unopened_counts c.args.plan.now c.requires.apart (g.F.Files.outside c.args.files.now) (g.F.Files.outside c.open.new.files) (g.S.Sink.output c.args.out.now) failed.only_log c.in_err-journal.field-0.0 c.from_residual.result (e ∙ ap Err q) failed.counts failed.may_fail failed.opens

pub returns-in_err-journal-clause-told : goal.returns-in_err-journal-clause-told
returns-in_err-journal-clause-told g c =
    let (y, e, q) = err_from_is_err_and c.from_residual.result c.from_residual.ensures.1 in
    let failed = c.in_err-journal.ensures in
    unopened_told c.args.plan.now c.requires.apart (g.F.Files.outside c.args.files.now) (g.F.Files.outside c.open.new.files) (g.S.Sink.output c.args.out.now) failed.only_log c.in_err-journal.field-0.0 c.from_residual.result (e ∙ ap Err q) failed.counts failed.may_fail failed.opens

pub returns-in_err-journal-clause-written : goal.returns-in_err-journal-clause-written
returns-in_err-journal-clause-written g c =
    let (y, e, q) = err_from_is_err_and c.from_residual.result c.from_residual.ensures.1 in
    let failed = c.in_err-journal.ensures in
    unopened_written c.args.plan.now c.requires.apart (g.F.Files.outside c.args.files.now) (g.F.Files.outside c.open.new.files) (g.S.Sink.output c.args.out.now) failed.only_log c.in_err-journal.field-0.0 c.from_residual.result (e ∙ ap Err q) failed.counts failed.may_fail failed.opens

pub returns-in_err-journal-clause-keeps : goal.returns-in_err-journal-clause-keeps
returns-in_err-journal-clause-keeps g c = keeps_log_changes (g.F.Files.outside c.args.files.now) (g.F.Files.outside c.open.new.files) c.in_err-journal.ensures.only_log

pub returns-clause-counts : goal.returns-clause-counts
returns-clause-counts g c =
    let x = g.F.Files.outside c.args.files.now in
    let y = g.F.Files.outside c.open.new.files in
    let z = g.F.Files.outside c.clean_steps.new.files in
    let a = g.S.Sink.output c.args.out.now in
    let b = g.S.Sink.output c.clean_steps.new.out in
    let opened = c.in_ok-journal.ensures in
    let cleaned = subst (λ (steps : List Step). CleansMore steps 0 y a c.in_ok-journal.journal z b c.clean_steps.new.journal c.clean_steps.result) c.as_slice.ensures c.clean_steps.ensures in
    plan_counts c.args.plan.now c.requires.apart x y a opened.only_log z b c.in_ok-journal.journal c.clean_steps.new.journal opened.counts opened.good opened.opens c.clean_steps.result cleaned

pub returns-clause-told : goal.returns-clause-told
returns-clause-told g c =
    let x = g.F.Files.outside c.args.files.now in
    let y = g.F.Files.outside c.open.new.files in
    let z = g.F.Files.outside c.clean_steps.new.files in
    let a = g.S.Sink.output c.args.out.now in
    let b = g.S.Sink.output c.clean_steps.new.out in
    let opened = c.in_ok-journal.ensures in
    let cleaned = subst (λ (steps : List Step). CleansMore steps 0 y a c.in_ok-journal.journal z b c.clean_steps.new.journal c.clean_steps.result) c.as_slice.ensures c.clean_steps.ensures in
    plan_told c.args.plan.now c.requires.apart x y a opened.only_log z b c.in_ok-journal.journal c.clean_steps.new.journal opened.counts opened.good opened.opens c.clean_steps.result cleaned

pub returns-clause-written : goal.returns-clause-written
returns-clause-written g c =
    let x = g.F.Files.outside c.args.files.now in
    let y = g.F.Files.outside c.open.new.files in
    let z = g.F.Files.outside c.clean_steps.new.files in
    let a = g.S.Sink.output c.args.out.now in
    let b = g.S.Sink.output c.clean_steps.new.out in
    let opened = c.in_ok-journal.ensures in
    let cleaned = subst (λ (steps : List Step). CleansMore steps 0 y a c.in_ok-journal.journal z b c.clean_steps.new.journal c.clean_steps.result) c.as_slice.ensures c.clean_steps.ensures in
    plan_written c.args.plan.now c.requires.apart x y a opened.only_log z b c.in_ok-journal.journal c.clean_steps.new.journal opened.counts opened.good opened.opens c.clean_steps.result cleaned

pub returns-clause-children : goal.returns-clause-children
returns-clause-children g c =
    let x = g.F.Files.outside c.args.files.now in
    let y = g.F.Files.outside c.open.new.files in
    let z = g.F.Files.outside c.clean_steps.new.files in
    let a = g.S.Sink.output c.args.out.now in
    let b = g.S.Sink.output c.clean_steps.new.out in
    let opened = c.in_ok-journal.ensures in
    let cleaned = subst (λ (steps : List Step). CleansMore steps 0 y a c.in_ok-journal.journal z b c.clean_steps.new.journal c.clean_steps.result) c.as_slice.ensures c.clean_steps.ensures in
    plan_children c.args.plan.now c.requires.apart x y a opened.only_log z b c.in_ok-journal.journal c.clean_steps.new.journal opened.counts opened.good opened.opens c.clean_steps.result cleaned

pub returns-clause-keeps : goal.returns-clause-keeps
returns-clause-keeps g c =
    let x = g.F.Files.outside c.args.files.now in
    let y = g.F.Files.outside c.open.new.files in
    let z = g.F.Files.outside c.clean_steps.new.files in
    let a = g.S.Sink.output c.args.out.now in
    let b = g.S.Sink.output c.clean_steps.new.out in
    let opened = c.in_ok-journal.ensures in
    let cleaned = subst (λ (steps : List Step). CleansMore steps 0 y a c.in_ok-journal.journal z b c.clean_steps.new.journal c.clean_steps.result) c.as_slice.ensures c.clean_steps.ensures in
    plan_keeps c.args.plan.now c.requires.apart x y a opened.only_log z b c.in_ok-journal.journal c.clean_steps.new.journal opened.counts opened.good opened.opens c.clean_steps.result cleaned
