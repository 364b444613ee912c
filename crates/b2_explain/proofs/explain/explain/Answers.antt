use Rattle.std.proofs.Common.{◌∙◌, Err, ap}
use Rattle.std.proofs.lemmas.Result.{err_from_is_err_and}
use Rattle.b2_explain.specs.declared.survey.Survey.{Survey}
use Rattle.b2_explain.proofs.SurveyIsWhole.{counts_as, counts_no_memory, explain_ok, explain_err, explain_no_memory}
use Rattle.b2_explain.proofs.explain.explain.Goals as goal

pub returns-in_err-survey-clause-counts : goal.returns-in_err-survey-clause-counts
returns-in_err-survey-clause-counts g c =
    let (y, e, q) = err_from_is_err_and c.from_residual.result c.from_residual.ensures.1 in
    counts_as Survey (g.F.Files.outside c.args.files.now) (g.F.Files.outside c.survey.new.files) c.in_err-survey.field-0.0 c.from_residual.result (e ∙ ap Err q) c.in_err-survey.ensures.counts

pub returns-in_err-survey-clause-told : goal.returns-in_err-survey-clause-told
returns-in_err-survey-clause-told g c =
    let (y, e, q) = err_from_is_err_and c.from_residual.result c.from_residual.ensures.1 in
    explain_err c.args.plan.now c.args.all c.args.log.now.lines (g.F.Files.outside c.args.files.now) c.in_err-survey.field-0.0 c.from_residual.result (e ∙ ap Err q) c.in_err-survey.ensures.told

pub causes_of-requires-clause-few : goal.causes_of-requires-clause-few
causes_of-requires-clause-few g c = c.requires.apart.few

pub causes_of-requires-clause-surveyed : goal.causes_of-requires-clause-surveyed
causes_of-requires-clause-surveyed g c = (c.args.all, c.in_ok-survey.ensures.surveyed)

pub returns-in_err-causes_of-clause-counts : goal.returns-in_err-causes_of-clause-counts
returns-in_err-causes_of-clause-counts g c =
    let (y, e, q) = err_from_is_err_and c.from_residual-in_err-causes_of.result c.from_residual-in_err-causes_of.ensures.1 in
    counts_no_memory (g.F.Files.outside c.args.files.now) (g.F.Files.outside c.survey.new.files) c.from_residual-in_err-causes_of.result (e ∙ ap Err q) c.in_ok-survey.ensures.counts

pub returns-in_err-causes_of-clause-told : goal.returns-in_err-causes_of-clause-told
returns-in_err-causes_of-clause-told g c =
    let (y, e, q) = err_from_is_err_and c.from_residual-in_err-causes_of.result c.from_residual-in_err-causes_of.ensures.1 in
    explain_no_memory c.args.plan.now c.args.all c.args.log.now.lines (g.F.Files.outside c.args.files.now) c.from_residual-in_err-causes_of.result (e ∙ ap Err q)

pub returns-clause-told : goal.returns-clause-told
returns-clause-told g c =
    explain_ok c.args.plan.now c.args.all c.args.log.now.lines c.requires.apart c.in_ok-survey.survey (g.F.Files.outside c.args.files.now) c.in_ok-survey.ensures.surveyed c.in_ok-survey.ensures.sound c.in_ok-survey.ensures.whole c.in_ok-survey.ensures.told c.in_ok-causes_of.field-0 c.in_ok-causes_of.ensures
