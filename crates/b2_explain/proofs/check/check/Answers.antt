use Rattle.std.proofs.Common.{◌∙◌, Err, ap}
use Rattle.std.proofs.lemmas.Result.{err_from_is_err_and}
use Rattle.b2_explain.specs.declared.survey.Survey.{Survey}
use Rattle.b2_explain.proofs.SurveyIsWhole.{counts_as, check_ok, check_err}
use Rattle.b2_explain.proofs.check.check.Goals as goal

pub returns-in_err-survey-clause-counts : goal.returns-in_err-survey-clause-counts
returns-in_err-survey-clause-counts g c =
    let (y, e, q) = err_from_is_err_and c.from_residual.result c.from_residual.ensures.1 in
    counts_as Survey (g.F.Files.outside c.args.files.now) (g.F.Files.outside c.survey.new.files) c.in_err-survey.field-0.0 c.from_residual.result (e ∙ ap Err q) c.in_err-survey.ensures.counts

pub returns-in_err-survey-clause-told : goal.returns-in_err-survey-clause-told
returns-in_err-survey-clause-told g c =
    let (y, e, q) = err_from_is_err_and c.from_residual.result c.from_residual.ensures.1 in
    check_err c.args.plan.now c.args.all c.args.log.now.lines c.args.why.now (g.F.Files.outside c.args.files.now) c.in_err-survey.field-0.0 c.from_residual.result (e ∙ ap Err q) c.in_err-survey.ensures.told

pub returns-clause-told : goal.returns-clause-told
returns-clause-told g c =
    check_ok c.args.plan.now c.args.all c.args.log.now.lines c.requires.apart c.in_ok-survey.survey (g.F.Files.outside c.args.files.now) c.in_ok-survey.ensures.surveyed c.in_ok-survey.ensures.sound c.in_ok-survey.ensures.whole c.in_ok-survey.ensures.told c.args.why.now c.is_why.result c.is_why.ensures
