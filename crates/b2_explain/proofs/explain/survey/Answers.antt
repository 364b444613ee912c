use Rattle.std.proofs.Common.{◌∙◌, Err, refl, sym, ap, subst}
use Rattle.std.proofs.lemmas.Result.{err_from_is_err_and}
use Rattle.b2_facts.specs.Facts.{IsAbout}
use Rattle.b2_facts.proofs.FactsAreEntered.{nothing_about}
use Rattle.b2_explain.specs.declared.survey.Survey.{Survey}
use Rattle.b2_explain.proofs.LooksAreSurveyed.{still_disk}
use Rattle.b2_explain.proofs.SurveyIsWhole.{counts_fault, counts_no_memory, ends_ok, ends_err, ends_no_memory}
use Rattle.b2_explain.proofs.explain.survey.Goals as goal

pub returns-in_err-survey-clause-counts : goal.returns-in_err-survey-clause-counts
returns-in_err-survey-clause-counts g c =
    let (y, e, q) = err_from_is_err_and c.from_residual.result c.from_residual.ensures.1 in
    let x = g.F.Files.outside c.args.files.now in
    counts_no_memory x x c.from_residual.result (e ∙ ap Err q) refl

pub returns-in_err-survey-clause-told : goal.returns-in_err-survey-clause-told
returns-in_err-survey-clause-told g c =
    let (y, e, q) = err_from_is_err_and c.from_residual.result c.from_residual.ensures.1 in
    ends_no_memory c.args.plan.now c.args.all c.args.log.now.lines (g.F.Files.outside c.args.files.now) c.from_residual.result (e ∙ ap Err q)

pub look_all-requires-clause-surveyed : goal.look_all-requires-clause-surveyed
look_all-requires-clause-surveyed g c = c.in_ok-survey.ensures.surveyed c.args.all

pub look_all-requires-clause-about : goal.look_all-requires-clause-about
look_all-requires-clause-about g c = subst (IsAbout c.args.plan.now.steps c.args.plan.now.roots) (sym c.in_ok-survey.ensures.facts) (nothing_about c.args.plan.now.steps c.args.plan.now.roots)

pub returns-in-Ok-clause-told : goal.returns-in-Ok-clause-told
returns-in-Ok-clause-told g c =
    let x = g.F.Files.outside c.args.files.now in
    let y = g.F.Files.outside c.look_all.new.files in
    ends_ok c.args.plan.now c.args.all c.args.log.now.lines c.in_ok-survey.survey (c.in_ok-survey.ensures.surveyed c.args.all) c.requires.apart c.in_ok-survey.ensures.facts c.in_ok-survey.ensures.journal c.in_ok-survey.ensures.unjudged x y c.look_all.new.self (g.met.F.Files.consistent c.args.files.now) (still_disk x y c.look_all.ensures.still) tt c.in-Ok.ensures.told

pub returns-in-Err-clause-counts : goal.returns-in-Err-clause-counts
returns-in-Err-clause-counts g c =
    counts_fault (Unit {0}) Survey (g.F.Files.outside c.args.files.now) (g.F.Files.outside c.look_all.new.files) c.look_all.new.self.sights.facts c.in-Err.stop c.fault_of.result c.fault_of.ensures c.in-Err.ensures.faults

pub returns-in-Err-clause-told : goal.returns-in-Err-clause-told
returns-in-Err-clause-told g c =
    let x = g.F.Files.outside c.args.files.now in
    let y = g.F.Files.outside c.look_all.new.files in
    ends_err c.args.plan.now c.args.all c.args.log.now.lines c.in_ok-survey.survey (c.in_ok-survey.ensures.surveyed c.args.all) c.requires.apart c.in_ok-survey.ensures.facts c.in_ok-survey.ensures.journal c.in_ok-survey.ensures.unjudged x y c.look_all.new.self (g.met.F.Files.consistent c.args.files.now) (still_disk x y c.look_all.ensures.still)
    c.in-Err.stop c.fault_of.result c.fault_of.ensures c.in-Err.ensures.told
