use Rattle.std.proofs.Common.{Bool, Some, None, Ok, Err, refl, sym, ap, subst, ◌∙◌}
use Rattle.std.specs.Option.{IfSome, option_copied}
use Rattle.std.proofs.lemmas.Result.{err_from_is_err_and}
use Rattle.b2_log.specs.declared.line.Record.{Record}
use Rattle.b2_log.specs.declared.line.LogLine.TheVariants as lines
use Rattle.b2_log.specs.Good.{IsProper}
use Rattle.b2_verdicts.specs.Points.{IsSavedBy, IsNotSavedBy}
use Rattle.b2_verdicts.specs.VerdictCalls.{IsOfStep, LastTells, Asks}
use Rattle.b2_verdicts.proofs.MoreIsKnown.{knows_same}
use Rattle.b2_verdicts.proofs.AskingGoesOn.{asks_ok, asks_quiet, asks_exit}
use Rattle.b2_verdicts.proofs.verdict.unless_saved.Goals as goal

pub returns-in_default-clause-asks : goal.returns-in_default-clause-asks
returns-in_default-clause-asks g c = asks_quiet (IsOfStep c.args.numbers.now) (LastTells (option_copied c.args.last)) c.args.facts.now c.args.facts.now (g.F.Files.outside c.args.files.now) (g.F.Files.outside c.args.files.now) (Some c.args.point) refl (knows_same (IsOfStep c.args.numbers.now) (g.F.Files.outside c.args.files.now).disk (LastTells (option_copied c.args.last)) c.args.facts.now)

pub returns-in_default-clause-left : goal.returns-in_default-clause-left
returns-in_default-clause-left g c = (refl, subst (IsNotSavedBy (g.F.Files.outside c.args.files.now).disk c.args.step.now c.args.numbers.now c.args.facts.now) (sym (ap option_copied c.in_default.is)) (tt {0}))

pub is_saved-requires-clause-proper : goal.is_saved-requires-clause-proper
is_saved-requires-clause-proper g c = subst (λ o. IfSome o (λ (found : Record). IsProper (lines.Record found))) (ap option_copied c.in-Some.is) c.requires.proper

pub returns-in_err-is_saved-clause-asks : goal.returns-in_err-is_saved-clause-asks
returns-in_err-is_saved-clause-asks g c =
    let q = err_from_is_err_and c.from_residual.result c.from_residual.ensures.1 in
    asks_exit {T = Bool} (IsOfStep c.args.numbers.now) (LastTells (option_copied c.args.last)) c.args.facts.now c.is_saved.new.facts (g.F.Files.outside c.args.files.now) (g.F.Files.outside c.is_saved.new.files) c.in_err-is_saved.field-0.0 c.from_residual.result (q.1 ∙ ap Err q.2)
    (subst (λ o. Asks {T = Bool} (IsOfStep c.args.numbers.now) (LastTells o) c.args.facts.now c.is_saved.new.facts (g.F.Files.outside c.args.files.now) (g.F.Files.outside c.is_saved.new.files) (Err c.in_err-is_saved.field-0.0)) (sym (ap option_copied c.in-Some.is)) c.in_err-is_saved.ensures.asks)

pub returns-then-branch-clause-asks : goal.returns-then-branch-clause-asks
returns-then-branch-clause-asks g c = asks_ok {T = Bool} (IsOfStep c.args.numbers.now) (LastTells (option_copied c.args.last)) c.args.facts.now c.is_saved.new.facts (g.F.Files.outside c.args.files.now) (g.F.Files.outside c.is_saved.new.files) c.in_ok-is_saved.field-0 None
    (subst (λ o. Asks {T = Bool} (IsOfStep c.args.numbers.now) (LastTells o) c.args.facts.now c.is_saved.new.facts (g.F.Files.outside c.args.files.now) (g.F.Files.outside c.is_saved.new.files) (Ok c.in_ok-is_saved.field-0)) (sym (ap option_copied c.in-Some.is)) c.in_ok-is_saved.ensures.asks)

pub returns-then-branch-clause-left : goal.returns-then-branch-clause-left
returns-then-branch-clause-left g c = subst (IsSavedBy c.args.step.now c.args.numbers.now c.is_saved.new.facts) (sym (ap option_copied c.in-Some.is)) (c.in_ok-is_saved.ensures.yes c.if-branch.true)

pub returns-clause-asks : goal.returns-clause-asks
returns-clause-asks g c = asks_ok {T = Bool} (IsOfStep c.args.numbers.now) (LastTells (option_copied c.args.last)) c.args.facts.now c.is_saved.new.facts (g.F.Files.outside c.args.files.now) (g.F.Files.outside c.is_saved.new.files) c.in_ok-is_saved.field-0 (Some c.args.point)
    (subst (λ o. Asks {T = Bool} (IsOfStep c.args.numbers.now) (LastTells o) c.args.facts.now c.is_saved.new.facts (g.F.Files.outside c.args.files.now) (g.F.Files.outside c.is_saved.new.files) (Ok c.in_ok-is_saved.field-0)) (sym (ap option_copied c.in-Some.is)) c.in_ok-is_saved.ensures.asks)

pub returns-clause-left : goal.returns-clause-left
returns-clause-left g c = (refl, subst (IsNotSavedBy (g.F.Files.outside c.args.files.now).disk c.args.step.now c.args.numbers.now c.is_saved.new.facts) (sym (ap option_copied c.in-Some.is)) (c.in_ok-is_saved.ensures.no c.if-branch.false))
