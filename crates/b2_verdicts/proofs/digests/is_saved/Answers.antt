use Rattle.std.proofs.Common.{inl, inr, Bool, false, Some, Ok, Err, refl, ap, subst, ◌∙◌}
use Rattle.std.proofs.lemmas.Result.{err_from_is_err_and}
use Rattle.b2_log.specs.Good.{HasDigests}
use Rattle.b2_verdicts.specs.Points.{IsNotSaved.no_digests, IsNotSaved.out_differs, IsNotSaved.in_differs}
use Rattle.b2_verdicts.specs.VerdictCalls.{IsOfStep, LastTells}
use Rattle.b2_verdicts.specs.Digested.{TellsBoth}
use Rattle.b2_verdicts.proofs.MoreIsKnown.{knows_same, knows_grows}
use Rattle.b2_verdicts.proofs.AskingGoesOn.{asks_quiet, asks_weaker, asks_exit}
use Rattle.b2_verdicts.proofs.DigestsAreCompared.{last_both, saved_by}
use Rattle.b2_verdicts.proofs.digests.is_saved.Goals as goal

pub returns-then-not-has_names-clause-asks : goal.returns-then-not-has_names-clause-asks
returns-then-not-has_names-clause-asks g c = asks_quiet (IsOfStep c.args.numbers.now) (LastTells (Some c.args.last.now)) c.args.facts.now c.args.facts.now (g.F.Files.outside c.args.files.now) (g.F.Files.outside c.args.files.now) false refl (knows_same (IsOfStep c.args.numbers.now) (g.F.Files.outside c.args.files.now).disk (LastTells (Some c.args.last.now)) c.args.facts.now)

pub returns-then-not-has_names-clause-no : goal.returns-then-not-has_names-clause-no
returns-then-not-has_names-clause-no g c = λ e. c.has_names.ensures.no c.if-not-has_names.true (g.F.Files.outside c.args.files.now).disk

pub agrees-requires-clause-out_paths : goal.agrees-requires-clause-out_paths
agrees-requires-clause-out_paths g c = (c.has_names.ensures.yes c.if-not-has_names.false).outs

pub agrees-requires-clause-in_paths : goal.agrees-requires-clause-in_paths
agrees-requires-clause-in_paths g c = (c.has_names.ensures.yes c.if-not-has_names.false).ins

pub agrees-requires-clause-proper : goal.agrees-requires-clause-proper
agrees-requires-clause-proper g c = subst (HasDigests c.args.last.now) c.in-Some.is c.requires.proper.digests

pub returns-in_err-same-in-Some-clause-asks : goal.returns-in_err-same-in-Some-clause-asks
returns-in_err-same-in-Some-clause-asks g c =
    let q = err_from_is_err_and c.from_residual.result c.from_residual.ensures.1 in
    asks_exit {T = Bool} (IsOfStep c.args.numbers.now) (LastTells (Some c.args.last.now)) c.args.facts.now c.agrees.new.facts (g.F.Files.outside c.args.files.now) (g.F.Files.outside c.agrees.new.files) c.in_err-same-in-Some.field-0.0 c.from_residual.result (q.1 ∙ ap Err q.2)
    (asks_weaker {T = Bool} (IsOfStep c.args.numbers.now) (IsOfStep c.args.numbers.now) (TellsBoth c.args.last.now c.in-Some.digests) (LastTells (Some c.args.last.now)) c.args.facts.now c.agrees.new.facts (g.F.Files.outside c.args.files.now) (g.F.Files.outside c.agrees.new.files) (Err c.in_err-same-in-Some.field-0.0) (λ n of. of) (λ now told. last_both c.args.last.now c.in-Some.digests now c.in-Some.is told) c.in_err-same-in-Some.ensures.asks)

pub returns-in-None-clause-asks : goal.returns-in-None-clause-asks
returns-in-None-clause-asks g c = asks_quiet (IsOfStep c.args.numbers.now) (LastTells (Some c.args.last.now)) c.args.facts.now c.args.facts.now (g.F.Files.outside c.args.files.now) (g.F.Files.outside c.args.files.now) false refl (knows_same (IsOfStep c.args.numbers.now) (g.F.Files.outside c.args.files.now).disk (LastTells (Some c.args.last.now)) c.args.facts.now)

pub returns-in-None-clause-no : goal.returns-in-None-clause-no
returns-in-None-clause-no g c = λ e. no_digests c.in-None.is

pub returns-in_ok-same-in-Some-clause-asks : goal.returns-in_ok-same-in-Some-clause-asks
returns-in_ok-same-in-Some-clause-asks g c = asks_weaker {T = Bool} (IsOfStep c.args.numbers.now) (IsOfStep c.args.numbers.now) (TellsBoth c.args.last.now c.in-Some.digests) (LastTells (Some c.args.last.now)) c.args.facts.now c.agrees.new.facts (g.F.Files.outside c.args.files.now) (g.F.Files.outside c.agrees.new.files) (Ok c.in_ok-same-in-Some.same) (λ n of. of) (λ now told. last_both c.args.last.now c.in-Some.digests now c.in-Some.is told) c.in_ok-same-in-Some.ensures.asks

pub returns-in_ok-same-in-Some-clause-yes : goal.returns-in_ok-same-in-Some-clause-yes
returns-in_ok-same-in-Some-clause-yes g c = λ e. saved_by c.args.step.now c.args.numbers.now c.args.facts.now c.agrees.new.facts c.args.last.now c.in-Some.digests (knows_grows (IsOfStep c.args.numbers.now) (g.F.Files.outside c.args.files.now).disk (TellsBoth c.args.last.now c.in-Some.digests) c.args.facts.now c.agrees.new.facts c.agrees.ensures.asks.learns) (c.has_names.ensures.yes c.if-not-has_names.false) c.in-Some.is (c.in_ok-same-in-Some.ensures.yes e)

pub returns-in_ok-same-in-Some-clause-no : goal.returns-in_ok-same-in-Some-clause-no
returns-in_ok-same-in-Some-clause-no g c = λ e. elim (c.in_ok-same-in-Some.ensures.no e) [ inl out ↦ out_differs c.in-Some.digests c.in-Some.is out | inr member ↦ in_differs c.in-Some.digests c.in-Some.is member ]
