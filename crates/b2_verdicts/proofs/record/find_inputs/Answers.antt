use Rattle.std.proofs.Common.{◌≡◌, false, Err, sym, ap, subst, ◌∙◌}
use Rattle.std.proofs.lemmas.Result.{err_from_is_err_and}
use Rattle.std.specs.List.{Contains}
use Rattle.b2_host.specs.Outside.{Outside}
use Rattle.b2_verdicts.specs.Sights.{AreNumbers, AllAsked}
use Rattle.b2_verdicts.specs.VerdictCalls.{IsOfStep, Always}
use Rattle.b2_verdicts.proofs.WhatIsKnownStays.{numbers_stay}
use Rattle.b2_verdicts.proofs.MoreIsKnown.{knows_grows, knows_ins}
use Rattle.b2_verdicts.proofs.AskingGoesOn.{asks_quiet, asks_behind, asks_failed, asks_ins}
use Rattle.b2_verdicts.proofs.InputsAreFound.{found_by}
use Rattle.b2_verdicts.proofs.record.find_inputs.Goals as goal

pub returns-in_err-ask_all-clause-asks : goal.returns-in_err-ask_all-clause-asks
returns-in_err-ask_all-clause-asks g c =
    let q = err_from_is_err_and c.from_residual.result c.from_residual.ensures.1 in
    asks_failed (Unit {0}) (IsOfStep c.args.numbers.now) Always c.args.facts.now c.ask_all.new.facts (g.F.Files.outside c.args.files.now) (g.F.Files.outside c.ask_all.new.files) c.in_err-ask_all.field-0.0 c.from_residual.result (q.1 ∙ ap Err q.2) c.in_err-ask_all.ensures.effect (knows_ins c.args.numbers.now c.as_slice.result.now (g.F.Files.outside c.args.files.now).disk Always c.args.facts.now c.ask_all.new.facts c.as_slice.ensures c.ask_all.ensures.learns)

pub returns-then-not-by_digest-clause-asks : goal.returns-then-not-by_digest-clause-asks
returns-then-not-by_digest-clause-asks g c = asks_quiet (IsOfStep c.args.numbers.now) Always c.args.facts.now c.ask_all.new.facts (g.F.Files.outside c.args.files.now) (g.F.Files.outside c.ask_all.new.files) (tt {0}) c.in_ok-ask_all.ensures.effect
    (knows_ins c.args.numbers.now c.as_slice.result.now (g.F.Files.outside c.args.files.now).disk Always c.args.facts.now c.ask_all.new.facts c.as_slice.ensures c.ask_all.ensures.learns)

pub digest_all-requires : goal.digest_all-requires
digest_all-requires g c = subst (AreNumbers c.ask_all.new.facts) (sym c.as_slice-2.ensures) (numbers_stay c.args.facts.now c.ask_all.new.facts c.args.numbers.now.ins (knows_grows (IsOfStep c.args.numbers.now) (g.F.Files.outside c.args.files.now).disk Always c.args.facts.now c.ask_all.new.facts
    (knows_ins c.args.numbers.now c.as_slice.result.now (g.F.Files.outside c.args.files.now).disk Always c.args.facts.now c.ask_all.new.facts c.as_slice.ensures c.ask_all.ensures.learns)) c.requires)

pub returns-clause-asks : goal.returns-clause-asks
returns-clause-asks g c = asks_behind {T = Unit {0}} (IsOfStep c.args.numbers.now) Always c.args.facts.now c.ask_all.new.facts c.digest_all.new.facts (g.F.Files.outside c.args.files.now) (g.F.Files.outside c.ask_all.new.files) (g.F.Files.outside c.digest_all.new.files) c.digest_all.result c.in_ok-ask_all.ensures.effect
    (knows_ins c.args.numbers.now c.as_slice.result.now (g.F.Files.outside c.args.files.now).disk Always c.args.facts.now c.ask_all.new.facts c.as_slice.ensures c.ask_all.ensures.learns)
    (asks_ins {T = Unit {0}} c.args.numbers.now Always c.ask_all.new.facts c.digest_all.new.facts (g.F.Files.outside c.ask_all.new.files) (g.F.Files.outside c.digest_all.new.files) c.digest_all.result c.as_slice-2.result.now c.as_slice-2.ensures c.digest_all.ensures.asks)

pub returns-clause-found : goal.returns-clause-found
returns-clause-found g c = found_by c.args.by_digest (g.F.Files.outside c.args.files.now).disk (g.F.Files.outside c.ask_all.new.files).disk c.ask_all.new.facts c.digest_all.new.facts c.args.numbers.now.ins c.as_slice-2.result.now c.digest_all.result (c.args.step.now.notfile ≡ false) (ap (λ (o : Outside). o.disk) c.in_ok-ask_all.ensures.effect) c.as_slice-2.ensures
    (knows_grows (Contains c.as_slice-2.result.now) (g.F.Files.outside c.ask_all.new.files).disk Always c.ask_all.new.facts c.digest_all.new.facts c.digest_all.ensures.asks.learns) (subst (AllAsked c.ask_all.new.facts) c.as_slice.ensures c.in_ok-ask_all.ensures.asked) c.digest_all.ensures.digested
