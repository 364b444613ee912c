use Rattle.std.proofs.Common.{Option, Some, Err, true, sym, ap, subst, ◌∙◌, ◌≡◌, None}
use Rattle.std.specs.Option.{option_copied}
use Rattle.std.proofs.lemmas.Bool.{true≢false, not-true, not-false}
use Rattle.std.proofs.lemmas.Result.{err_from_is_err_and}
use Rattle.b2_host.specs.Outside.{Outside}
use Rattle.b2_host.specs.ReadsAdded.{reads_fails}
use Rattle.b2_verdicts.specs.declared.point.Point.{Point}
use Rattle.b2_verdicts.specs.Points.{IsOrdinary, HasOutputs, IsDisagreement}
use Rattle.b2_verdicts.specs.VerdictCalls.{IsOfStep, LastTells, LastTellsUnless, Always}
use Rattle.b2_verdicts.specs.Chains.{IsBegun}
use Rattle.std.specs.Prelude.{IfOk}
use Rattle.b2_verdicts.proofs.WhatIsKnownStays.{numbers_stay}
use Rattle.b2_verdicts.proofs.MoreIsKnown.{knows_weaker, knows_grows}
use Rattle.b2_verdicts.proofs.AskingGoesOn.{asks_quiet, asks_weaker, asks_behind, asks_failed}
use Rattle.b2_verdicts.proofs.DigestPointsFollow.{begun_by_digests, point_by_stamps, point_by_digests, exact_by_digests}
use Rattle.b2_verdicts.proofs.OnlyDigestsAreTooBig.{not_too_big, too_big_for}
use Rattle.b2_verdicts.proofs.verdict.verdict.Goals as goal

pub returns-in_err-point-clause-asks : goal.returns-in_err-point-clause-asks
returns-in_err-point-clause-asks g c =
    let q = err_from_is_err_and c.from_residual.result c.from_residual.ensures.1 in
    asks_failed (Option Point) (IsOfStep c.args.numbers.now) (LastTellsUnless c.args.way.all (option_copied c.args.last)) c.args.facts.now c.by_stamps.new.facts (g.F.Files.outside c.args.files.now) (g.F.Files.outside
    c.by_stamps.new.files) c.in_err-point.field-0.0 c.from_residual.result (q.1 ∙ ap Err q.2) c.in_err-point.ensures.effect (knows_weaker (IsOfStep c.args.numbers.now) (IsOfStep c.args.numbers.now)
    (g.F.Files.outside c.args.files.now).disk Always (LastTellsUnless c.args.way.all (option_copied c.args.last)) c.args.facts.now c.by_stamps.new.facts (λ n of. of) (λ now told. tt) c.by_stamps.ensures.learns)

pub returns-in_err-point-clause-unread : goal.returns-in_err-point-clause-unread
returns-in_err-point-clause-unread g c = λ e. reads_fails (g.F.Files.outside c.args.files.now) (g.F.Files.outside c.by_stamps.new.files) c.in_err-point.ensures.effect

pub returns-then-not-way-clause-asks : goal.returns-then-not-way-clause-asks
returns-then-not-way-clause-asks g c = asks_quiet (IsOfStep c.args.numbers.now) (LastTellsUnless c.args.way.all (option_copied c.args.last)) c.args.facts.now c.by_stamps.new.facts (g.F.Files.outside c.args.files.now)
    (g.F.Files.outside c.by_stamps.new.files) c.in_ok-point.point c.in_ok-point.ensures.effect (knows_weaker (IsOfStep c.args.numbers.now) (IsOfStep c.args.numbers.now) (g.F.Files.outside c.args.files.now).disk Always
    (LastTellsUnless c.args.way.all (option_copied c.args.last)) c.args.facts.now c.by_stamps.new.facts (λ n of. of) (λ now told. tt) c.by_stamps.ensures.learns)

pub returns-then-not-way-clause-unread : goal.returns-then-not-way-clause-unread
returns-then-not-way-clause-unread g c = λ e. ap (λ (o : Outside). o.reads) c.in_ok-point.ensures.effect

pub returns-then-not-way-clause-exact : goal.returns-then-not-way-clause-exact
returns-then-not-way-clause-exact g c = point_by_stamps c.args.way.by_digest (g.F.Files.outside c.args.files.now).disk c.args.way.all c.args.step.now c.args.numbers.now (option_copied c.args.last) c.by_stamps.new.facts c.in_ok-point.point (not-true c.args.way.by_digest c.if-not-way.true) c.in_ok-point.ensures.exact

pub returns-in_err-point-2-clause-asks : goal.returns-in_err-point-2-clause-asks
returns-in_err-point-2-clause-asks g c =
    let q = err_from_is_err_and c.from_residual-in_err-point-2.result c.from_residual-in_err-point-2.ensures.1 in
    asks_failed (Option Point) (IsOfStep c.args.numbers.now) (LastTellsUnless c.args.way.all (option_copied c.args.last)) c.args.facts.now c.begun.new.facts (g.F.Files.outside c.args.files.now) (g.F.Files.outside
    c.begun.new.files) c.in_err-point-2.field-0.0 c.from_residual-in_err-point-2.result (q.1 ∙ ap Err q.2) c.in_err-point-2.ensures.effect (knows_weaker (IsOfStep c.args.numbers.now) (IsOfStep c.args.numbers.now)
    (g.F.Files.outside c.args.files.now).disk Always (LastTellsUnless c.args.way.all (option_copied c.args.last)) c.args.facts.now c.begun.new.facts (λ n of. of) (λ now told. tt) c.begun.ensures.learns)

pub returns-in_err-point-2-clause-unread : goal.returns-in_err-point-2-clause-unread
returns-in_err-point-2-clause-unread g c = λ e. reads_fails (g.F.Files.outside c.args.files.now) (g.F.Files.outside c.begun.new.files) c.in_err-point-2.ensures.effect

pub by_digests-requires-clause-outs : goal.by_digests-requires-clause-outs
by_digests-requires-clause-outs g c = numbers_stay c.args.facts.now c.begun.new.facts c.args.numbers.now.outs (knows_grows (IsOfStep c.args.numbers.now) (g.F.Files.outside c.args.files.now).disk Always c.args.facts.now c.begun.new.facts c.begun.ensures.learns) c.requires.outs

pub by_digests-requires-clause-ins : goal.by_digests-requires-clause-ins
by_digests-requires-clause-ins g c = numbers_stay c.args.facts.now c.begun.new.facts c.args.numbers.now.ins (knows_grows (IsOfStep c.args.numbers.now) (g.F.Files.outside c.args.files.now).disk Always c.args.facts.now c.begun.new.facts c.begun.ensures.learns) c.requires.ins

pub by_digests-requires-clause-stand : goal.by_digests-requires-clause-stand
by_digests-requires-clause-stand g c =
    let has : HasOutputs c.args.way.all c.args.step.now c.args.numbers.now c.begun.new.facts = subst (IsBegun c.args.way.all c.args.step.now c.args.numbers.now c.begun.new.facts) c.in-None.is c.in_ok-point-2.ensures.begun in
    has.stand

pub returns-in-Some-clause-asks : goal.returns-in-Some-clause-asks
returns-in-Some-clause-asks g c = asks_quiet (IsOfStep c.args.numbers.now) (LastTellsUnless c.args.way.all (option_copied c.args.last)) c.args.facts.now c.begun.new.facts (g.F.Files.outside c.args.files.now)
    (g.F.Files.outside c.begun.new.files) (Some c.in-Some.point) c.in_ok-point-2.ensures.effect (knows_weaker (IsOfStep c.args.numbers.now) (IsOfStep c.args.numbers.now) (g.F.Files.outside c.args.files.now).disk Always
    (LastTellsUnless c.args.way.all (option_copied c.args.last)) c.args.facts.now c.begun.new.facts (λ n of. of) (λ now told. tt) c.begun.ensures.learns)

pub returns-in-Some-clause-unread : goal.returns-in-Some-clause-unread
returns-in-Some-clause-unread g c = λ e. ap (λ (o : Outside). o.reads) c.in_ok-point-2.ensures.effect

pub returns-in-Some-clause-exact : goal.returns-in-Some-clause-exact
returns-in-Some-clause-exact g c = point_by_digests c.args.way.by_digest (g.F.Files.outside c.args.files.now).disk c.args.way.all c.args.step.now c.args.numbers.now (option_copied c.args.last) c.begun.new.facts (Some c.in-Some.point) (not-false c.args.way.by_digest c.if-not-way.false)
    (begun_by_digests (g.F.Files.outside c.args.files.now).disk c.args.way.all c.args.step.now c.args.numbers.now (option_copied c.args.last) c.begun.new.facts c.in-Some.point (subst (IsBegun c.args.way.all c.args.step.now c.args.numbers.now c.begun.new.facts) c.in-Some.is c.in_ok-point-2.ensures.begun))

pub returns-in-None-clause-asks : goal.returns-in-None-clause-asks
returns-in-None-clause-asks g c =
    let has : HasOutputs c.args.way.all c.args.step.now c.args.numbers.now c.begun.new.facts = subst (IsBegun c.args.way.all c.args.step.now c.args.numbers.now c.begun.new.facts) c.in-None.is c.in_ok-point-2.ensures.begun in
    asks_behind {T = Option Point} (IsOfStep c.args.numbers.now) (LastTellsUnless c.args.way.all (option_copied c.args.last)) c.args.facts.now c.begun.new.facts c.by_digests.new.facts (g.F.Files.outside c.args.files.now)
    (g.F.Files.outside c.begun.new.files) (g.F.Files.outside c.by_digests.new.files) c.by_digests.result c.in_ok-point-2.ensures.effect (knows_weaker (IsOfStep c.args.numbers.now) (IsOfStep c.args.numbers.now)
    (g.F.Files.outside c.args.files.now).disk Always (LastTellsUnless c.args.way.all (option_copied c.args.last)) c.args.facts.now c.begun.new.facts (λ n of. of) (λ now told. tt) c.begun.ensures.learns)
    (asks_weaker {T = Option Point} (IsOfStep c.args.numbers.now) (IsOfStep c.args.numbers.now) (LastTells (option_copied c.args.last)) (LastTellsUnless c.args.way.all (option_copied c.args.last)) c.begun.new.facts c.by_digests.new.facts (g.F.Files.outside c.begun.new.files) (g.F.Files.outside c.by_digests.new.files) c.by_digests.result (λ n of. of) (λ now told. told has.ordinary.not_all) c.by_digests.ensures.asks)

pub returns-in-None-clause-unread : goal.returns-in-None-clause-unread
returns-in-None-clause-unread g c = λ e. absurd (true≢false (sym (not-false c.args.way.by_digest c.if-not-way.false) ∙ e))

pub returns-in-None-clause-exact : goal.returns-in-None-clause-exact
returns-in-None-clause-exact g c =
    let has : HasOutputs c.args.way.all c.args.step.now c.args.numbers.now c.begun.new.facts = subst (IsBegun c.args.way.all c.args.step.now c.args.numbers.now c.begun.new.facts) c.in-None.is c.in_ok-point-2.ensures.begun in
    exact_by_digests c.args.way.by_digest (g.F.Files.outside c.args.files.now).disk (g.F.Files.outside c.begun.new.files).disk c.args.way.all c.args.step.now c.args.numbers.now (option_copied c.args.last) c.by_digests.new.facts c.by_digests.result (ap (λ (o : Outside). o.disk) c.in_ok-point-2.ensures.effect) (not-false c.args.way.by_digest c.if-not-way.false) has.ordinary c.by_digests.ensures.exact

pub returns-then-not-way-clause-saved : goal.returns-then-not-way-clause-saved
returns-then-not-way-clause-saved g c = λ e. ap (λ (o : Outside). o.reads) c.in_ok-point.ensures.effect

pub returns-in-Some-clause-saved : goal.returns-in-Some-clause-saved
returns-in-Some-clause-saved g c = λ e. ap (λ (o : Outside). o.reads) c.in_ok-point-2.ensures.effect

pub returns-in-None-clause-saved : goal.returns-in-None-clause-saved
returns-in-None-clause-saved g c = subst (λ (o : Outside). IfOk c.by_digests.result (λ (point : Option Point). IsDisagreement c.args.step.now c.args.numbers.now (option_copied c.args.last) c.by_digests.new.facts None → (g.F.Files.outside c.by_digests.new.files).reads ≡ o.reads)) c.in_ok-point-2.ensures.effect c.by_digests.ensures.saved

pub returns-in_err-point-clause-big : goal.returns-in_err-point-clause-big
returns-in_err-point-clause-big g c =
    let q = err_from_is_err_and c.from_residual.result c.from_residual.ensures.1 in
    not_too_big (Option Point) ((c.args.way.by_digest ≡ true) × IsOrdinary c.args.way.all c.args.step.now) c.from_residual.result (q.1 ∙ ap Err q.2)

pub returns-in_err-point-2-clause-big : goal.returns-in_err-point-2-clause-big
returns-in_err-point-2-clause-big g c =
    let q = err_from_is_err_and c.from_residual-in_err-point-2.result c.from_residual-in_err-point-2.ensures.1 in
    not_too_big (Option Point) ((c.args.way.by_digest ≡ true) × IsOrdinary c.args.way.all c.args.step.now) c.from_residual-in_err-point-2.result (q.1 ∙ ap Err q.2)

pub returns-in-None-clause-big : goal.returns-in-None-clause-big
returns-in-None-clause-big g c =
    let has : HasOutputs c.args.way.all c.args.step.now c.args.numbers.now c.begun.new.facts = subst (IsBegun c.args.way.all c.args.step.now c.args.numbers.now c.begun.new.facts) c.in-None.is c.in_ok-point-2.ensures.begun in
    too_big_for (Option Point) ((c.args.way.by_digest ≡ true) × IsOrdinary c.args.way.all c.args.step.now) c.by_digests.result (not-false c.args.way.by_digest c.if-not-way.false, has.ordinary)
