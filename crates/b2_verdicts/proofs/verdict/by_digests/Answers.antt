use Rattle.std.proofs.Common.{inl, Option, Some, None, refl, sym, ap, subst, ◌∙◌, Err, ◌≡◌}
use Rattle.std.specs.List.{Contains}
use Rattle.std.specs.Option.{option_copied}
use Rattle.std.proofs.lemmas.Result.{err_from_is_err_and}
use Rattle.b2_host.specs.Outside.{Outside}
use Rattle.b2_verdicts.specs.declared.point.Point.{Point}
use Rattle.b2_verdicts.specs.declared.point.Point.TheVariants as points
use Rattle.b2_verdicts.specs.Sights.{AreNumbers, AllAsked}
use Rattle.b2_verdicts.specs.VerdictCalls.{IsOfStep, LastTells, Always}
use Rattle.b2_verdicts.specs.Points.{IsDisagreement}
use Rattle.b2_verdicts.proofs.WhatIsKnownStays.{numbers_stay, all_asked_more, all_stand_more, stands_asked}
use Rattle.b2_verdicts.proofs.MoreIsKnown.{knows_same, knows_grows, knows_ins}
use Rattle.b2_verdicts.proofs.AskingGoesOn.{asks_quiet, asks_behind, asks_failed}
use Rattle.b2_verdicts.proofs.DisagreementsStay.{disagreement_more, none_disagrees}
use Rattle.b2_verdicts.proofs.DigestPointsFollow.{open_more, left_by_digests, if_ok_anyhow}
use Rattle.b2_verdicts.proofs.verdict.by_digests.Goals as goal

pub returns-in-Some-clause-asks : goal.returns-in-Some-clause-asks
returns-in-Some-clause-asks g c = asks_quiet (IsOfStep c.args.numbers.now) (LastTells (option_copied c.args.last)) c.args.facts.now c.args.facts.now (g.F.Files.outside c.args.files.now) (g.F.Files.outside c.args.files.now) (Some (points.FromNotfile c.in-Some.member)) refl (knows_same (IsOfStep c.args.numbers.now) (g.F.Files.outside c.args.files.now).disk (LastTells (option_copied c.args.last)) c.args.facts.now)

pub returns-in-Some-clause-exact : goal.returns-in-Some-clause-exact
returns-in-Some-clause-exact g c = λ all ordinary. (record { ordinary = ordinary; stand = c.requires.stand }, c.in-Some.is)

pub ask_all-requires : goal.ask_all-requires
ask_all-requires g c = subst (AreNumbers c.args.facts.now) (sym c.as_slice.ensures) c.requires.ins

pub returns-in_err-ask_all-clause-asks : goal.returns-in_err-ask_all-clause-asks
returns-in_err-ask_all-clause-asks g c =
    let q = err_from_is_err_and c.from_residual.result c.from_residual.ensures.1 in
    asks_failed (Unit {0}) (IsOfStep c.args.numbers.now) (LastTells (option_copied c.args.last)) c.args.facts.now c.ask_all.new.facts (g.F.Files.outside c.args.files.now) (g.F.Files.outside c.ask_all.new.files)
    c.in_err-ask_all.field-0.0 c.from_residual.result (q.1 ∙ ap Err q.2) c.in_err-ask_all.ensures.effect (knows_ins c.args.numbers.now c.as_slice.result.now (g.F.Files.outside c.args.files.now).disk
    (LastTells (option_copied c.args.last)) c.args.facts.now c.ask_all.new.facts c.as_slice.ensures c.ask_all.ensures.learns)

pub disagreement-requires-clause-outs : goal.disagreement-requires-clause-outs
disagreement-requires-clause-outs g c = numbers_stay c.args.facts.now c.ask_all.new.facts c.args.numbers.now.outs (knows_grows (Contains c.as_slice.result.now) (g.F.Files.outside c.args.files.now).disk Always c.args.facts.now c.ask_all.new.facts c.ask_all.ensures.learns) c.requires.outs

pub disagreement-requires-clause-ins : goal.disagreement-requires-clause-ins
disagreement-requires-clause-ins g c = numbers_stay c.args.facts.now c.ask_all.new.facts c.args.numbers.now.ins (knows_grows (Contains c.as_slice.result.now) (g.F.Files.outside c.args.files.now).disk Always c.args.facts.now c.ask_all.new.facts c.ask_all.ensures.learns) c.requires.ins

pub unless_saved-requires-clause-outs : goal.unless_saved-requires-clause-outs
unless_saved-requires-clause-outs g c = numbers_stay c.args.facts.now c.ask_all.new.facts c.args.numbers.now.outs (knows_grows (Contains c.as_slice.result.now) (g.F.Files.outside c.args.files.now).disk Always c.args.facts.now c.ask_all.new.facts c.ask_all.ensures.learns) c.requires.outs

pub unless_saved-requires-clause-ins : goal.unless_saved-requires-clause-ins
unless_saved-requires-clause-ins g c = numbers_stay c.args.facts.now c.ask_all.new.facts c.args.numbers.now.ins (knows_grows (Contains c.as_slice.result.now) (g.F.Files.outside c.args.files.now).disk Always c.args.facts.now c.ask_all.new.facts c.ask_all.ensures.learns) c.requires.ins

pub returns-in-None-clause-asks : goal.returns-in-None-clause-asks
returns-in-None-clause-asks g c = asks_quiet (IsOfStep c.args.numbers.now) (LastTells (option_copied c.args.last)) c.args.facts.now c.ask_all.new.facts (g.F.Files.outside c.args.files.now) (g.F.Files.outside c.ask_all.new.files) None c.in_ok-ask_all.ensures.effect (knows_ins c.args.numbers.now c.as_slice.result.now (g.F.Files.outside c.args.files.now).disk (LastTells (option_copied c.args.last)) c.args.facts.now c.ask_all.new.facts c.as_slice.ensures c.ask_all.ensures.learns)

pub returns-in-None-clause-exact : goal.returns-in-None-clause-exact
returns-in-None-clause-exact g c = λ all ordinary. (open_more all c.args.step.now c.args.numbers.now c.args.facts.now c.ask_all.new.facts (knows_grows (Contains c.as_slice.result.now) (g.F.Files.outside c.args.files.now).disk Always c.args.facts.now c.ask_all.new.facts c.ask_all.ensures.learns) c.requires.stand c.in_default.is (subst (AllAsked c.ask_all.new.facts) c.as_slice.ensures c.in_ok-ask_all.ensures.asked) ordinary, inl c.in-None.ensures)

pub returns-in-Some-disagreement-clause-asks : goal.returns-in-Some-disagreement-clause-asks
returns-in-Some-disagreement-clause-asks g c = asks_behind {T = Option Point} (IsOfStep c.args.numbers.now) (LastTells (option_copied c.args.last)) c.args.facts.now c.ask_all.new.facts c.unless_saved.new.facts
    (g.F.Files.outside c.args.files.now) (g.F.Files.outside c.ask_all.new.files) (g.F.Files.outside c.unless_saved.new.files) c.unless_saved.result c.in_ok-ask_all.ensures.effect (knows_ins c.args.numbers.now
    c.as_slice.result.now (g.F.Files.outside c.args.files.now).disk (LastTells (option_copied c.args.last)) c.args.facts.now c.ask_all.new.facts c.as_slice.ensures c.ask_all.ensures.learns) c.unless_saved.ensures.asks

pub returns-in-Some-disagreement-clause-exact : goal.returns-in-Some-disagreement-clause-exact
returns-in-Some-disagreement-clause-exact g c =
    let asked = (subst (AllAsked c.ask_all.new.facts) c.as_slice.ensures c.in_ok-ask_all.ensures.asked) in
    let grown = (knows_grows (IsOfStep c.args.numbers.now) (g.F.Files.outside c.ask_all.new.files).disk (LastTells (option_copied c.args.last)) c.ask_all.new.facts c.unless_saved.new.facts c.unless_saved.ensures.asks.learns) in
    left_by_digests (g.F.Files.outside c.args.files.now).disk (g.F.Files.outside c.ask_all.new.files).disk c.args.step.now c.args.numbers.now (option_copied c.args.last) c.unless_saved.new.facts c.in-Some-disagreement.point c.unless_saved.result (ap (λ (o : Outside). o.disk) c.in_ok-ask_all.ensures.effect)
    (λ all ordinary. open_more all c.args.step.now c.args.numbers.now c.ask_all.new.facts c.unless_saved.new.facts grown (all_stand_more c.args.facts.now c.ask_all.new.facts c.args.numbers.now.outs (knows_grows (Contains c.as_slice.result.now) (g.F.Files.outside c.args.files.now).disk Always c.args.facts.now c.ask_all.new.facts c.ask_all.ensures.learns) c.requires.stand) c.in_default.is (all_asked_more c.ask_all.new.facts c.unless_saved.new.facts c.args.numbers.now.ins grown asked) ordinary)
    (disagreement_more c.args.step.now c.args.numbers.now (option_copied c.args.last) c.ask_all.new.facts c.unless_saved.new.facts (Some c.in-Some-disagreement.point) (record {
      grows = grown;
      outs = numbers_stay c.args.facts.now c.ask_all.new.facts c.args.numbers.now.outs (knows_grows (Contains c.as_slice.result.now) (g.F.Files.outside c.args.files.now).disk Always c.args.facts.now c.ask_all.new.facts c.ask_all.ensures.learns) c.requires.outs;
      ins = numbers_stay c.args.facts.now c.ask_all.new.facts c.args.numbers.now.ins (knows_grows (Contains c.as_slice.result.now) (g.F.Files.outside c.args.files.now).disk Always c.args.facts.now c.ask_all.new.facts c.ask_all.ensures.learns) c.requires.ins;
      asked_outs = stands_asked c.ask_all.new.facts c.args.numbers.now.outs (all_stand_more c.args.facts.now c.ask_all.new.facts c.args.numbers.now.outs (knows_grows (Contains c.as_slice.result.now) (g.F.Files.outside c.args.files.now).disk Always c.args.facts.now c.ask_all.new.facts c.ask_all.ensures.learns) c.requires.stand);
      asked_ins = asked;
    }) c.in-Some-disagreement.ensures)
    c.unless_saved.ensures.left

pub returns-in-None-clause-saved : goal.returns-in-None-clause-saved
returns-in-None-clause-saved g c = λ e. ap (λ (o : Outside). o.reads) c.in_ok-ask_all.ensures.effect

pub returns-in-Some-disagreement-clause-saved : goal.returns-in-Some-disagreement-clause-saved
returns-in-Some-disagreement-clause-saved g c =
    let asked = (subst (AllAsked c.ask_all.new.facts) c.as_slice.ensures c.in_ok-ask_all.ensures.asked) in
    let grown = (knows_grows (IsOfStep c.args.numbers.now) (g.F.Files.outside c.ask_all.new.files).disk (LastTells (option_copied c.args.last)) c.ask_all.new.facts c.unless_saved.new.facts c.unless_saved.ensures.asks.learns) in
    if_ok_anyhow c.unless_saved.result (IsDisagreement c.args.step.now c.args.numbers.now (option_copied c.args.last) c.unless_saved.new.facts None → (g.F.Files.outside c.unless_saved.new.files).reads ≡ (g.F.Files.outside c.args.files.now).reads)
    (λ none. absurd (none_disagrees c.args.step.now c.args.numbers.now (option_copied c.args.last) c.unless_saved.new.facts c.in-Some-disagreement.point none
    (disagreement_more c.args.step.now c.args.numbers.now (option_copied c.args.last) c.ask_all.new.facts c.unless_saved.new.facts (Some c.in-Some-disagreement.point) (record {
      grows = grown;
      outs = numbers_stay c.args.facts.now c.ask_all.new.facts c.args.numbers.now.outs (knows_grows (Contains c.as_slice.result.now) (g.F.Files.outside c.args.files.now).disk Always c.args.facts.now c.ask_all.new.facts c.ask_all.ensures.learns) c.requires.outs;
      ins = numbers_stay c.args.facts.now c.ask_all.new.facts c.args.numbers.now.ins (knows_grows (Contains c.as_slice.result.now) (g.F.Files.outside c.args.files.now).disk Always c.args.facts.now c.ask_all.new.facts c.ask_all.ensures.learns) c.requires.ins;
      asked_outs = stands_asked c.ask_all.new.facts c.args.numbers.now.outs (all_stand_more c.args.facts.now c.ask_all.new.facts c.args.numbers.now.outs (knows_grows (Contains c.as_slice.result.now) (g.F.Files.outside c.args.files.now).disk Always c.args.facts.now c.ask_all.new.facts c.ask_all.ensures.learns) c.requires.stand);
      asked_ins = asked;
    }) c.in-Some-disagreement.ensures)))
