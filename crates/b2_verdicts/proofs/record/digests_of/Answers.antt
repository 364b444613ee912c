use Rattle.std.proofs.Common.{ℕ, List, Option, Some, None, Ok, Err, refl, sym, ap, subst, ◌∙◌, inl, inr, IfNone}
use Rattle.std.specs.List.{Contains}
use Rattle.std.specs.Option.{IfSome}
use Rattle.std.proofs.lemmas.Result.{err_from_is_err_and}
use Rattle.b2_log.specs.declared.line.Digests.{Digests}
use Rattle.b2_verdicts.specs.Sights.{AreNumbers}
use Rattle.b2_verdicts.specs.Points.{HaveDigests}
use Rattle.b2_verdicts.specs.VerdictCalls.{IsOfStep, Always}
use Rattle.b2_verdicts.proofs.WhatIsKnownStays.{numbers_stay}
use Rattle.b2_verdicts.proofs.MoreIsKnown.{knows_grows}
use Rattle.b2_verdicts.proofs.AskingGoesOn.{asks_ok, asks_then, asks_outs, asks_ins, asks_exit}
use Rattle.b2_verdicts.proofs.DigestsAreCompared.{digests_more, digests_along}
use Rattle.b2_verdicts.specs.Made.{IsSomeGone}
use Rattle.b2_verdicts.proofs.record.digests_of.Goals as goal

pub digested-requires : goal.digested-requires
digested-requires g c = subst (AreNumbers c.args.facts.now) (sym c.as_slice.ensures) c.requires.outs

pub returns-in_err-outs-clause-asks : goal.returns-in_err-outs-clause-asks
returns-in_err-outs-clause-asks g c =
    let q = err_from_is_err_and c.from_residual.result c.from_residual.ensures.1 in
    asks_exit {T = Option (List (List ℕ))} (IsOfStep c.args.numbers.now) Always c.args.facts.now c.digested.new.facts (g.F.Files.outside c.args.files.now) (g.F.Files.outside c.digested.new.files) c.in_err-outs.field-0.0 c.from_residual.result (q.1 ∙ ap Err q.2)
    (asks_outs {T = Option (List (List ℕ))} c.args.numbers.now Always c.args.facts.now c.digested.new.facts (g.F.Files.outside c.args.files.now) (g.F.Files.outside c.digested.new.files) (Err c.in_err-outs.field-0.0) c.as_slice.result.now c.as_slice.ensures c.in_err-outs.ensures.asks)

pub returns-in_default-clause-asks : goal.returns-in_default-clause-asks
returns-in_default-clause-asks g c = asks_ok {T = Option (List (List ℕ))} (IsOfStep c.args.numbers.now) Always c.args.facts.now c.digested.new.facts (g.F.Files.outside c.args.files.now) (g.F.Files.outside c.digested.new.files) c.in_ok-outs.field-0 None
    (asks_outs {T = Option (List (List ℕ))} c.args.numbers.now Always c.args.facts.now c.digested.new.facts (g.F.Files.outside c.args.files.now) (g.F.Files.outside c.digested.new.files) (Ok c.in_ok-outs.field-0) c.as_slice.result.now c.as_slice.ensures c.in_ok-outs.ensures.asks)

pub digested-requires-2 : goal.digested-requires-2
digested-requires-2 g c = subst (AreNumbers c.digested.new.facts) (sym c.as_slice-2.ensures) (numbers_stay c.args.facts.now c.digested.new.facts c.args.numbers.now.ins (knows_grows (Contains c.as_slice.result.now) (g.F.Files.outside c.args.files.now).disk Always c.args.facts.now c.digested.new.facts c.digested.ensures.asks.learns) c.requires.ins)

pub returns-in_err-ins-clause-asks : goal.returns-in_err-ins-clause-asks
returns-in_err-ins-clause-asks g c =
    let q = err_from_is_err_and c.from_residual-in_err-ins.result c.from_residual-in_err-ins.ensures.1 in
    asks_exit {T = Option (List (List ℕ))} (IsOfStep c.args.numbers.now) Always c.args.facts.now c.digested-2.new.facts (g.F.Files.outside c.args.files.now) (g.F.Files.outside c.digested-2.new.files) c.in_err-ins.field-0.0 c.from_residual-in_err-ins.result (q.1 ∙ ap Err q.2)
    (asks_then {T = Option (List (List ℕ))} {U = Option (List (List ℕ))} (IsOfStep c.args.numbers.now) Always c.args.facts.now c.digested.new.facts c.digested-2.new.facts (g.F.Files.outside c.args.files.now) (g.F.Files.outside c.digested.new.files) (g.F.Files.outside c.digested-2.new.files) c.in_ok-outs.field-0 (Err c.in_err-ins.field-0.0)
    (asks_outs {T = Option (List (List ℕ))} c.args.numbers.now Always c.args.facts.now c.digested.new.facts (g.F.Files.outside c.args.files.now) (g.F.Files.outside c.digested.new.files) (Ok c.in_ok-outs.field-0) c.as_slice.result.now c.as_slice.ensures c.in_ok-outs.ensures.asks)
    (asks_ins {T = Option (List (List ℕ))} c.args.numbers.now Always c.digested.new.facts c.digested-2.new.facts (g.F.Files.outside c.digested.new.files) (g.F.Files.outside c.digested-2.new.files) (Err c.in_err-ins.field-0.0) c.as_slice-2.result.now c.as_slice-2.ensures c.in_err-ins.ensures.asks))

pub returns-in_default-2-clause-asks : goal.returns-in_default-2-clause-asks
returns-in_default-2-clause-asks g c = asks_ok {T = Option (List (List ℕ))} (IsOfStep c.args.numbers.now) Always c.args.facts.now c.digested-2.new.facts (g.F.Files.outside c.args.files.now) (g.F.Files.outside c.digested-2.new.files) c.in_ok-ins.field-0 None
    (asks_then {T = Option (List (List ℕ))} {U = Option (List (List ℕ))} (IsOfStep c.args.numbers.now) Always c.args.facts.now c.digested.new.facts c.digested-2.new.facts (g.F.Files.outside c.args.files.now) (g.F.Files.outside c.digested.new.files) (g.F.Files.outside c.digested-2.new.files) c.in_ok-outs.field-0 (Ok c.in_ok-ins.field-0)
    (asks_outs {T = Option (List (List ℕ))} c.args.numbers.now Always c.args.facts.now c.digested.new.facts (g.F.Files.outside c.args.files.now) (g.F.Files.outside c.digested.new.files) (Ok c.in_ok-outs.field-0) c.as_slice.result.now c.as_slice.ensures c.in_ok-outs.ensures.asks)
    (asks_ins {T = Option (List (List ℕ))} c.args.numbers.now Always c.digested.new.facts c.digested-2.new.facts (g.F.Files.outside c.digested.new.files) (g.F.Files.outside c.digested-2.new.files) (Ok c.in_ok-ins.field-0) c.as_slice-2.result.now c.as_slice-2.ensures c.in_ok-ins.ensures.asks))

pub returns-clause-asks : goal.returns-clause-asks
returns-clause-asks g c = asks_ok {T = Option (List (List ℕ))} {U = Option Digests} (IsOfStep c.args.numbers.now) Always c.args.facts.now c.digested-2.new.facts (g.F.Files.outside c.args.files.now) (g.F.Files.outside c.digested-2.new.files) c.in_ok-ins.field-0 (Some (record { outs = c.in-Some.outs; ins = c.in-Some-2.ins }))
    (asks_then {T = Option (List (List ℕ))} {U = Option (List (List ℕ))} (IsOfStep c.args.numbers.now) Always c.args.facts.now c.digested.new.facts c.digested-2.new.facts (g.F.Files.outside c.args.files.now) (g.F.Files.outside c.digested.new.files) (g.F.Files.outside c.digested-2.new.files) c.in_ok-outs.field-0 (Ok c.in_ok-ins.field-0)
    (asks_outs {T = Option (List (List ℕ))} c.args.numbers.now Always c.args.facts.now c.digested.new.facts (g.F.Files.outside c.args.files.now) (g.F.Files.outside c.digested.new.files) (Ok c.in_ok-outs.field-0) c.as_slice.result.now c.as_slice.ensures c.in_ok-outs.ensures.asks)
    (asks_ins {T = Option (List (List ℕ))} c.args.numbers.now Always c.digested.new.facts c.digested-2.new.facts (g.F.Files.outside c.digested.new.files) (g.F.Files.outside c.digested-2.new.files) (Ok c.in_ok-ins.field-0) c.as_slice-2.result.now c.as_slice-2.ensures c.in_ok-ins.ensures.asks))

pub returns-clause-made : goal.returns-clause-made
returns-clause-made g c = (
  refl,
  digests_more c.digested.new.facts c.digested-2.new.facts c.args.numbers.now.outs c.in-Some.outs (knows_grows (Contains c.as_slice-2.result.now) (g.F.Files.outside c.digested.new.files).disk Always c.digested.new.facts
      c.digested-2.new.facts c.digested-2.ensures.asks.learns) (digests_along c.digested.new.facts c.as_slice.result.now c.args.numbers.now.outs c.in-Some.outs c.in-Some.outs c.as_slice.ensures refl
      (subst (λ made. IfSome made (HaveDigests c.digested.new.facts c.as_slice.result.now)) c.in-Some.is c.in_ok-outs.ensures.made)),
  digests_along c.digested-2.new.facts c.as_slice-2.result.now c.args.numbers.now.ins c.in-Some-2.ins c.in-Some-2.ins c.as_slice-2.ensures refl (subst (λ made. IfSome made (HaveDigests c.digested-2.new.facts c.as_slice-2.result.now)) c.in-Some-2.is c.in_ok-ins.ensures.made),
)

pub returns-in_default-clause-gone : goal.returns-in_default-clause-gone
returns-in_default-clause-gone g c = inl (subst (IsSomeGone (g.F.Files.outside c.args.files.now).disk c.digested.new.facts) c.as_slice.ensures (subst (λ made. IfNone made (IsSomeGone (g.F.Files.outside c.args.files.now).disk c.digested.new.facts c.as_slice.result.now)) c.in_default.is c.in_ok-outs.ensures.gone))

pub returns-in_default-2-clause-gone : goal.returns-in_default-2-clause-gone
returns-in_default-2-clause-gone g c = inr (subst (λ d. IsSomeGone d c.digested-2.new.facts c.args.numbers.now.ins) c.digested.ensures.asks.effect.files
    (subst (IsSomeGone (g.F.Files.outside c.digested.new.files).disk c.digested-2.new.facts) c.as_slice-2.ensures (subst (λ made. IfNone made (IsSomeGone (g.F.Files.outside c.digested.new.files).disk c.digested-2.new.facts c.as_slice-2.result.now)) c.in_default-2.is c.in_ok-ins.ensures.gone)))
