use Rattle.std.proofs.Common.{inl, inr, Bool, false, Ok, Err, length, refl, sym, ap, subst, ◌∙◌}
use Rattle.std.specs.List.{Contains, AllByRecursion}
use Rattle.std.proofs.lemmas.Result.{err_from_is_err_and}
use Rattle.b2_log.specs.Good.{IsDigest}
use Rattle.b2_verdicts.specs.Sights.{AreNumbers}
use Rattle.b2_verdicts.specs.VerdictCalls.{IsOfStep}
use Rattle.b2_verdicts.specs.Digested.{TellEach, TellsBoth}
use Rattle.b2_verdicts.proofs.WhatIsKnownStays.{numbers_stay}
use Rattle.b2_verdicts.proofs.MoreIsKnown.{knows_grows}
use Rattle.b2_verdicts.proofs.AskingGoesOn.{asks_ok, asks_then, asks_exit}
use Rattle.b2_verdicts.proofs.DigestsAreCompared.{paths_more, digests_more, asks_of_outs, asks_of_ins, paths_along, digests_along, other_along}
use Rattle.b2_verdicts.proofs.digests.agrees.Goals as goal

pub have_digests-requires-clause-numbers : goal.have_digests-requires-clause-numbers
have_digests-requires-clause-numbers g c = subst (AreNumbers c.args.facts.now) (sym c.as_slice-outs.ensures) c.requires.outs

pub have_digests-requires-clause-paths : goal.have_digests-requires-clause-paths
have_digests-requires-clause-paths g c = paths_along c.args.facts.now c.as_slice-outs.result.now c.args.numbers.now.outs c.as_slice.result.now c.args.last.now.outs c.as_slice-outs.ensures c.as_slice.ensures c.requires.out_paths

pub have_digests-requires-clause-digits : goal.have_digests-requires-clause-digits
have_digests-requires-clause-digits g c = subst (AllByRecursion IsDigest) (sym c.as_slice-2.ensures) c.requires.proper.outs.each

pub returns-in_err-same_outs-clause-asks : goal.returns-in_err-same_outs-clause-asks
returns-in_err-same_outs-clause-asks g c =
    let q = err_from_is_err_and c.from_residual.result c.from_residual.ensures.1 in
    asks_exit {T = Bool} (IsOfStep c.args.numbers.now) (TellsBoth c.args.last.now c.args.digests.now) c.args.facts.now c.have_digests.new.facts (g.F.Files.outside c.args.files.now) (g.F.Files.outside c.have_digests.new.files) c.in_err-same_outs.field-0.0 c.from_residual.result (q.1 ∙ ap Err q.2)
    (asks_of_outs {T = Bool} c.args.numbers.now c.args.last.now c.args.digests.now c.args.facts.now c.have_digests.new.facts (g.F.Files.outside c.args.files.now) (g.F.Files.outside c.have_digests.new.files) (Err c.in_err-same_outs.field-0.0) c.as_slice-outs.result.now c.as_slice.result.now c.as_slice-2.result.now c.as_slice-outs.ensures c.as_slice.ensures c.as_slice-2.ensures c.in_err-same_outs.ensures.asks)

pub returns-then-not-same_outs-clause-asks : goal.returns-then-not-same_outs-clause-asks
returns-then-not-same_outs-clause-asks g c = asks_ok {T = Bool} (IsOfStep c.args.numbers.now) (TellsBoth c.args.last.now c.args.digests.now) c.args.facts.now c.have_digests.new.facts (g.F.Files.outside c.args.files.now) (g.F.Files.outside c.have_digests.new.files) c.in_ok-same_outs.same_outs false
    (asks_of_outs {T = Bool} c.args.numbers.now c.args.last.now c.args.digests.now c.args.facts.now c.have_digests.new.facts (g.F.Files.outside c.args.files.now) (g.F.Files.outside c.have_digests.new.files) (Ok c.in_ok-same_outs.same_outs) c.as_slice-outs.result.now c.as_slice.result.now c.as_slice-2.result.now c.as_slice-outs.ensures c.as_slice.ensures c.as_slice-2.ensures c.in_ok-same_outs.ensures.asks)

pub returns-then-not-same_outs-clause-no : goal.returns-then-not-same_outs-clause-no
returns-then-not-same_outs-clause-no g c = λ e. inl (other_along (g.F.Files.outside c.args.files.now).disk (g.F.Files.outside c.args.files.now).disk c.have_digests.new.facts c.as_slice-outs.result.now c.args.numbers.now.outs c.as_slice-2.result.now c.args.digests.now.outs refl c.as_slice-outs.ensures c.as_slice-2.ensures (c.in_ok-same_outs.ensures.no c.if-not-same_outs.true))

pub have_digests-requires-2-clause-numbers : goal.have_digests-requires-2-clause-numbers
have_digests-requires-2-clause-numbers g c = subst (AreNumbers c.have_digests.new.facts) (sym c.as_slice-ins.ensures) (numbers_stay c.args.facts.now c.have_digests.new.facts c.args.numbers.now.ins (knows_grows (Contains c.as_slice-outs.result.now) (g.F.Files.outside c.args.files.now).disk (TellEach c.as_slice.result.now c.as_slice-2.result.now) c.args.facts.now c.have_digests.new.facts c.have_digests.ensures.asks.learns) c.requires.ins)

pub have_digests-requires-2-clause-paths : goal.have_digests-requires-2-clause-paths
have_digests-requires-2-clause-paths g c = paths_along c.have_digests.new.facts c.as_slice-ins.result.now c.args.numbers.now.ins c.as_slice-3.result.now c.args.last.now.ins c.as_slice-ins.ensures c.as_slice-3.ensures
    (paths_more c.args.facts.now c.have_digests.new.facts c.args.numbers.now.ins c.args.last.now.ins
    (knows_grows (Contains c.as_slice-outs.result.now) (g.F.Files.outside c.args.files.now).disk (TellEach c.as_slice.result.now c.as_slice-2.result.now) c.args.facts.now c.have_digests.new.facts c.have_digests.ensures.asks.learns)
    c.requires.in_paths)

pub have_digests-requires-2-clause-count : goal.have_digests-requires-2-clause-count
have_digests-requires-2-clause-count g c = ap length c.as_slice-4.ensures ∙ c.requires.proper.ins.count ∙ c.requires.in_paths.count ∙ sym (ap length c.as_slice-ins.ensures)

pub have_digests-requires-2-clause-digits : goal.have_digests-requires-2-clause-digits
have_digests-requires-2-clause-digits g c = subst (AllByRecursion IsDigest) (sym c.as_slice-4.ensures) c.requires.proper.ins.each

pub returns-in_err-same_ins-clause-asks : goal.returns-in_err-same_ins-clause-asks
returns-in_err-same_ins-clause-asks g c =
    let q = err_from_is_err_and c.from_residual-in_err-same_ins.result c.from_residual-in_err-same_ins.ensures.1 in
    asks_exit {T = Bool} (IsOfStep c.args.numbers.now) (TellsBoth c.args.last.now c.args.digests.now) c.args.facts.now c.have_digests-2.new.facts (g.F.Files.outside c.args.files.now) (g.F.Files.outside c.have_digests-2.new.files) c.in_err-same_ins.field-0.0 c.from_residual-in_err-same_ins.result (q.1 ∙ ap Err q.2)
    (asks_then {T = Bool} {U = Bool} (IsOfStep c.args.numbers.now) (TellsBoth c.args.last.now c.args.digests.now) c.args.facts.now c.have_digests.new.facts c.have_digests-2.new.facts (g.F.Files.outside c.args.files.now) (g.F.Files.outside c.have_digests.new.files) (g.F.Files.outside c.have_digests-2.new.files) c.in_ok-same_outs.same_outs (Err c.in_err-same_ins.field-0.0)
    (asks_of_outs {T = Bool} c.args.numbers.now c.args.last.now c.args.digests.now c.args.facts.now c.have_digests.new.facts (g.F.Files.outside c.args.files.now) (g.F.Files.outside c.have_digests.new.files) (Ok c.in_ok-same_outs.same_outs) c.as_slice-outs.result.now c.as_slice.result.now c.as_slice-2.result.now c.as_slice-outs.ensures c.as_slice.ensures c.as_slice-2.ensures c.in_ok-same_outs.ensures.asks)
    (asks_of_ins {T = Bool} c.args.numbers.now c.args.last.now c.args.digests.now c.have_digests.new.facts c.have_digests-2.new.facts (g.F.Files.outside c.have_digests.new.files) (g.F.Files.outside c.have_digests-2.new.files) (Err c.in_err-same_ins.field-0.0) c.as_slice-ins.result.now c.as_slice-3.result.now c.as_slice-4.result.now c.as_slice-ins.ensures c.as_slice-3.ensures c.as_slice-4.ensures c.in_err-same_ins.ensures.asks))

pub returns-clause-asks : goal.returns-clause-asks
returns-clause-asks g c = asks_then {T = Bool} {U = Bool} (IsOfStep c.args.numbers.now) (TellsBoth c.args.last.now c.args.digests.now) c.args.facts.now c.have_digests.new.facts c.have_digests-2.new.facts (g.F.Files.outside c.args.files.now) (g.F.Files.outside c.have_digests.new.files) (g.F.Files.outside c.have_digests-2.new.files) c.in_ok-same_outs.same_outs (Ok c.in_ok-same_ins.same_ins)
    (asks_of_outs {T = Bool} c.args.numbers.now c.args.last.now c.args.digests.now c.args.facts.now c.have_digests.new.facts (g.F.Files.outside c.args.files.now) (g.F.Files.outside c.have_digests.new.files) (Ok c.in_ok-same_outs.same_outs) c.as_slice-outs.result.now c.as_slice.result.now c.as_slice-2.result.now c.as_slice-outs.ensures c.as_slice.ensures c.as_slice-2.ensures c.in_ok-same_outs.ensures.asks)
    (asks_of_ins {T = Bool} c.args.numbers.now c.args.last.now c.args.digests.now c.have_digests.new.facts c.have_digests-2.new.facts (g.F.Files.outside c.have_digests.new.files) (g.F.Files.outside c.have_digests-2.new.files) (Ok c.in_ok-same_ins.same_ins) c.as_slice-ins.result.now c.as_slice-3.result.now c.as_slice-4.result.now c.as_slice-ins.ensures c.as_slice-3.ensures c.as_slice-4.ensures c.in_ok-same_ins.ensures.asks)

pub returns-clause-yes : goal.returns-clause-yes
returns-clause-yes g c = λ e. (
  digests_more c.have_digests.new.facts c.have_digests-2.new.facts c.args.numbers.now.outs c.args.digests.now.outs (knows_grows (Contains c.as_slice-ins.result.now) (g.F.Files.outside c.have_digests.new.files).disk
      (TellEach c.as_slice-3.result.now c.as_slice-4.result.now) c.have_digests.new.facts c.have_digests-2.new.facts c.have_digests-2.ensures.asks.learns) (digests_along c.have_digests.new.facts c.as_slice-outs.result.now
      c.args.numbers.now.outs c.as_slice-2.result.now c.args.digests.now.outs c.as_slice-outs.ensures c.as_slice-2.ensures (c.in_ok-same_outs.ensures.yes c.if-not-same_outs.false)),
  digests_along c.have_digests-2.new.facts c.as_slice-ins.result.now c.args.numbers.now.ins c.as_slice-4.result.now c.args.digests.now.ins c.as_slice-ins.ensures c.as_slice-4.ensures (c.in_ok-same_ins.ensures.yes e),
)

pub returns-clause-no : goal.returns-clause-no
returns-clause-no g c = λ e. inr (other_along (g.F.Files.outside c.args.files.now).disk (g.F.Files.outside c.have_digests.new.files).disk c.have_digests-2.new.facts c.as_slice-ins.result.now c.args.numbers.now.ins c.as_slice-4.result.now c.args.digests.now.ins c.have_digests.ensures.asks.effect.files c.as_slice-ins.ensures c.as_slice-4.ensures (c.in_ok-same_ins.ensures.no e))
