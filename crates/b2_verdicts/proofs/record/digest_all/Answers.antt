use Rattle.std.proofs.Common.{Ok, Err, get_or, subst, sym, ap, ◌∙◌, below_more, arith, refl}
use Rattle.std.specs.List.{Contains}
use Rattle.std.proofs.lemmas.Result.{err_from_is_err_and}
use Rattle.b2_facts.specs.Growth.{OfOne}
use Rattle.b2_verdicts.specs.VerdictCalls.{Always}
use Rattle.b2_verdicts.specs.Digested.{IsGoneIfUnknown}
use Rattle.b2_verdicts.proofs.WhatIsKnownStays.{number_stays}
use Rattle.b2_verdicts.proofs.MoreIsKnown.{knows_same, knows_grows}
use Rattle.b2_verdicts.proofs.ListsAtPlaces.{index_among}
use Rattle.b2_verdicts.proofs.AskingGoesOn.{asks_ok, asks_quiet, asks_exit}
use Rattle.b2_verdicts.proofs.DigestsAreCompared.{asks_one_more}
use Rattle.b2_verdicts.proofs.InputsAreFound.{gone_stays}
use Rattle.b2_verdicts.proofs.record.digest_all.Goals as goal

pub loop-number-init : goal.loop-number-init
loop-number-init g c = record {
  asks = asks_quiet (Contains c.args.numbers.now) Always c.args.facts.now c.args.facts.now (g.F.Files.outside c.args.files.now) (g.F.Files.outside c.args.files.now) (tt {0}) refl (knows_same (Contains c.args.numbers.now) (g.F.Files.outside c.args.files.now).disk Always c.args.facts.now);
  each = λ k below. absurd (omega (arith, below));
}

pub find_digest-requires : goal.find_digest-requires
find_digest-requires g c = number_stays c.args.facts.now c.loop-number.facts (get_or c.args.numbers.now c.loop-number.number-index 0) (knows_grows (Contains c.args.numbers.now) (g.F.Files.outside c.args.files.now).disk Always c.args.facts.now c.loop-number.facts c.loop-number.invariant.asks.learns) (c.requires c.loop-number.number-index c.loop-number-test.true)

pub returns-in_err-find_digest-clause-asks : goal.returns-in_err-find_digest-clause-asks
returns-in_err-find_digest-clause-asks g c =
    let q = err_from_is_err_and c.from_residual.result c.from_residual.ensures.1 in
    asks_exit {T = Unit {0}} (Contains c.args.numbers.now) Always c.args.facts.now c.find_digest.new.facts (g.F.Files.outside c.args.files.now) (g.F.Files.outside c.find_digest.new.files) c.in_err-find_digest.field-0.0 c.from_residual.result (q.1 ∙ ap Err q.2)
    (asks_one_more {T = Unit {0}} {U = Unit {0}} (Contains c.args.numbers.now) (get_or c.args.numbers.now c.loop-number.number-index 0) Always Always c.args.facts.now c.loop-number.facts c.find_digest.new.facts
    (g.F.Files.outside c.args.files.now) (g.F.Files.outside c.loop-number.files) (g.F.Files.outside c.find_digest.new.files) (tt {0}) (Err c.in_err-find_digest.field-0.0)
    (index_among c.args.numbers.now c.loop-number.number-index c.loop-number-test.true) (λ now asked. asked) c.loop-number.invariant.asks c.in_err-find_digest.ensures.asks)

pub loop-number-preserved : goal.loop-number-preserved
loop-number-preserved g c =
    let disk = (g.F.Files.outside c.args.files.now).disk in
    let grows = knows_grows (OfOne (get_or c.args.numbers.now c.loop-number.number-index 0)) (g.F.Files.outside c.loop-number.files).disk Always c.loop-number.facts c.find_digest.new.facts c.find_digest.ensures.asks.learns in
    let before = knows_grows (Contains c.args.numbers.now) disk Always c.args.facts.now c.loop-number.facts c.loop-number.invariant.asks.learns in
    record {
      asks = asks_ok {T = Unit {0}} (Contains c.args.numbers.now) Always c.args.facts.now c.find_digest.new.facts (g.F.Files.outside c.args.files.now) (g.F.Files.outside c.find_digest.new.files) c.in_ok-find_digest.field-0 (tt {0})
          (asks_one_more {T = Unit {0}} {U = Unit {0}} (Contains c.args.numbers.now) (get_or c.args.numbers.now c.loop-number.number-index 0) Always Always c.args.facts.now c.loop-number.facts c.find_digest.new.facts
          (g.F.Files.outside c.args.files.now) (g.F.Files.outside c.loop-number.files) (g.F.Files.outside c.find_digest.new.files) (tt {0}) (Ok c.in_ok-find_digest.field-0)
          (index_among c.args.numbers.now c.loop-number.number-index c.loop-number-test.true) (λ now asked. asked) c.loop-number.invariant.asks c.in_ok-find_digest.ensures.asks);
      each = below_more _ _ (λ k h. gone_stays disk c.loop-number.facts c.find_digest.new.facts (get_or c.args.numbers.now k 0) grows (number_stays c.args.facts.now c.loop-number.facts (get_or c.args.numbers.now k 0) before (c.requires k (let test = c.loop-number-test.true in omega (arith, h, test)))) (c.loop-number.invariant.each k h))
          (subst (λ d. IsGoneIfUnknown d c.find_digest.new.facts (get_or c.args.numbers.now c.loop-number.number-index 0)) c.loop-number.invariant.asks.effect.files c.in_ok-find_digest.ensures.gone);
    }
