use Rattle.std.proofs.Common.{Bool, false, true, Ok, Err, get_or, refl, sym, ap, subst, ◌∙◌, arith}
use Rattle.std.specs.List.{Contains}
use Rattle.std.proofs.lemmas.Bool.{true≢false}
use Rattle.std.proofs.lemmas.Result.{err_from_is_err_and}
use Rattle.b2_log.specs.Good.{IsDigest}
use Rattle.b2_facts.specs.Growth.{OfOne}
use Rattle.b2_facts.proofs.ListsAtPlaces.{among_at, all_at}
use Rattle.b2_verdicts.specs.Digested.{TellsOne, TellEach, IsGoneIfUnknown}
use Rattle.b2_verdicts.proofs.WhatIsKnownStays.{number_stays}
use Rattle.b2_verdicts.proofs.MoreIsKnown.{knows_same, knows_grows}
use Rattle.b2_verdicts.proofs.AskingGoesOn.{asks_ok, asks_quiet, asks_exit}
use Rattle.b2_verdicts.proofs.DigestsAreCompared.{compared, asks_next, known_next, differs_at}
use Rattle.b2_verdicts.proofs.digests.have_digests.Goals as goal

pub has_digest-requires-clause-number : goal.has_digest-requires-clause-number
has_digest-requires-clause-number g c = number_stays c.args.facts.now c.loop-place.facts (get_or c.args.numbers.now c.loop-place.place 0) (knows_grows (Contains c.args.numbers.now) (g.F.Files.outside c.args.files.now).disk (TellEach c.args.logged.now c.args.digests.now) c.args.facts.now c.loop-place.facts c.loop-place.invariant.asks.learns) (c.requires.numbers c.loop-place.place c.loop-place-test.true)

pub has_digest-requires-clause-digits : goal.has_digest-requires-clause-digits
has_digest-requires-clause-digits g c =
    let at = compared c.args.facts.now c.args.numbers.now c.args.logged.now c.args.digests.now c.loop-place.place (get_or c.args.logged.now c.loop-place.place c.index-logged-place.result) c.index-digests-place.result c.requires.paths c.requires.count c.loop-place-test.true (ap (get_or c.args.logged.now c.loop-place.place) c.index-logged-place.is) c.index-digests-place.is in
    all_at IsDigest c.args.digests.now c.requires.digits c.index-digests-place.result (among_at c.args.digests.now c.loop-place.place c.index-digests-place.result at.told)

pub returns-in_err-has_digest-clause-asks : goal.returns-in_err-has_digest-clause-asks
returns-in_err-has_digest-clause-asks g c =
    let at = compared c.args.facts.now c.args.numbers.now c.args.logged.now c.args.digests.now c.loop-place.place (get_or c.args.logged.now c.loop-place.place c.index-logged-place.result) c.index-digests-place.result c.requires.paths c.requires.count c.loop-place-test.true (ap (get_or c.args.logged.now c.loop-place.place) c.index-logged-place.is) c.index-digests-place.is in
    let q = err_from_is_err_and c.from_residual.result c.from_residual.ensures.1 in
    asks_exit {T = Bool} (Contains c.args.numbers.now) (TellEach c.args.logged.now c.args.digests.now) c.args.facts.now c.has_digest.new.facts (g.F.Files.outside c.args.files.now) (g.F.Files.outside c.has_digest.new.files) c.in_err-has_digest.field-0.0 c.from_residual.result (q.1 ∙ ap Err q.2)
    (asks_next {T = Unit {0}} {U = Bool} c.args.numbers.now c.args.logged.now c.args.digests.now c.args.facts.now c.loop-place.facts c.has_digest.new.facts (g.F.Files.outside c.args.files.now)
    (g.F.Files.outside c.loop-place.files) (g.F.Files.outside c.has_digest.new.files) (tt {0}) (Err c.in_err-has_digest.field-0.0) c.loop-place.place (get_or c.args.logged.now c.loop-place.place c.index-logged-place.result)
    c.index-digests-place.result at c.loop-place.invariant.asks c.in_err-has_digest.ensures.asks)

pub returns-then-not-branch-clause-asks : goal.returns-then-not-branch-clause-asks
returns-then-not-branch-clause-asks g c =
    let at = compared c.args.facts.now c.args.numbers.now c.args.logged.now c.args.digests.now c.loop-place.place (get_or c.args.logged.now c.loop-place.place c.index-logged-place.result) c.index-digests-place.result c.requires.paths c.requires.count c.loop-place-test.true (ap (get_or c.args.logged.now c.loop-place.place) c.index-logged-place.is) c.index-digests-place.is in
    asks_ok {T = Bool} (Contains c.args.numbers.now) (TellEach c.args.logged.now c.args.digests.now) c.args.facts.now c.has_digest.new.facts (g.F.Files.outside c.args.files.now) (g.F.Files.outside c.has_digest.new.files) c.in_ok-has_digest.field-0 false
    (asks_next {T = Unit {0}} {U = Bool} c.args.numbers.now c.args.logged.now c.args.digests.now c.args.facts.now c.loop-place.facts c.has_digest.new.facts (g.F.Files.outside c.args.files.now)
    (g.F.Files.outside c.loop-place.files) (g.F.Files.outside c.has_digest.new.files) (tt {0}) (Ok c.in_ok-has_digest.field-0) c.loop-place.place (get_or c.args.logged.now c.loop-place.place c.index-logged-place.result)
    c.index-digests-place.result at c.loop-place.invariant.asks c.in_ok-has_digest.ensures.asks)

pub returns-then-not-branch-clause-no : goal.returns-then-not-branch-clause-no
returns-then-not-branch-clause-no g c =
    let at = compared c.args.facts.now c.args.numbers.now c.args.logged.now c.args.digests.now c.loop-place.place (get_or c.args.logged.now c.loop-place.place c.index-logged-place.result) c.index-digests-place.result c.requires.paths c.requires.count c.loop-place-test.true (ap (get_or c.args.logged.now c.loop-place.place) c.index-logged-place.is) c.index-digests-place.is in
    λ e. differs_at (g.F.Files.outside c.args.files.now).disk c.has_digest.new.facts c.args.numbers.now c.args.digests.now c.loop-place.place c.index-digests-place.result c.loop-place-test.true at.told (λ known. true≢false (sym (c.in_ok-has_digest.ensures.same.1 known) ∙ c.if-not-branch.true))
    (subst (λ d. IsGoneIfUnknown d c.has_digest.new.facts (get_or c.args.numbers.now c.loop-place.place 0)) c.loop-place.invariant.asks.effect.files c.in_ok-has_digest.ensures.gone)

pub loop-place-init : goal.loop-place-init
loop-place-init g c = record {
  asks = asks_quiet (Contains c.args.numbers.now) (TellEach c.args.logged.now c.args.digests.now) c.args.facts.now c.args.facts.now (g.F.Files.outside c.args.files.now) (g.F.Files.outside c.args.files.now) (tt {0}) refl (knows_same (Contains c.args.numbers.now) (g.F.Files.outside c.args.files.now).disk (TellEach c.args.logged.now c.args.digests.now) c.args.facts.now);
  each = λ k digest below at. absurd (omega (arith, below));
}

pub loop-place-preserved : goal.loop-place-preserved
loop-place-preserved g c =
    let at = compared c.args.facts.now c.args.numbers.now c.args.logged.now c.args.digests.now c.loop-place.place (get_or c.args.logged.now c.loop-place.place c.index-logged-place.result) c.index-digests-place.result c.requires.paths c.requires.count c.loop-place-test.true (ap (get_or c.args.logged.now c.loop-place.place) c.index-logged-place.is) c.index-digests-place.is in
    let grows = knows_grows (OfOne (get_or c.args.numbers.now c.loop-place.place 0)) (g.F.Files.outside c.loop-place.files).disk (TellsOne c.loop-place.facts (get_or c.args.numbers.now c.loop-place.place 0) (get_or c.args.logged.now c.loop-place.place c.index-logged-place.result).1 c.index-digests-place.result) c.loop-place.facts c.has_digest.new.facts c.has_digest.ensures.asks.learns in record {
      asks = asks_ok {T = Bool} (Contains c.args.numbers.now) (TellEach c.args.logged.now c.args.digests.now) c.args.facts.now c.has_digest.new.facts (g.F.Files.outside c.args.files.now) (g.F.Files.outside c.has_digest.new.files) c.in_ok-has_digest.field-0 (tt {0})
          (asks_next {T = Unit {0}} {U = Bool} c.args.numbers.now c.args.logged.now c.args.digests.now c.args.facts.now c.loop-place.facts c.has_digest.new.facts (g.F.Files.outside c.args.files.now)
          (g.F.Files.outside c.loop-place.files) (g.F.Files.outside c.has_digest.new.files) (tt {0}) (Ok c.in_ok-has_digest.field-0) c.loop-place.place (get_or c.args.logged.now c.loop-place.place c.index-logged-place.result)
          c.index-digests-place.result at c.loop-place.invariant.asks c.in_ok-has_digest.ensures.asks);
      each = known_next c.loop-place.facts c.has_digest.new.facts c.args.numbers.now c.args.digests.now c.loop-place.place c.index-digests-place.result grows c.loop-place.invariant.each at.told (c.in_ok-has_digest.ensures.same.0 c.if-not-branch.false);
    }

pub returns-clause-asks : goal.returns-clause-asks
returns-clause-asks g c = asks_ok {T = Unit {0}} (Contains c.args.numbers.now) (TellEach c.args.logged.now c.args.digests.now) c.args.facts.now c.loop-place.facts (g.F.Files.outside c.args.files.now) (g.F.Files.outside c.loop-place.files) (tt {0}) true c.loop-place.invariant.asks

pub returns-clause-yes : goal.returns-clause-yes
returns-clause-yes g c = λ e. record {
  count = c.requires.count;
  each = λ k digest within at. (let past = c.loop-place-test.false in c.loop-place.invariant.each k digest (omega (arith, within, past)) at);
}
