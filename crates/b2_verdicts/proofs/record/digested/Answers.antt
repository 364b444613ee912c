use Rattle.std.proofs.Common.{ℕ, List, [], ◌∷◌, Some, None, Ok, Err, length, get_or, slice_get, refl, sym, ap, subst, ◌∙◌, arith}
use Rattle.std.specs.List.{Contains}
use Rattle.std.proofs.lemmas.List.{length-append}
use Rattle.std.proofs.lemmas.Result.{err_from_is_err_and}
use Rattle.b2_facts.specs.Growth.{OfOne}
use Rattle.b2_verdicts.specs.Sights.{digest_in}
use Rattle.b2_verdicts.specs.VerdictCalls.{Always}
use Rattle.b2_verdicts.proofs.WhatIsKnownStays.{number_stays}
use Rattle.b2_verdicts.proofs.MoreIsKnown.{knows_same, knows_grows}
use Rattle.b2_verdicts.proofs.ListsAtPlaces.{index_among}
use Rattle.b2_verdicts.proofs.AskingGoesOn.{asks_ok, asks_quiet, asks_exit, asks_memory_exit}
use Rattle.b2_verdicts.proofs.DigestsAreCompared.{asks_one_more, known_behind}
use Rattle.b2_verdicts.specs.Made.{IsGoneAt}
use Rattle.b2_verdicts.proofs.record.digested.Goals as goal

pub loop-number-init : goal.loop-number-init
loop-number-init g c = record {
  asks = asks_quiet (Contains c.args.numbers.now) Always c.args.facts.now c.args.facts.now (g.F.Files.outside c.args.files.now) (g.F.Files.outside c.args.files.now) (tt {0}) refl (knows_same (Contains c.args.numbers.now) (g.F.Files.outside c.args.files.now).disk Always c.args.facts.now);
  count = ap length c.new-made.ensures;
  each = λ k digest below at. absurd (omega (arith, below));
}

pub find_digest-requires : goal.find_digest-requires
find_digest-requires g c = number_stays c.args.facts.now c.loop-number.facts (get_or c.args.numbers.now c.loop-number.number-index 0) (knows_grows (Contains c.args.numbers.now) (g.F.Files.outside c.args.files.now).disk Always c.args.facts.now c.loop-number.facts c.loop-number.invariant.asks.learns) (c.requires c.loop-number.number-index c.loop-number-test.true)

pub returns-in_err-find_digest-clause-asks : goal.returns-in_err-find_digest-clause-asks
returns-in_err-find_digest-clause-asks g c =
    let q = err_from_is_err_and c.from_residual.result c.from_residual.ensures.1 in
    asks_exit {T = Unit {0}} (Contains c.args.numbers.now) Always c.args.facts.now c.find_digest.new.facts (g.F.Files.outside c.args.files.now) (g.F.Files.outside c.find_digest.new.files) c.in_err-find_digest.field-0.0 c.from_residual.result (q.1 ∙ ap Err q.2)
    (asks_one_more {T = Unit {0}} {U = Unit {0}} (Contains c.args.numbers.now) (get_or c.args.numbers.now c.loop-number.number-index 0) Always Always c.args.facts.now c.loop-number.facts c.find_digest.new.facts
    (g.F.Files.outside c.args.files.now) (g.F.Files.outside c.loop-number.files) (g.F.Files.outside c.find_digest.new.files) (tt {0}) (Err c.in_err-find_digest.field-0.0)
    (index_among c.args.numbers.now c.loop-number.number-index c.loop-number-test.true) (λ now asked. asked) c.loop-number.invariant.asks c.in_err-find_digest.ensures.asks)

pub file-requires : goal.file-requires
file-requires g c = number_stays c.loop-number.facts c.find_digest.new.facts (get_or c.args.numbers.now c.loop-number.number-index 0) (knows_grows (OfOne (get_or c.args.numbers.now c.loop-number.number-index 0))
    (g.F.Files.outside c.loop-number.files).disk Always c.loop-number.facts c.find_digest.new.facts c.find_digest.ensures.asks.learns) (number_stays c.args.facts.now c.loop-number.facts
    (get_or c.args.numbers.now c.loop-number.number-index 0)
    (knows_grows (Contains c.args.numbers.now) (g.F.Files.outside c.args.files.now).disk Always c.args.facts.now c.loop-number.facts c.loop-number.invariant.asks.learns)
    (c.requires c.loop-number.number-index c.loop-number-test.true))

pub returns-in-None-clause-asks : goal.returns-in-None-clause-asks
returns-in-None-clause-asks g c = asks_ok {T = Unit {0}} (Contains c.args.numbers.now) Always c.args.facts.now c.find_digest.new.facts (g.F.Files.outside c.args.files.now) (g.F.Files.outside c.find_digest.new.files) c.in_ok-find_digest.field-0 None
    (asks_one_more {T = Unit {0}} {U = Unit {0}} (Contains c.args.numbers.now) (get_or c.args.numbers.now c.loop-number.number-index 0) Always Always c.args.facts.now c.loop-number.facts c.find_digest.new.facts
    (g.F.Files.outside c.args.files.now) (g.F.Files.outside c.loop-number.files) (g.F.Files.outside c.find_digest.new.files) (tt {0}) (Ok c.in_ok-find_digest.field-0)
    (index_among c.args.numbers.now c.loop-number.number-index c.loop-number-test.true) (λ now asked. asked) c.loop-number.invariant.asks c.in_ok-find_digest.ensures.asks)

pub returns-in_err-copy-in-Some-clause-asks : goal.returns-in_err-copy-in-Some-clause-asks
returns-in_err-copy-in-Some-clause-asks g c =
    let q = err_from_is_err_and c.from_residual-in_err-copy-in-Some.result c.from_residual-in_err-copy-in-Some.ensures.1 in
    asks_memory_exit {T = Unit {0}} (Contains c.args.numbers.now) Always c.args.facts.now c.find_digest.new.facts (g.F.Files.outside c.args.files.now) (g.F.Files.outside c.find_digest.new.files) c.in_ok-find_digest.field-0 c.from_residual-in_err-copy-in-Some.result (q.1 ∙ ap Err q.2)
    (asks_one_more {T = Unit {0}} {U = Unit {0}} (Contains c.args.numbers.now) (get_or c.args.numbers.now c.loop-number.number-index 0) Always Always c.args.facts.now c.loop-number.facts c.find_digest.new.facts
    (g.F.Files.outside c.args.files.now) (g.F.Files.outside c.loop-number.files) (g.F.Files.outside c.find_digest.new.files) (tt {0}) (Ok c.in_ok-find_digest.field-0)
    (index_among c.args.numbers.now c.loop-number.number-index c.loop-number-test.true) (λ now asked. asked) c.loop-number.invariant.asks c.in_ok-find_digest.ensures.asks)

pub returns-in_err-push-in-Some-clause-asks : goal.returns-in_err-push-in-Some-clause-asks
returns-in_err-push-in-Some-clause-asks g c =
    let q = err_from_is_err_and c.from_residual-in_err-push-in-Some.result c.from_residual-in_err-push-in-Some.ensures.1 in
    asks_memory_exit {T = Unit {0}} (Contains c.args.numbers.now) Always c.args.facts.now c.find_digest.new.facts (g.F.Files.outside c.args.files.now) (g.F.Files.outside c.find_digest.new.files) c.in_ok-find_digest.field-0 c.from_residual-in_err-push-in-Some.result (q.1 ∙ ap Err q.2)
    (asks_one_more {T = Unit {0}} {U = Unit {0}} (Contains c.args.numbers.now) (get_or c.args.numbers.now c.loop-number.number-index 0) Always Always c.args.facts.now c.loop-number.facts c.find_digest.new.facts
    (g.F.Files.outside c.args.files.now) (g.F.Files.outside c.loop-number.files) (g.F.Files.outside c.find_digest.new.files) (tt {0}) (Ok c.in_ok-find_digest.field-0)
    (index_among c.args.numbers.now c.loop-number.number-index c.loop-number-test.true) (λ now asked. asked) c.loop-number.invariant.asks c.in_ok-find_digest.ensures.asks)

pub loop-number-preserved : goal.loop-number-preserved
loop-number-preserved g c = record {
  asks = asks_ok {T = Unit {0}} (Contains c.args.numbers.now) Always c.args.facts.now c.find_digest.new.facts (g.F.Files.outside c.args.files.now) (g.F.Files.outside c.find_digest.new.files) c.in_ok-find_digest.field-0 (tt {0})
      (asks_one_more {T = Unit {0}} {U = Unit {0}} (Contains c.args.numbers.now) (get_or c.args.numbers.now c.loop-number.number-index 0) Always Always c.args.facts.now c.loop-number.facts c.find_digest.new.facts
      (g.F.Files.outside c.args.files.now) (g.F.Files.outside c.loop-number.files) (g.F.Files.outside c.find_digest.new.files) (tt {0}) (Ok c.in_ok-find_digest.field-0)
      (index_among c.args.numbers.now c.loop-number.number-index c.loop-number-test.true) (λ now asked. asked) c.loop-number.invariant.asks c.in_ok-find_digest.ensures.asks);
  count = (let count = c.loop-number.invariant.count in ap length c.in_ok-push-in-Some.ensures.ok ∙ omega (arith, length-append c.loop-number.made (c.in_ok-copy-in-Some.field-0 ∷ []), count));
  each = λ k digest below at. known_behind c.loop-number.facts c.find_digest.new.facts c.args.numbers.now c.loop-number.made c.loop-number.number-index c.in_ok-copy-in-Some.field-0 (knows_grows (OfOne (get_or c.args.numbers.now c.loop-number.number-index 0)) (g.F.Files.outside c.loop-number.files).disk Always c.loop-number.facts c.find_digest.new.facts c.find_digest.ensures.asks.learns) c.loop-number.invariant.count c.loop-number.invariant.each
      (ap digest_in c.file.ensures ∙ c.in-Some.is ∙ ap Some (sym c.in_ok-copy-in-Some.ensures)) k digest below (sym (ap (λ (l : List (List ℕ)). slice_get l k) c.in_ok-push-in-Some.ensures.ok) ∙ at);
}

pub returns-clause-asks : goal.returns-clause-asks
returns-clause-asks g c = asks_ok {T = Unit {0}} (Contains c.args.numbers.now) Always c.args.facts.now c.loop-number.facts (g.F.Files.outside c.args.files.now) (g.F.Files.outside c.loop-number.files) (tt {0}) (Some c.loop-number.made) c.loop-number.invariant.asks

pub returns-clause-made : goal.returns-clause-made
returns-clause-made g c =
    let past = c.loop-number-test.false in
    let end = c.loop-number.auto.number-index-end in
    let count = c.loop-number.invariant.count in
    record { count = omega (arith, past, end, count); each = λ k digest within at. c.loop-number.invariant.each k digest (omega (arith, within, past)) at }

pub returns-in-None-clause-gone : goal.returns-in-None-clause-gone
returns-in-None-clause-gone g c = (
  (get_or c.args.numbers.now c.loop-number.number-index 0),
  index_among c.args.numbers.now c.loop-number.number-index c.loop-number-test.true,
  subst (λ d. IsGoneAt d c.find_digest.new.facts (get_or c.args.numbers.now c.loop-number.number-index 0)) c.loop-number.invariant.asks.effect.files (c.in_ok-find_digest.ensures.gone (ap digest_in c.file.ensures ∙ c.in-None.is)),
)
