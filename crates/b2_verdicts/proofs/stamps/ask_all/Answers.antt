use Rattle.std.proofs.Common.{ap, ◌∙◌, get_or, below_more}
use Rattle.std.specs.List.{Contains}
use Rattle.b2_host.specs.Outside.{Outside}
use Rattle.b2_facts.specs.Growth.{OfOne}
use Rattle.b2_verdicts.specs.VerdictCalls.{Always}
use Rattle.b2_verdicts.proofs.WhatIsKnownStays.{numbers_stay, asked_more}
use Rattle.b2_verdicts.proofs.MoreIsKnown.{knows_grows, knows_one}
use Rattle.b2_verdicts.proofs.ListsAtPlaces.{index_among}
use Rattle.b2_verdicts.proofs.stamps.ask_all.Goals as goal

pub returns-in_err-ask-clause-learns : goal.returns-in_err-ask-clause-learns
returns-in_err-ask-clause-learns g c = knows_one (Contains c.args.numbers.now) (get_or c.args.numbers.now c.loop-number.number-index 0) (g.F.Files.outside c.args.files.now).disk (g.F.Files.outside c.loop-number.files).disk Always c.args.facts.now c.loop-number.facts c.ask.new.facts
    (ap (λ (o : Outside). o.disk) c.loop-number.invariant.outside) (index_among c.args.numbers.now c.loop-number.number-index c.loop-number-test.true) c.loop-number.invariant.learns c.ask.ensures.learns

pub loop-number-preserved : goal.loop-number-preserved
loop-number-preserved g c =
    let grows = knows_grows (OfOne (get_or c.args.numbers.now c.loop-number.number-index 0)) (g.F.Files.outside c.loop-number.files).disk Always c.loop-number.facts c.ask.new.facts c.ask.ensures.learns in
    record {
      numbers = numbers_stay c.loop-number.facts c.ask.new.facts c.args.numbers.now grows c.loop-number.invariant.numbers;
      outside = c.in_ok-ask.ensures.effect ∙ c.loop-number.invariant.outside;
      asked = below_more _ _ (λ k h. asked_more c.loop-number.facts c.ask.new.facts (get_or c.args.numbers.now k 0) grows (c.loop-number.invariant.asked k h)) c.in_ok-ask.ensures.asked;
      learns = knows_one (Contains c.args.numbers.now) (get_or c.args.numbers.now c.loop-number.number-index 0) (g.F.Files.outside c.args.files.now).disk (g.F.Files.outside c.loop-number.files).disk Always c.args.facts.now c.loop-number.facts c.ask.new.facts
          (ap (λ (o : Outside). o.disk) c.loop-number.invariant.outside) (index_among c.args.numbers.now c.loop-number.number-index c.loop-number-test.true) c.loop-number.invariant.learns c.ask.ensures.learns;
    }
