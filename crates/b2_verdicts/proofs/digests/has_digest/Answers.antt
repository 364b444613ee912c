use Rattle.std.proofs.Common.{None, Ok, Err, ap, ◌∙◌}
use Rattle.std.proofs.lemmas.Result.{err_from_is_err_and}
use Rattle.b2_facts.specs.Growth.{OfOne}
use Rattle.b2_verdicts.specs.VerdictCalls.{Always}
use Rattle.b2_verdicts.specs.Digested.{TellsOne}
use Rattle.b2_verdicts.proofs.WhatIsKnownStays.{number_stays}
use Rattle.b2_verdicts.proofs.MoreIsKnown.{knows_grows}
use Rattle.b2_verdicts.proofs.AskingGoesOn.{asks_ok, asks_after, asks_exit, asks_no_memory}
use Rattle.b2_verdicts.proofs.digests.has_digest.Goals as goal

pub returns-in_err-take_logged-clause-asks : goal.returns-in_err-take_logged-clause-asks
returns-in_err-take_logged-clause-asks g c =
    let q = err_from_is_err_and c.from_residual.result c.from_residual.ensures.1 in
    asks_no_memory (OfOne c.args.number) (TellsOne c.args.facts.now c.args.number c.args.stamp c.args.digest.now) c.args.facts.now c.take_logged.new.facts (g.F.Files.outside c.args.files.now) c.from_residual.result (q.1 ∙ ap Err q.2) (c.take_logged.ensures (g.F.Files.outside c.args.files.now).disk)

pub find_digest-requires : goal.find_digest-requires
find_digest-requires g c = number_stays c.args.facts.now c.take_logged.new.facts c.args.number (knows_grows (OfOne c.args.number) None (TellsOne c.args.facts.now c.args.number c.args.stamp c.args.digest.now) c.args.facts.now c.take_logged.new.facts (c.take_logged.ensures None)) c.requires.number

pub returns-in_err-find_digest-clause-asks : goal.returns-in_err-find_digest-clause-asks
returns-in_err-find_digest-clause-asks g c =
    let q = err_from_is_err_and c.from_residual-in_err-find_digest.result c.from_residual-in_err-find_digest.ensures.1 in
    asks_exit {T = Unit {0}} (OfOne c.args.number) (TellsOne c.args.facts.now c.args.number c.args.stamp c.args.digest.now) c.args.facts.now c.find_digest.new.facts (g.F.Files.outside c.args.files.now) (g.F.Files.outside c.find_digest.new.files) c.in_err-find_digest.field-0.0 c.from_residual-in_err-find_digest.result (q.1 ∙ ap Err q.2)
    (asks_after (OfOne c.args.number) (TellsOne c.args.facts.now c.args.number c.args.stamp c.args.digest.now) c.args.facts.now c.take_logged.new.facts c.find_digest.new.facts (g.F.Files.outside c.args.files.now) (g.F.Files.outside c.find_digest.new.files) (Err c.in_err-find_digest.field-0.0) (c.take_logged.ensures (g.F.Files.outside c.args.files.now).disk) c.in_err-find_digest.ensures.asks)

pub is_digest-requires : goal.is_digest-requires
is_digest-requires g c = number_stays c.take_logged.new.facts c.find_digest.new.facts c.args.number (knows_grows (OfOne c.args.number) (g.F.Files.outside c.args.files.now).disk Always c.take_logged.new.facts c.find_digest.new.facts c.find_digest.ensures.asks.learns)
    (number_stays c.args.facts.now c.take_logged.new.facts c.args.number (knows_grows (OfOne c.args.number) None (TellsOne c.args.facts.now c.args.number c.args.stamp c.args.digest.now) c.args.facts.now c.take_logged.new.facts (c.take_logged.ensures None)) c.requires.number)

pub returns-clause-asks : goal.returns-clause-asks
returns-clause-asks g c = asks_ok {T = Unit {0}} (OfOne c.args.number) (TellsOne c.args.facts.now c.args.number c.args.stamp c.args.digest.now) c.args.facts.now c.find_digest.new.facts (g.F.Files.outside c.args.files.now) (g.F.Files.outside c.find_digest.new.files) c.in_ok-find_digest.field-0 c.is_digest.result
    (asks_after (OfOne c.args.number) (TellsOne c.args.facts.now c.args.number c.args.stamp c.args.digest.now) c.args.facts.now c.take_logged.new.facts c.find_digest.new.facts (g.F.Files.outside c.args.files.now) (g.F.Files.outside c.find_digest.new.files) (Ok c.in_ok-find_digest.field-0) (c.take_logged.ensures (g.F.Files.outside c.args.files.now).disk) c.in_ok-find_digest.ensures.asks)
