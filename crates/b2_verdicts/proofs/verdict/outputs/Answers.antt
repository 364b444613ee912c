use Rattle.std.proofs.Common.{sym, subst}
use Rattle.std.specs.List.{Contains}
use Rattle.b2_verdicts.specs.Sights.{AreNumbers, AllStand}
use Rattle.b2_verdicts.specs.VerdictCalls.{Always}
use Rattle.b2_verdicts.proofs.WhatIsKnownStays.{numbers_stay}
use Rattle.b2_verdicts.proofs.MoreIsKnown.{knows_grows}
use Rattle.b2_verdicts.proofs.verdict.outputs.Goals as goal

pub first_gone-requires : goal.first_gone-requires
first_gone-requires g c = subst (AreNumbers c.ask_all.new.facts) (sym c.as_slice-outs.ensures)
    (numbers_stay c.args.facts.now c.ask_all.new.facts c.args.numbers.now.outs (knows_grows (Contains c.as_slice-outs.result.now) (g.F.Files.outside c.args.files.now).disk Always c.args.facts.now c.ask_all.new.facts c.ask_all.ensures.learns) c.requires)

pub returns-in-None-clause-stand : goal.returns-in-None-clause-stand
returns-in-None-clause-stand g c = subst (AllStand c.ask_all.new.facts) c.as_slice-outs.ensures c.in-None.ensures
