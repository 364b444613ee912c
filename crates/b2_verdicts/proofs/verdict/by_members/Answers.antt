use Rattle.std.specs.List.{Contains}
use Rattle.b2_verdicts.specs.VerdictCalls.{Always}
use Rattle.b2_verdicts.proofs.WhatIsKnownStays.{numbers_stay}
use Rattle.b2_verdicts.proofs.MoreIsKnown.{knows_grows}
use Rattle.b2_verdicts.proofs.verdict.by_members.Goals as goal

pub judged-requires-clause-outs : goal.judged-requires-clause-outs
judged-requires-clause-outs g c = numbers_stay c.args.facts.now c.ask_all.new.facts c.args.numbers.now.outs (knows_grows (Contains c.as_slice.result.now) (g.F.Files.outside c.args.files.now).disk Always c.args.facts.now c.ask_all.new.facts c.ask_all.ensures.learns) c.requires.outs

pub judged-requires-clause-ins : goal.judged-requires-clause-ins
judged-requires-clause-ins g c = numbers_stay c.args.facts.now c.ask_all.new.facts c.args.numbers.now.ins (knows_grows (Contains c.as_slice.result.now) (g.F.Files.outside c.args.files.now).disk Always c.args.facts.now c.ask_all.new.facts c.ask_all.ensures.learns) c.requires.ins
