use Rattle.std.proofs.Common.{Option, refl, ap, subst}
use Rattle.std.specs.List.{Contains}
use Rattle.std.specs.Option.{option_copied}
use Rattle.b2_host.specs.Outside.{Outside, Looks}
use Rattle.b2_verdicts.specs.declared.point.Point.{Point}
use Rattle.b2_verdicts.specs.VerdictCalls.{IsOfStep, Always}
use Rattle.b2_verdicts.specs.Chains.{IsBegun}
use Rattle.b2_verdicts.proofs.WhatIsKnownStays.{numbers_stay}
use Rattle.b2_verdicts.proofs.MoreIsKnown.{knows_grows, knows_ins, knows_after}
use Rattle.b2_verdicts.proofs.PointsFollow.{begun_by_stamps, judged_exact}
use Rattle.b2_verdicts.proofs.verdict.by_stamps.Goals as goal

pub by_members-requires-clause-outs : goal.by_members-requires-clause-outs
by_members-requires-clause-outs g c = numbers_stay c.args.facts.now c.begun.new.facts c.args.numbers.now.outs (knows_grows (IsOfStep c.args.numbers.now) (g.F.Files.outside c.args.files.now).disk Always c.args.facts.now c.begun.new.facts c.begun.ensures.learns) c.requires.outs

pub by_members-requires-clause-ins : goal.by_members-requires-clause-ins
by_members-requires-clause-ins g c = numbers_stay c.args.facts.now c.begun.new.facts c.args.numbers.now.ins (knows_grows (IsOfStep c.args.numbers.now) (g.F.Files.outside c.args.files.now).disk Always c.args.facts.now c.begun.new.facts c.begun.ensures.learns) c.requires.ins

pub returns-in-Some-clause-exact : goal.returns-in-Some-clause-exact
returns-in-Some-clause-exact g c = begun_by_stamps c.args.all c.args.step.now c.args.numbers.now (option_copied c.args.last) c.begun.new.facts c.in-Some.point (subst (IsBegun c.args.all c.args.step.now c.args.numbers.now c.begun.new.facts) c.in-Some.is c.in_ok-point.ensures.begun)

pub returns-in-None-clause-effect : goal.returns-in-None-clause-effect
returns-in-None-clause-effect g c = subst (λ (o : Outside). Looks {T = Option Point} o (g.F.Files.outside c.by_members.new.files) c.by_members.result) c.in_ok-point.ensures.effect c.by_members.ensures.effect

pub returns-in-None-clause-exact : goal.returns-in-None-clause-exact
returns-in-None-clause-exact g c = judged_exact c.args.all c.args.step.now c.args.numbers.now (option_copied c.args.last) c.begun.new.facts c.by_members.new.facts c.by_members.result (subst (IsBegun c.args.all c.args.step.now c.args.numbers.now c.begun.new.facts) c.in-None.is c.in_ok-point.ensures.begun)
    (knows_grows (Contains c.args.numbers.now.ins) (g.F.Files.outside c.begun.new.files).disk Always c.begun.new.facts c.by_members.new.facts c.by_members.ensures.learns) c.by_members.ensures.asked c.by_members.ensures.judged

pub returns-in-None-clause-learns : goal.returns-in-None-clause-learns
returns-in-None-clause-learns g c = knows_after (IsOfStep c.args.numbers.now) (g.F.Files.outside c.args.files.now).disk (g.F.Files.outside c.begun.new.files).disk Always c.args.facts.now c.begun.new.facts c.by_members.new.facts (ap (λ (o : Outside). o.disk) c.in_ok-point.ensures.effect) c.begun.ensures.learns (knows_ins c.args.numbers.now c.args.numbers.now.ins (g.F.Files.outside c.begun.new.files).disk Always c.begun.new.facts c.by_members.new.facts refl c.by_members.ensures.learns)
