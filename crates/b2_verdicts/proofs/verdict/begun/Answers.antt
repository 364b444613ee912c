use Rattle.std.proofs.Common.{inl}
use Rattle.std.specs.List.{Contains}
use Rattle.b2_verdicts.specs.VerdictCalls.{IsOfStep, Always}
use Rattle.b2_verdicts.proofs.MoreIsKnown.{knows_same, knows_weaker}
use Rattle.b2_verdicts.proofs.PointsFollow.{commanded_begun}
use Rattle.b2_verdicts.proofs.verdict.begun.Goals as goal

pub returns-in-Some-clause-begun : goal.returns-in-Some-clause-begun
returns-in-Some-clause-begun g c = commanded_begun c.args.all c.args.step.now c.args.numbers.now c.args.facts.now c.in-Some.point c.in-Some.ensures

pub returns-in-Some-clause-learns : goal.returns-in-Some-clause-learns
returns-in-Some-clause-learns g c = knows_same (IsOfStep c.args.numbers.now) (g.F.Files.outside c.args.files.now).disk Always c.args.facts.now

pub returns-in-None-clause-learns : goal.returns-in-None-clause-learns
returns-in-None-clause-learns g c = knows_weaker (Contains c.args.numbers.now.outs) (IsOfStep c.args.numbers.now) (g.F.Files.outside c.args.files.now).disk Always Always c.args.facts.now c.outputs.new.facts (λ n among. inl among) (λ now q. q) c.outputs.ensures.learns
