use Rattle.std.proofs.Common.{ap}
use Rattle.std.specs.Option.{option_copied}
use Rattle.b2_verdicts.proofs.PointsFollow.{other_files_disagree}
use Rattle.b2_verdicts.proofs.verdict.disagreement.Goals as goal

pub returns-in_default-last : goal.returns-in_default-last
returns-in_default-last c = (c.in_default.is, ap option_copied c.in_default-last.is)

pub returns-then-not-has_text : goal.returns-then-not-has_text
returns-then-not-has_text c = (c.in_default.is, c.in-Some-last.last.now, ap option_copied c.in-Some-last.is, c.has_text.ensures.no c.if-not-has_text.true)

pub returns : goal.returns
returns c = other_files_disagree c.args.step.now c.args.numbers.now (option_copied c.args.last) c.in-Some-last.last.now c.args.facts.now c.other_files.result c.in_default.is (record { is = ap option_copied c.in-Some-last.is; text = c.has_text.ensures.yes c.if-not-has_text.false }) c.other_files.ensures
