use Rattle.std.proofs.Common.{◌∙◌}
use Rattle.b2_base.proofs.BothJoinsMakeOneText.{joined}
use Rattle.b2_project_walk.proofs.directories.joined.Goals as goal

pub returns : goal.returns
returns c = c.in_ok-join.ensures.ok ∙ joined c.args.segments.now
