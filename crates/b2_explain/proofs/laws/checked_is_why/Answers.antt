use Rattle.b2_explain.proofs.CheckedIsWhy.{checked_is_why}
use Rattle.b2_explain.proofs.laws.checked_is_why.Goals as goal

pub returns : goal.returns
returns c = checked_is_why
