use Rattle.std.proofs.Common.{ap₂, ◌∙◌}
use Rattle.b2_base.specs.Below.{is_below}
use Rattle.b2_base.proofs.TestTellsWhatIsBelow.{below_is}
use Rattle.b2_base.proofs.path.Path.under.Goals as goal

pub returns-clause-exact : goal.returns-clause-exact
returns-clause-exact c =
    below_is c.is_below.result c.as_str.result.now c.as_str-2.result.now c.is_below.ensures
    ∙ ap₂ is_below c.as_str.ensures.value c.as_str-2.ensures.value
