use Rattle.std.proofs.Common.{◌∙◌}
use Rattle.std.specs.List.{list_all}
use Rattle.jam_values.proofs.conditions.is_within.Goals as goal

pub returns-in-Ok : goal.returns-in-Ok
returns-in-Ok c = c.are_in.ensures ∙ (λ i. list_all (λ text. c.in-Ok.ensures text i) c.args.texts.now)
