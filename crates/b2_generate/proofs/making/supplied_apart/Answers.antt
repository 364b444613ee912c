use Rattle.std.proofs.Common.{reverse, sym, ◌∙◌}
use Rattle.b2_generate.proofs.SuppliesAreThoseDefined.{none_apart}
use Rattle.b2_generate.proofs.making.supplied_apart.Goals as goal

pub returns-else-needs_library : goal.returns-else-needs_library
returns-else-needs_library c = none_apart c.args.types.now.types (reverse c.args.nodes.now) c.args.frame.now (sym c.needs_library.ensures ∙ c.if-needs_library.false)
