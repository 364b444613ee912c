use Rattle.std.proofs.Common.{◌∙◌, sym, ap, Some, slice_get}
use Rattle.std.specs.Option.{option_copied}
use Rattle.b2_features.specs.Table.{seen, implicit_of}
use Rattle.b2_features.proofs.MapEntriesShowTheTable.{implicit_at, implicit_nowhere}
use Rattle.b2_features.proofs.registry.Registry.implicit_of.Goals as goal

pub returns : goal.returns
returns c =
    ap Some c.as_str.ensures.value
    ∙ implicit_at c.args.value.now c.self.inside.features.entries c.self.inside.implicit c.self.invariant c.in_ok-place.place (seen c.at.result.now) (sym c.get.ensures ∙ c.in_ok-place.was)
    (ap (λ table. slice_get table c.in_ok-place.place) c.self.view_is ∙ c.at.ensures)
    ∙ ap (λ table. implicit_of table c.args.value.now) c.self.view_is

pub returns-in_err-place : goal.returns-in_err-place
returns-in_err-place c =
    ap option_copied c.from_residual.ensures
    ∙ implicit_nowhere c.args.value.now c.self.inside.features.entries c.self.inside.implicit c.self.invariant (sym c.get.ensures ∙ c.in_err-place.was)
    ∙ ap (λ table. implicit_of table c.args.value.now) c.self.view_is
