use Rattle.std.proofs.Common.{◌++◌, map, ap, ap₂, ◌∙◌}
use Rattle.b2_virtual.specs.Supplies.{entries_of}
use Rattle.b2_generate.proofs.making.order_of.Goals as goal

pub returns : goal.returns
returns c =
    c.in_ok-push_paths.ensures
    ∙ ap₂ (λ xs es. xs ++ map (λ e. e.path) es) c.new-paths.ensures (c.as_slice-2.ensures ∙ c.in_ok-entries.ensures ∙ ap entries_of (c.as_slice.ensures ∙ c.in_ok-order.ensures))
