use Rattle.std.proofs.Common.{reverse, ap, ◌∙◌}
use Rattle.b2_virtual.specs.Supplies.{entries_of, header_directories}
use Rattle.b2_props.specs.Refinement.{refined}
use Rattle.b2_generate.proofs.SuppliesAreThoseDefined.{are_supplied}
use Rattle.b2_generate.proofs.making.supplies_of.Goals as goal

pub returns : goal.returns
returns c =
    let d = c.args.index.now in
    are_supplied d (reverse c.args.nodes.now) c.args.frame.now c.declared.result.now.types.types c.in_ok-apart.apart c.in_ok-parts.parts c.in_ok-order.order c.in_ok-set.set c.requires
    (ap (λ k. k.types.types) c.declared.ensures) c.in_ok-apart.ensures c.in_ok-parts.ensures c.in_ok-order.ensures
    (c.in_ok-set.ensures.value ∙ ap (λ s. refined d.registry s (header_directories (entries_of c.as_slice.result.now))) c.set.ensures
    ∙ ap (λ xs. refined d.registry c.args.frame.now.needs.set (header_directories (entries_of xs))) c.as_slice.ensures)
    c.in_ok-set.ensures.set
