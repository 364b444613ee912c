use Rattle.std.proofs.Common.{ap, sym, subst, ◌∙◌, []}
use Rattle.jam_expand.specs.Limits.{within, IsGivenBy}
use Rattle.jam_expand.specs.Products.{product}
use Rattle.jam_expand.proofs.ProductGrowsFromLastList.{product_empty}
use Rattle.jam_expand.proofs.MergingKeepsTheProduct.{merged_same, merged_filled}
use Rattle.jam_expand.proofs.product.product.Goals as goal

pub returns-then-any_empty : goal.returns-then-any_empty
returns-then-any_empty c = rw c.new.ensures (ap within (product_empty c.args.lists.items (rw c.as_slice.ensures.value at (sym c.if-any_empty.ensures))))

pub lone_or_product-requires : goal.lone_or_product-requires
lone_or_product-requires c = rw c.as_slice.ensures.value at (sym c.if-any_empty.ensures)

pub lone_or_product-requires-2 : goal.lone_or_product-requires-2
lone_or_product-requires-2 c = rw c.in_ok-merged.ensures (merged_filled [] c.args.lists.items (rw c.as_slice.ensures.value at (sym c.if-any_empty.ensures)))

pub returns : goal.returns
returns c = subst (λ answer. IsGivenBy c.lone_or_product-2.result answer) (ap within (ap product c.in_ok-merged.ensures ∙ merged_same c.args.lists.items)) c.lone_or_product-2.ensures
