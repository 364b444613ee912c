use Rattle.std.proofs.Common.{◌≡◌, ◌++◌, [], string_bytes}
use Rattle.std.specs.Vec.Iter.{into_iter_items}
use Rattle.b2_base.specs.Bytes.{HasNoZero}
use Rattle.jam_expand.specs.Merged.{merged_after}
use Rattle.jam_expand.proofs.product.merged.Given as goal

abbrev pub invariant-loop-list : goal.invariant-loop-list
invariant-loop-list l = record {
  so_far : l.made.items ++ merged_after (string_bytes l.run) (into_iter_items l.list-iterator) ≡ merged_after [] l.fn.lists.items;
  no_zero : HasNoZero (string_bytes l.run);
}
