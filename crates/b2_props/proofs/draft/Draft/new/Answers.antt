use Rattle.std.proofs.Common.{◌∙◌, List, [], ap, ℕ}
use Rattle.std.specs.List.{list_any}
use Rattle.std.specs.Ordering.{is_eq, nat_cmp}
use Rattle.std.specs.FinMap as map
use Rattle.std.specs.Cmp.Lexicographic.{slice_cmp}
use Rattle.std.specs.FinMap.{get-from_entries}
use Rattle.std.proofs.lemmas.Cmp.{nat_list_cmp_total}
use Rattle.b2_props.specs.Sets.{Pair}
use Rattle.b2_props.specs.Holding.{pair_cmp}
use Rattle.b2_props.proofs.draft.Draft.new.Goals as goal

pub returns : goal.returns
returns c = λ table. record {
  values = λ q here. ap (λ (m : map.FinMap (slice_cmp nat_cmp) (List ℕ)). map.get m q) c.new.ensures ∙ get-from_entries nat_list_cmp_total [] q;
  free = c.new-2.ensures.items;
  known = λ q. ap (λ (ks : List Pair). list_any (λ k. is_eq (pair_cmp q k)) ks) c.new-3.ensures.empty;
}
