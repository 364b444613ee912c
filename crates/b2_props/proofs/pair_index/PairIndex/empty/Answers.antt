use Rattle.std.proofs.Common.{List, ap}
use Rattle.std.specs.List.{list_any}
use Rattle.std.specs.Ordering.{is_eq}
use Rattle.b2_props.specs.Sets.{Pair}
use Rattle.b2_props.specs.Holding.{pair_cmp}
use Rattle.b2_props.proofs.pair_index.PairIndex.empty.Goals as goal

pub returns : goal.returns
returns c = record { known = λ q. ap (λ (ks : List Pair). list_any (λ k. is_eq (pair_cmp q k)) ks) c.new.ensures.empty }
