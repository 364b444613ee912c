use Rattle.std.specs.Str.{bytes_eq}
use Rattle.std.specs.Cmp.Lexicographic.{texts_ties}
use Rattle.std.proofs.lemmas.Cmp.{nat_list_cmp_total}
use Rattle.std.proofs.lemmas.List.Filters.{dedup_is}
use Rattle.std.proofs.lemmas.List.Kept.{IsStrictlySortedBy-dedup}
use Rattle.b2_realhost.proofs.listing.in_order.Goals as goal

pub returns : goal.returns
returns c = rw (c.from_vec.ensures, dedup_is bytes_eq _ _ c.dedup.ensures.filtered) (IsStrictlySortedBy-dedup nat_list_cmp_total texts_ties _ c.in_ok-sort.ensures.sorted)
