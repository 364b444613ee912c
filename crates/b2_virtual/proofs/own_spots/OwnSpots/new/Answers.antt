use Rattle.std.proofs.Common.{Some, cond, ap, ◌∙◌}
use Rattle.std.specs.FinMap.{get, get-empty}
use Rattle.std.specs.List.{list_any}
use Rattle.std.specs.Str.{bytes_eq}
use Rattle.std.specs.Ordering.{nat_cmp}
use Rattle.std.specs.Cmp.Lexicographic.{slice_cmp}
use Rattle.b2_virtual.specs.Spots.{Numbers}
use Rattle.b2_virtual.proofs.own_spots.OwnSpots.new.Goals as goal

pub insert_all-requires : goal.insert_all-requires
insert_all-requires c = λ q h. ap (λ (m : Numbers). get m q) c.new-every.ensures ∙ get-empty (slice_cmp nat_cmp) q

pub returns : goal.returns
returns c = record {
  every_is = λ q. c.in_ok-insert_all.ensures.ok q ∙ ap (cond (list_any (bytes_eq q) c.args.spots.now) (Some 1)) (ap (λ (m : Numbers). get m q) c.new-every.ensures ∙ get-empty (slice_cmp nat_cmp) q);
  outermost_are = c.in_ok-outermost.ensures;
}
