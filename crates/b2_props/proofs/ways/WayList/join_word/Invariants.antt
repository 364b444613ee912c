use Rattle.std.proofs.Common.{◌≡◌, take, map, fold}
use Rattle.b2_props.specs.Requests.{segment_ways, joined}
use Rattle.b2_props.specs.Ways.{ways_in, IsPlaced}
use Rattle.b2_props.proofs.ways.WayList.join_word.Given as goal

-- the ways of the segments so far are joined
abbrev pub invariant-loop-pairs : goal.invariant-loop-pairs
invariant-loop-pairs l = record {
  ways : ways_in l.self ≡ fold joined (ways_in l.initial.self) (map (segment_ways l.registry l.place l.lone) (map (λ pairs. pairs.items) (take l.pairs-index l.segments)));
  placed : IsPlaced l.self;
}
