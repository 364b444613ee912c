use Rattle.std.proofs.Common.{◌≡◌, None, take, map}
use Rattle.b2_props.specs.Words.{first_of, segment_pairs, segment_fault}
use Rattle.b2_props.proofs.words.read_segments.Given as goal

-- the properties of the segments so far are there, and none of them is a fault
abbrev pub invariant-loop-segment : goal.invariant-loop-segment
invariant-loop-segment l = record {
  made : map (λ pairs. pairs.items) l.made.items ≡ map (segment_pairs l.registry) (take l.segment-index l.segments);
  fine : first_of (segment_fault l.registry l.word) (take l.segment-index l.segments) ≡ None;
}
