use Rattle.std.proofs.Common.{length, take, ◌≡◌}
use Rattle.jam_engine.specs.Linking.{LabelsMore, waiting}
use Rattle.jam_engine.proofs.links.label_all.Given as goal

abbrev pub invariant-loop-place : goal.invariant-loop-place
invariant-loop-place l = record {
  count : length l.labels.items ≡ length l.initial.labels.items;
  waiting : waiting l.stack.items l.labels.items ≡ waiting l.initial.stack.items l.initial.labels.items;
  more : LabelsMore (take l.place-index l.places) l.first l.initial.labels.items l.labels.items l.initial.stack.items l.stack.items;
}
