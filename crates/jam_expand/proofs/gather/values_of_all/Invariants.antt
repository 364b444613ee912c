use Rattle.std.proofs.Common.{◌≡◌, [], drop}
use Rattle.jam_expand.specs.Values.{joined_after}
use Rattle.jam_expand.proofs.gather.values_of_all.Given as goal

abbrev pub invariant-loop-text : goal.invariant-loop-text
invariant-loop-text g l = joined_after (g.L.Look.answer l.look) l.gathered (drop l.text-index l.texts) ≡ joined_after (g.L.Look.answer l.look) [] l.texts
