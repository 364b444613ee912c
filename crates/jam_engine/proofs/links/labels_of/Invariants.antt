use Rattle.jam_engine.specs.Linking.{AreLabels}
use Rattle.jam_engine.proofs.links.labels_of.Given as goal

abbrev pub invariant-loop-first : goal.invariant-loop-first
invariant-loop-first l = AreLabels l.acts l.first l.links
