use Rattle.std.proofs.Common.{◌≡◌}
use Rattle.jam_engine.specs.Linking.{IsSearch, waiting}
use Rattle.jam_engine.proofs.links.Links.reach.Given as goal

abbrev pub invariant-loop-place : goal.invariant-loop-place
invariant-loop-place l = record { search : IsSearch l.first l.stack.items l.self; acts : l.self.acts ≡ l.initial.self.acts }

abbrev pub decreases-loop-place : goal.decreases-loop-place
decreases-loop-place l = waiting l.stack.items l.self.labels.items
