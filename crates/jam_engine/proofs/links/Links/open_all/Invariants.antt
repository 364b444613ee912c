use Rattle.std.proofs.Common.{List, take, true, ℕ, ◌∷◌, ◌≡◌}
use Rattle.std.specs.List.{Contains}
use Rattle.jam_engine.specs.Linking.{IsSearch, waiting}
use Rattle.jam_engine.specs.Tables.{is_in}
use Rattle.jam_engine.proofs.links.Links.open_all.Given as goal

abbrev pub invariant-loop-target : goal.invariant-loop-target
invariant-loop-target l = record {
  search : IsSearch l.first (l.place ∷ l.stack.items) l.self;
  opened : (t : List ℕ) → Contains (take l.target-index l.target-items) t → is_in l.self.opened t ≡ true;
  acts : l.self.acts ≡ l.initial.self.acts;
  waiting : waiting l.stack.items l.self.labels.items ≡ waiting l.initial.stack.items l.initial.self.labels.items;
}
