use Rattle.std.proofs.Common.{ℕ, take}
use Rattle.std.specs.List.{Contains}
use Rattle.b2_reach.specs.Steps.{AreMarked, Adds, ChangesMembers}
use Rattle.b2_reach.proofs.reach.Reach.add_all.Given as goal

-- the numbers so far are members
abbrev pub invariant-loop-number : goal.invariant-loop-number
invariant-loop-number l = record {
  same : ChangesMembers l.fn.self l.self;
  adds : Adds (Contains l.numbers) l.fn.self.members l.self.members;
  whole : (n : ℕ) → Contains (take l.number-index l.numbers) n → Contains l.self.members n;
  marked : AreMarked l.marks l.self.members;
}
