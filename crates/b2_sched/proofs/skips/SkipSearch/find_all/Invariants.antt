use Rattle.std.proofs.Common.{◌≡◌, take}
use Rattle.b2_sched.specs.Searches.{AreFound}
use Rattle.b2_sched.proofs.skips.SkipSearch.find_all.Given as goal

-- those of the numbers so far were found
abbrev pub invariant-loop-number : goal.invariant-loop-number
invariant-loop-number l = record {
  left : l.self.left.items ≡ l.initial.self.left.items;
  found : AreFound l.initial.self.left.items (take l.number-index l.numbers) l.initial.self.found.items l.initial.self.pending.items l.self.found.items l.self.pending.items;
}
