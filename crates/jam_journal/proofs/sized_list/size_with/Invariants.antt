use Rattle.std.proofs.Common.{◌≡◌, ◌+◌, take}
use Rattle.jam_journal.specs.Sizes.{size_of, capped}
use Rattle.jam_journal.proofs.sized_list.size_with.Given as goal

abbrev pub invariant-loop-text : goal.invariant-loop-text
invariant-loop-text l = l.sum ≡ capped (l.start + size_of (take l.text-index l.texts))
