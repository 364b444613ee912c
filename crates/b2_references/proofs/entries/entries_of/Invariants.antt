use Rattle.std.proofs.Common.{◌≡◌, length, take}
use Rattle.b2_references.specs.Indexing.{AreEntries}
use Rattle.b2_references.proofs.entries.entries_of.Given as goal

-- the main targets so far are in the entries
abbrev pub invariant-loop-number : goal.invariant-loop-number
invariant-loop-number l = record {
  entries : AreEntries (take l.number l.targets) l.made.items;
  projects : length l.made.items ≡ l.projects;
}
