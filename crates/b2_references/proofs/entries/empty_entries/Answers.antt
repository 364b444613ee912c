use Rattle.b2_references.proofs.EntriesGrowByOneTarget.{empty_entries_are}
use Rattle.b2_references.proofs.entries.empty_entries.Goals as goal

pub returns-clause-none : goal.returns-clause-none
returns-clause-none c = empty_entries_are c.loop-project.made.items c.loop-project.invariant.none
