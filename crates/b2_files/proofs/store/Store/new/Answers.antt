use Rattle.b2_files.proofs.PuttingWritesTheDisk.{placed_none}
use Rattle.b2_files.proofs.store.Store.new.Goals as goal

pub invariant_of-result-clause-placed : goal.invariant_of-result-clause-placed
invariant_of-result-clause-placed c = placed_none _ c.new-2.result c.new-2.ensures
