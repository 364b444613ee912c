use Rattle.std.proofs.Common.{length}
use Rattle.b2_declaring_calls.proofs.attributes.+are_attributes.Given as goal

abbrev pub decreases-are_attributes : goal.decreases-are_attributes
decreases-are_attributes l = length l.lists.now
