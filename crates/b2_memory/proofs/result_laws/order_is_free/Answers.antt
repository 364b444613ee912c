use Rattle.b2_memory.proofs.InputOrderDoesNotMatter.{order_is_free}
use Rattle.b2_memory.proofs.result_laws.order_is_free.Goals as goal

pub returns : goal.returns
returns c = order_is_free
