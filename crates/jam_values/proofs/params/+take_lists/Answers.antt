use Rattle.jam_values.specs.Bindings.{bindings_of}
use Rattle.jam_values.proofs.NoMoreLists.{no_more_lists}
use Rattle.jam_values.proofs.params.+take_lists.Goals as goal

pub returns-in-empty : goal.returns-in-empty
returns-in-empty t c = no_more_lists (bindings_of c.args.made.now.items) c.args.params.now c.args.given.now c.is_nothing_left.result c.in-empty.len_below c.is_nothing_left.ensures
