use Rattle.b2_request_plan.proofs.KnownRowsAreThoseFound.{known_found}
use Rattle.b2_request_plan.proofs.table.RowSearch.note.Goals as goal

pub returns-in_ok-push-clause-walk : goal.returns-in_ok-push-clause-walk
returns-in_ok-push-clause-walk c =
    known_found c.key_of.result c.args.node c.args.self.now _ c.in_ok-insert.field-0 c.requires c.key_of.ensures c.in_ok-insert.ensures.updates.0 c.in_ok-insert.ensures.added c.if-branch.true c.in_ok-push.ensures.items
