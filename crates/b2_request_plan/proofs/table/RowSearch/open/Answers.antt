use Rattle.std.proofs.Common.{refl}
use Rattle.b2_request_plan.proofs.OpeningPushesChildren.{opens_none, opens_some}
use Rattle.b2_request_plan.proofs.table.RowSearch.open.Goals as goal

pub returns-in-None-clause-opens : goal.returns-in-None-clause-opens
returns-in-None-clause-opens c =
    opens_none c.args.nodes.now c.args.place c.args.self.now _ c.in_ok-insert.field-0 c.in_ok-insert.ensures.updates.0 c.in_ok-insert.ensures.added c.if-not-branch.false c.in-None.ensures refl refl

pub returns-in_ok-note-in-Some-clause-opens : goal.returns-in_ok-note-in-Some-clause-opens
returns-in_ok-note-in-Some-clause-opens c =
    opens_some c.push_children.result c.args.nodes.now c.args.place c.in-Some.node.now c.args.self.now (record c.args.self.now { opened = c.insert.new.self }) c.note.new.self c.push_children.new.self
    c.in_ok-insert.field-0 c.in_ok-insert.ensures.updates.0 refl refl c.in_ok-insert.ensures.added c.if-not-branch.false c.in-Some.ensures c.in_ok-note-in-Some.ensures.found c.note.ensures.others
    c.push_children.ensures.others c.push_children.ensures.next
