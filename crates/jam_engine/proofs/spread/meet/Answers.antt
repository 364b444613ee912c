use Rattle.jam_engine.specs.Spreading.{stacked}
use Rattle.jam_engine.proofs.MeetsByLook.{by_look, on_ok, met_old, met_new}
use Rattle.jam_engine.proofs.spread.meet.Goals as goal

pub returns-then-is_some : goal.returns-then-is_some
returns-then-is_some c =
    met_old c.args.graph.now c.args.target.now c.args.seen.now c.args.met.now (stacked c.args.stack.now.items) (by_look c.args.seen.now c.args.target.now c.get.result c.is_some.result _ c.get.ensures c.is_some.ensures c.if-is_some.true)

pub returns : goal.returns
returns c =
    on_ok c.push_next.result (λ puts.
    met_new c.args.graph.now c.args.target.now c.in_ok-key.key c.in_ok-own.own c.args.seen.now c.insert.new.self c.args.met.now c.push.new.self (stacked c.args.stack.now.items) (stacked c.push_next.new.stack.items)
    (by_look c.args.seen.now c.args.target.now c.get.result c.is_some.result _ c.get.ensures c.is_some.ensures c.if-is_some.false) c.in_ok-key.ensures c.in_ok-_before.ensures.ok c.in_ok-own.ensures c.in_ok-push.ensures.ok puts)
    c.push_next.ensures
