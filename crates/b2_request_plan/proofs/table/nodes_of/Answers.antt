use Rattle.std.proofs.Common.{reverse}
use Rattle.std.specs.List.{flat_map}
use Rattle.b2_generate.specs.Nodes.{entry_in}
use Rattle.b2_generate.specs.Planning.{first_rows}
use Rattle.b2_request_plan.proofs.WalkFindsEachRowOnce.{begun, goes_on, fewer_turns}
use Rattle.b2_request_plan.proofs.table.nodes_of.Goals as goal

pub loop-place-init : goal.loop-place-init
loop-place-init c = begun (reverse c.args.nodes.now) c.args.asked.now c.in_ok-walk.walk c.in_ok-walk.ensures

pub loop-place-smaller : goal.loop-place-smaller
loop-place-smaller c =
    fewer_turns (reverse c.args.nodes.now) c.loop-place.walk.next.items (record c.loop-place.walk { next = c.pop.new.self }) c.open.new.self c.in-Some.place c.in-Some.ensures.items c.in_ok-open.ensures.opens

pub loop-place-preserved : goal.loop-place-preserved
loop-place-preserved c =
    goes_on (reverse c.args.nodes.now) (first_rows (flat_map (λ place. (entry_in (reverse c.args.nodes.now) place).1.rows) c.args.asked.now)) c.loop-place.walk.next.items (record c.loop-place.walk { next = c.pop.new.self })
    c.open.new.self c.in-Some.place c.in-Some.ensures.items c.loop-place.invariant.goes c.in_ok-open.ensures.walk c.in_ok-open.ensures.opens
