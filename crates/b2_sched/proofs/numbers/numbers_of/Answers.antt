use Rattle.std.proofs.Common.{false, get_or}
use Rattle.b2_sched.specs.NumberSets.{Has}
use Rattle.b2_sched.proofs.ListsGrowByOneNumber.{listed_more}
use Rattle.b2_sched.proofs.numbers.numbers_of.Goals as goal

pub loop-number-preserved : goal.loop-number-preserved
loop-number-preserved c =
    listed_more (Has c.args.flags.now) c.loop-number.number c.loop-number.numbers.items c.push_if.new.numbers.items (get_or c.args.flags.now c.loop-number.number false) c.in_ok-push_if.ensures (λ h. h) (λ h. h) c.loop-number.invariant
