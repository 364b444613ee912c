use Rattle.b2_memory.specs.Listings.{risks_told}
use Rattle.b2_memory.proofs.ListedFailuresAreExpected.{after_start}
use Rattle.b2_memory.proofs.script.Script.count_start.Goals as goal

pub invariant_of-self : goal.invariant_of-self
invariant_of-self c =
    let script = c.args.self.now in
    record { within = script.within; covered = after_start script.fuse script.calls.items script.starts.items c.count_down.new.starts.items (risks_told script) c.count_down.ensures script.covered }
