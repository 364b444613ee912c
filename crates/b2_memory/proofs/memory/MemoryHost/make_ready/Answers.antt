use Rattle.std.proofs.Common.{arith}
use Rattle.b2_files.proofs.KnownPathsStayKnown.{known_stays}
use Rattle.b2_memory.specs.PendingWrites.{promised}
use Rattle.b2_memory.proofs.memory.MemoryHost.make_ready.Goals as goal

pub invariant_of-self : goal.invariant_of-self
invariant_of-self c =
    let had = c.args.self.now.room in
    let len = c.prepare_one.ensures.len in
    let room = c.prepare_one.ensures.room in
    record {
      room = omega (arith, had, len, room);
      known = known_stays c.args.self.now.store.places c.prepare_one.new.self.places (promised c.args.self.now.child_table.running.items) c.prepare_one.ensures.stays c.args.self.now.known;
      log_is = c.args.self.now.log_is;
      end_well = c.args.self.now.end_well;
    }
