use Rattle.std.proofs.Common.{ap, sym, ◌∙◌, arith}
use Rattle.b2_files.proofs.KnownPathsStayKnown.{known_stays}
use Rattle.b2_host.specs.Outside.{Risks}
use Rattle.b2_memory.specs.PendingWrites.{promised}
use Rattle.b2_memory.proofs.memory.MemoryHostFiles.remove.Goals as goal

pub invariant_of-self-2 : goal.invariant_of-self-2
invariant_of-self-2 c =
    let had = c.args.self.now.room in
    let len = c.remove.ensures.len in
    let room = c.remove.ensures.room in
    record {
      room = omega (arith, had, len, room);
      known = known_stays c.args.self.now.store.places c.remove.new.self.places (promised c.args.self.now.child_table.running.items) (λ q k. c.remove.ensures.known q ∙ k) c.args.self.now.known;
      log_is = c.args.self.now.log_is;
      end_well = λ none. c.args.self.now.end_well (sym (ap (λ (r : Risks). r.may_end_badly) c.fails.ensures.risks) ∙ none);
    }
