use Rattle.std.proofs.Common.{◌≡◌, false, ap, sym, ◌∙◌, arith}
use Rattle.b2_files.specs.Stores.{all_known}
use Rattle.b2_files.proofs.KnownPathsStayKnown.{known_stays}
use Rattle.b2_memory.specs.PendingWrites.{promised}
use Rattle.b2_memory.proofs.ChildEnds.{promised_push}
use Rattle.b2_memory.specs.GoodEnds.{all_end_well}
use Rattle.b2_memory.proofs.GoodEndsStayGood.{all_with}
use Rattle.b2_host.specs.Outside.{Risks}
use Rattle.b2_memory.proofs.memory.MemoryHost.admit.Goals as goal

pub invariant_of-self-in-Break-branch-5 : goal.invariant_of-self-in-Break-branch-5
invariant_of-self-in-Break-branch-5 c =
    let had = c.args.self.now.room in
    let pending = c.reserve.ensures.pending in
    let len = c.prepare.ensures.len in
    let room = c.prepare.ensures.room in
    record {
      room = omega (arith, had, pending, len, room);
      known = ap (λ rs. all_known c.prepare.new.self.places (promised rs)) c.reserve.ensures.running
          ∙ known_stays c.args.self.now.store.places c.prepare.new.self.places (promised c.args.self.now.child_table.running.items) c.prepare.ensures.stays c.args.self.now.known;
      log_is = c.args.self.now.log_is;
      end_well = λ none. ap all_end_well c.reserve.ensures.running ∙ c.args.self.now.end_well none;
    }

pub invariant_of-self-2 : goal.invariant_of-self-2
invariant_of-self-2 c =
    let pending = c.reserve.ensures.pending in
    let more = c.add.ensures.pending in
    let sum = c.in_ok-pending.ensures in
    let entries = c.len.ensures in
    let room = c.in_ok-prepare.ensures.ok in
    record {
      room = omega (arith, pending, more, sum, entries, room);
      known = rw (c.add.ensures.running, c.reserve.ensures.running) (promised_push c.prepare.new.self.places c.args.self.now.child_table.running.items _
          (known_stays c.args.self.now.store.places c.prepare.new.self.places (promised c.args.self.now.child_table.running.items) c.prepare.ensures.stays c.args.self.now.known)
          (ap (all_known c.prepare.new.self.places) (sym c.as_slice.ensures.value) ∙ c.in_ok-prepare.ensures.known));
      log_is = c.args.self.now.log_is;
      end_well = λ none.
          let old : c.args.self.now.script.may_end_badly ≡ false = sym (ap (λ (r : Risks). r.may_end_badly) c.count_start.ensures.risks) ∙ none in
          rw (c.add.ensures.running, c.reserve.ensures.running) (all_with c.args.self.now.child_table.running.items _ (c.args.self.now.end_well old) (c.requires.well old));
    }
