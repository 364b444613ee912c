use Rattle.std.proofs.Common.{ap, sym, ◌∙◌, map, length, arith}
use Rattle.b2_files.specs.Writes.{all_written}
use Rattle.b2_files.specs.Stores.{is_known, all_known, write_of}
use Rattle.b2_files.specs.StoreDisks.{told}
use Rattle.b2_files.proofs.KnownPathsStayKnown.{both, known_stays}
use Rattle.b2_files.proofs.store.Store.put_all.Goals as goal

pub loop-entry-preserved : goal.loop-entry-preserved
loop-entry-preserved c =
    let rest = c.in-Some.ensures.steps.0 in
    let here = sym (ap (all_known c.loop-entry.self.places) rest) ∙ c.loop-entry.invariant.known in
    let more = both (is_known c.loop-entry.self.places c.in-Some.entry.path) (all_known c.loop-entry.self.places c.next.new.self.rest.items) here in
    let one = ap length rest in
    let len = c.loop-entry.invariant.len in
    let fits = c.loop-entry.invariant.fits in
    let put_len = c.put_entry.ensures.len in
    let put_room = c.put_entry.ensures.room in
    record {
      known = known_stays c.loop-entry.self.places c.put_entry.new.self.places c.next.new.self.rest.items (λ q k. c.put_entry.ensures.known q ∙ k) more.1;
      disk = ap (all_written (map write_of c.next.new.self.rest.items)) c.put_entry.ensures.disk ∙ sym (ap (λ xs. all_written (map write_of xs) (told c.loop-entry.self)) rest) ∙ c.loop-entry.invariant.disk;
      same = λ q. c.put_entry.ensures.known q ∙ c.loop-entry.invariant.same q;
      len = omega (arith, one, len, put_len);
      fits = omega (arith, one, fits, put_len, put_room);
      room = c.put_entry.ensures.room ∙ c.loop-entry.invariant.room;
    }
