use Rattle.std.proofs.Common.{ap, sym, ◌∙◌}
use Rattle.b2_files.specs.Stores.{is_known}
use Rattle.b2_files.proofs.KnownPathsStayKnown.{known_more}
use Rattle.b2_files.proofs.store.Store.know_all.Goals as goal

pub loop-entry-preserved : goal.loop-entry-preserved
loop-entry-preserved c =
    let here = ap (λ e. is_known c.know.new.self.places e.path) c.entry-item.is in
    record {
      known = known_more c.loop-entry.self.places c.know.new.self.places c.args.entries.now c.loop-entry.entry-index c.entry-item.result c.loop-entry-test.true c.know.ensures.stays c.loop-entry.invariant.known (sym here ∙ c.in_ok-know.ensures.known);
      stays = λ q k. c.know.ensures.stays q (c.loop-entry.invariant.stays q k);
      disk = c.know.ensures.disk ∙ c.loop-entry.invariant.disk;
      contents = c.know.ensures.contents ∙ c.loop-entry.invariant.contents;
      len = c.know.ensures.len ∙ c.loop-entry.invariant.len;
      room = c.know.ensures.room ∙ c.loop-entry.invariant.room;
    }
