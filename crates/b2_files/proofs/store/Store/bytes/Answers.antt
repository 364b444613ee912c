use Rattle.std.proofs.Common.{◌<◌, Some, ap, sym, ◌∙◌, subst}
use Rattle.std.proofs.lemmas.List.{length-map}
use Rattle.b2_files.specs.Buffers.{buffers_of}
use Rattle.b2_files.specs.Stores.{write_in}
use Rattle.b2_files.specs.StoreDisks.{writes_told}
use Rattle.b2_files.proofs.WritesStayAsTheyWere.{write_here}
use Rattle.b2_files.proofs.PlacedWriteIsWhatStands.{bytes_here}
use Rattle.b2_files.proofs.store.Store.bytes.Goals as goal

pub returns-in-Some : goal.returns-in-Some
returns-in-Some c =
    let store = c.args.self.now in
    let buffers = buffers_of store.contents in
    let version = c.index.result.now in
    let low = subst (λ n. c.in-Some.place < n) store.past.ok.0 c.in-Some.ensures.within in
    ap Some c.bytes.ensures
    ∙ bytes_here (writes_told store) store.places c.args.path.now c.in-Some.place (write_in buffers version) (subst (λ n. c.in-Some.place < n) (sym (length-map store.past.items (write_in buffers))) low)
    (sym c.place.ensures.value ∙ c.in-Some.is) (write_here buffers store.past.items c.in-Some.place version low c.index.ensures)
