use Rattle.std.proofs.Common.{◌<◌, Some, ap₂, sym, ◌∙◌, subst}
use Rattle.std.proofs.lemmas.List.{length-map}
use Rattle.b2_files.specs.Buffers.{buffers_of}
use Rattle.b2_files.specs.Stores.{write_in}
use Rattle.b2_files.specs.StoreDisks.{writes_told}
use Rattle.b2_files.proofs.WritesStayAsTheyWere.{write_here}
use Rattle.b2_files.proofs.PlacedWriteIsWhatStands.{file_here}
use Rattle.b2_files.proofs.store.Store.held.Goals as goal

pub returns-in_ok-path-in-Some : goal.returns-in_ok-path-in-Some
returns-in_ok-path-in-Some c =
    let store = c.args.self.now in
    let buffers = buffers_of store.contents in
    let version = c.index-version.result.now in
    let low = subst (λ n. c.in-Some.place < n) store.past.ok.0 c.in-Some.ensures.within in
    ap₂ (λ p b. Some (p, b)) c.in_ok-path-in-Some.ensures c.in_ok-bytes-in-Some.ensures
    ∙ file_here (writes_told store) store.places c.args.path.now c.in-Some.place (write_in buffers version) store.placed (subst (λ n. c.in-Some.place < n) (sym (length-map store.past.items (write_in buffers))) low)
    (sym c.place.ensures.value ∙ c.in-Some.is) (write_here buffers store.past.items c.in-Some.place version low c.index-version.ensures)
