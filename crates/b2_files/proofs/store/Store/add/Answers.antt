use Rattle.std.proofs.Common.{◌≡◌, ◌<◌, List, [], ◌++◌, unwrap_or, ap, sym, ◌∙◌, subst}
use Rattle.std.proofs.lemmas.List.{length-map}
use Rattle.std.proofs.lemmas.Result.{IfOk-weaker}
use Rattle.b2_host.specs.FileCalls.{with_piece}
use Rattle.b2_files.specs.Buffers.{buffers_of, bytes_in}
use Rattle.b2_files.specs.Stores.{Write, write_in, IsPlaced, disk_of}
use Rattle.b2_files.specs.StoreDisks.{told, writes_told}
use Rattle.b2_files.proofs.WritesStayAsTheyWere.{keep_writes, keep_within, write_here}
use Rattle.b2_files.proofs.PlacedWriteIsWhatStands.{bytes_here}
use Rattle.b2_files.proofs.store.Store.add.Goals as goal

pub invariant_of-self : goal.invariant_of-self
invariant_of-self c =
    let store = c.args.self.now in
    let before = buffers_of store.contents in
    let after = buffers_of c.add.new.self in
    record {
      placed = subst (λ (ws : List Write). IsPlaced ws store.places) (sym (keep_writes before after store.past.items c.add.ensures.kept store.within)) store.placed;
      within = keep_within before after store.past.items c.add.ensures.kept store.within;
    }

pub returns-in-Some-clause-bytes : goal.returns-in-Some-clause-bytes
returns-in-Some-clause-bytes c =
    let store = c.args.self.now in
    let buffers = buffers_of store.contents in
    let after = buffers_of c.add.new.self in
    let version = c.index.result.now in
    let low = subst (λ n. c.in-Some.place < n) store.past.ok.0 c.in-Some.ensures.within in
    let here = bytes_here (writes_told store) store.places c.args.path.now c.in-Some.place (write_in buffers version) (subst (λ n. c.in-Some.place < n) (sym (length-map store.past.items (write_in buffers))) low) (sym c.place.ensures.value ∙ c.in-Some.is) (write_here buffers store.past.items c.in-Some.place version low c.index.ensures) in
    IfOk-weaker c.add.result (λ made. bytes_in after made ≡ bytes_in buffers version.content ++ c.args.piece.now) (λ made. bytes_in after made ≡ with_piece c.args.path.now c.args.piece.now (told store))
    (λ made e. e ∙ ap (λ o. unwrap_or o [] ++ c.args.piece.now) here) c.add.ensures.bytes

pub returns-in-Some-clause-disk : goal.returns-in-Some-clause-disk
returns-in-Some-clause-disk c =
    let store = c.args.self.now in
    ap (λ (ws : List Write). disk_of ws store.places) (keep_writes (buffers_of store.contents) (buffers_of c.add.new.self) store.past.items c.add.ensures.kept store.within)
