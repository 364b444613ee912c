use Rattle.std.proofs.Common.{sym, ◌∙◌}
use Rattle.std.proofs.lemmas.List.{length-map}
use Rattle.b2_files.specs.Buffers.{buffers_of}
use Rattle.b2_files.specs.Stores.{write_in}
use Rattle.b2_files.specs.StoreDisks.{writes_told}
use Rattle.b2_files.proofs.PuttingWritesTheDisk.{place_within}
use Rattle.b2_files.proofs.store.Store.place.Goals as goal

pub returns-clause-within : goal.returns-clause-within
returns-clause-within c =
    let store = c.args.self.now in
    place_within (writes_told store) store.places c.args.path.now store.placed store.past.len (store.past.ok.0 ∙ sym (length-map store.past.items (write_in (buffers_of store.contents)))) c.get.result c.get.ensures
