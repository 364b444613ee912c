use Rattle.std.proofs.Common.{List, true, refl, ap, sym, ◌∙◌, subst}
use Rattle.std.proofs.lemmas.List.{length-map, map-append}
use Rattle.std.proofs.lemmas.List.Folds.{list_all-append}
use Rattle.b2_files.specs.declared.version.Version.{Version}
use Rattle.b2_files.specs.Buffers.{buffers_of, is_within}
use Rattle.b2_files.specs.Stores.{Write, write_in, writes_in, all_within, disk_of, IsPlaced}
use Rattle.b2_files.proofs.KnownPathsStayKnown.{and_true}
use Rattle.b2_files.proofs.PuttingWritesTheDisk.{has_put, placed_put, disk_put}
use Rattle.b2_files.proofs.store.Store.put.Goals as goal

pub invariant_of-self : goal.invariant_of-self
invariant_of-self c =
    let store = c.args.self.now in
    let buffers = buffers_of store.contents in
    let writes = writes_in buffers store.past.items in
    let put = has_put writes (write_in buffers c.args.version) store.places c.set.new.self c.len-place.result c.requires.known (c.len-place.ensures ∙ store.past.ok.0 ∙ sym (length-map store.past.items (write_in buffers))) c.set.ensures.places in
    record {
      placed = subst (λ (xs : List Write). IsPlaced xs c.set.new.self) (sym (ap (writes_in buffers) c.push_reserved.ensures.items ∙ map-append (write_in buffers) store.past.items _)) (placed_put writes (write_in buffers c.args.version) store.places c.set.new.self store.placed put);
      within = ap (all_within buffers) c.push_reserved.ensures.items ∙ list_all-append (λ (v : Version). is_within buffers v.content) store.past.items _ ∙ and_true (all_within buffers store.past.items) _ store.within (and_true (is_within buffers c.args.version.content) true c.requires.within refl);
    }

pub returns-clause-disk : goal.returns-clause-disk
returns-clause-disk c =
    let store = c.args.self.now in
    let buffers = buffers_of store.contents in
    let writes = writes_in buffers store.past.items in
    let put = has_put writes (write_in buffers c.args.version) store.places c.set.new.self c.len-place.result c.requires.known (c.len-place.ensures ∙ store.past.ok.0 ∙ sym (length-map store.past.items (write_in buffers))) c.set.ensures.places in
    ap (λ (xs : List Write). disk_of xs c.set.new.self) (ap (writes_in buffers) c.push_reserved.ensures.items ∙ map-append (write_in buffers) store.past.items _)
    ∙ disk_put writes (write_in buffers c.args.version) store.places c.set.new.self store.placed put
