use Rattle.std.proofs.Common.{sym, subst}
use Rattle.std.specs.List.Sorted.{IsStrictlySortedBy}
use Rattle.std.specs.Ordering.{nat_cmp}
use Rattle.std.specs.Cmp.Lexicographic.{slice_cmp}
use Rattle.b2_base.specs.Segments.{texts}
use Rattle.b2_base.specs.Keys.{AreKeys}
use Rattle.b2_files.specs.Stores.{is_known}
use Rattle.b2_files.specs.StoreDisks.{writes_told}
use Rattle.b2_files.proofs.GatheredNamesAreTheListing.{all_listed}
use Rattle.b2_files.proofs.store.Store.list.Goals as goal

pub list_names-requires : goal.list_names-requires
list_names-requires c = subst (λ xs. IsStrictlySortedBy (slice_cmp nat_cmp) (texts xs)) (sym c.as_slice.ensures.value) c.in_ok-paths.ensures.rising

pub returns : goal.returns
returns c =
    let store = c.args.self.now in
    all_listed (writes_told store) store.places c.args.dir.now (texts c.as_slice.result.now) c.list_names.result (subst (λ xs. AreKeys (is_known store.places) (texts xs)) (sym c.as_slice.ensures.value) c.in_ok-paths.ensures) c.list_names.ensures
