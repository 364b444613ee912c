use Rattle.std.proofs.Common.{◌≡◌, refl, sym, subst}
use Rattle.std.specs.Ordering.{nat_cmp}
use Rattle.std.specs.Cmp.Lexicographic.{slice_cmp}
use Rattle.std.specs.List.Sorted.{IsStrictlySortedBy}
use Rattle.std.proofs.lemmas.Iterator.Consumers.{map_from_collect, YieldsList-from_rest}
use Rattle.std.proofs.lemmas.Result.{IfOk-at_ok}
use Rattle.b2_base.specs.Segments.{texts}
use Rattle.b2_base.proofs.KeysAreTheSortedPaths.{keys_are}
use Rattle.b2_base.proofs.path_map.PathMap.keys.Goals as goal

pub returns : goal.returns
returns g c =
    let collected = IfOk-at_ok (λ paths. texts paths.items ≡ c.keys.result) c.in_ok-collect.was (map_from_collect _ c.collect.ensures.ran (YieldsList-from_rest c.keys.result refl)) in
    keys_are c.self.inside.values c.args.self.now c.keys.result (texts c.in_ok-collect.field-0.items) c.self.view_is collected c.keys.ensures.has (subst (IsStrictlySortedBy (slice_cmp nat_cmp)) (sym c.keys.ensures.rest) c.keys.ensures.ordered)
