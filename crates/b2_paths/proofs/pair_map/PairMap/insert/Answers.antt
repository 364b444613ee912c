use Rattle.std.proofs.Common.{◌≡◌, None, ap, sym, ◌∙◌}
use Rattle.std.specs.FinMap as map
use Rattle.std.proofs.lemmas.Result.{err_from_is_err_and}
use Rattle.b2_paths.specs.PairMaps.{pair_cmp}
use Rattle.b2_paths.proofs.PairsAreKeys.{get_pair, one_pair}
use Rattle.b2_paths.proofs.pair_map.PairMap.insert.Goals as goal

pub returns-clause-ok : goal.returns-clause-ok
returns-clause-ok c = one_pair c.self.inside.values.entries c.insert.new.self.entries (c.args.left, c.args.right) c.args.value c.in_ok-insert.ensures.updates.0 ∙ ap (λ m. map.insert m (c.args.left, c.args.right) c.args.value) c.self.view_is

pub returns-in_err-insert-clause-absent : goal.returns-in_err-insert-clause-absent
returns-in_err-insert-clause-absent c =
    let absent : map.get (map.from_entries {R = pair_cmp} c.self.inside.values.entries) (c.args.left, c.args.right) ≡ None = get_pair c.self.inside.values.entries (c.args.left, c.args.right) ∙ c.in_err-insert.ensures.absent in
    let p = err_from_is_err_and c.from_residual.result c.from_residual.ensures.1 in
    rw p.1 (sym (ap (λ m. map.get m (c.args.left, c.args.right)) c.self.view_is) ∙ absent)
