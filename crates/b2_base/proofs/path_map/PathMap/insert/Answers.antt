use Rattle.std.proofs.Common.{ap, sym, ◌∙◌, ◌≡◌, None}
use Rattle.std.specs.FinMap as map
use Rattle.std.proofs.lemmas.Result.{err_from_is_err_and}
use Rattle.b2_base.proofs.MapsHoldWhatEntriesHold.{get_text, one_text}
use Rattle.b2_base.proofs.path_map.PathMap.insert.Goals as goal

pub returns-clause-before : goal.returns-clause-before
returns-clause-before g c = c.in_ok-insert.ensures.old ∙ sym (get_text c.self.inside.values.entries c.args.path) ∙ ap (λ m. map.get m c.args.path) c.self.view_is

pub returns-clause-ok : goal.returns-clause-ok
returns-clause-ok g c = one_text c.self.inside.values.entries c.insert.new.self.entries c.args.path c.args.value c.in_ok-insert.ensures.updates.0 ∙ ap (λ m. map.insert m c.args.path c.args.value) c.self.view_is

pub returns-in_err-insert-clause-absent : goal.returns-in_err-insert-clause-absent
returns-in_err-insert-clause-absent g c =
    let absent : map.get (map.from_entries c.self.inside.values.entries) c.args.path ≡ None = get_text c.self.inside.values.entries c.args.path ∙ c.in_err-insert.ensures.absent in
    let p = err_from_is_err_and c.from_residual.result c.from_residual.ensures.1 in
    rw p.1 (sym (ap (λ m. map.get m c.args.path) c.self.view_is) ∙ absent)
