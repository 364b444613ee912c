use Rattle.std.proofs.Common.{ap, ◌∙◌}
use Rattle.std.specs.List.{list_any}
use Rattle.std.specs.Str.{bytes_eq}
use Rattle.std.proofs.lemmas.Result.{IfOk-weaker}
use Rattle.b2_request_plan.specs.TableRows.{rows_of}
use Rattle.b2_testing.specs.Asking.{tests_by}
use Rattle.b2_testing.proofs.RowsAreLookedUp.{asked_for}
use Rattle.b2_testing.proofs.requested.over_index.Goals as goal

pub returns : goal.returns
returns c =
    let d = c.args.index.now in
    let p = c.args.planned.now in
    let marks = c.in_ok-markers.markers.items in
    let wanted = c.in_ok-wanted.wanted in
    IfOk-weaker c.tests.result _ _
    (λ tests e.
    asked_for d p marks wanted tests.items (λ found h. c.in_ok-markers.ensures found (c.declared.ensures ∙ h)) (λ path. c.in_ok-wanted.ensures path ∙ ap (list_any (bytes_eq path)) c.as_slice.ensures)
    (e ∙ ap (λ t. tests_by d marks p.plan.steps wanted (rows_of t)) c.as_slice-2.ensures))
    c.tests.ensures
