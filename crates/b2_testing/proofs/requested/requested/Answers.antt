use Rattle.std.proofs.Common.{◌≡◌, length, sym, ap, ◌∙◌}
use Rattle.std.proofs.lemmas.Bool.{eqb-true}
use Rattle.b2_testing.proofs.RowsAreLookedUp.{none_asked_for}
use Rattle.b2_testing.proofs.requested.requested.Goals as goal

pub returns-then-is_empty : goal.returns-then-is_empty
returns-then-is_empty c =
    let none : length c.as_slice.result.now ≡ 0 = eqb-true (length c.as_slice.result.now) 0 (sym c.is_empty.ensures ∙ c.if-is_empty.true) in
    none_asked_for c.args.declared.now c.args.planned.now c.new.result.items (ap length (sym c.as_slice.ensures) ∙ none) c.new.ensures.items
