use Rattle.std.proofs.Common.{IsTrue, [], sym, ap, subst, ◌∙◌}
use Rattle.std.specs.FinMap.{insert}
use Rattle.jam_journal.specs.Tables.{Text, Table}
use Rattle.jam_journal.specs.Marks.{Marked}
use Rattle.jam_scope.specs.Lines.{may_be_above}
use Rattle.jam_scope.specs.Heights.{AllHaveLinesAtMarks}
use Rattle.jam_scope.proofs.ParentLinesAlwaysEnd.{lined_with, may_from}
use Rattle.jam_scope.proofs.parents.Parents.set.Goals as goal

pub invariant_of-self-2 : goal.invariant_of-self-2
invariant_of-self-2 c =
    let old : Marked (Table Text) = c.self.inside.past in
    let new = λ (above : Text). let p : Marked (Table Text) = (insert old.0 (c.args.owner.now, []) above, old.1) in p in
    subst (λ (p : Marked (Table Text)). AllHaveLinesAtMarks p) (sym (c.in_ok-insert.ensures.ok ∙ ap new c.in_ok-above.ensures)) (
      lined_with old.0 c.args.owner.now c.args.parent.now c.self.invariant.0
          (may_from old.0 c.args.parent.now c.args.owner.now
          (subst (λ (p : Marked (Table Text)). IsTrue (may_be_above p.0 c.args.parent.now c.args.owner.now)) (sym c.self.view_is) c.requires)),
      c.self.invariant.1,
    )
