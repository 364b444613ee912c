use Rattle.std.proofs.Common.{[], Some, sym, ap, subst, ◌∙◌}
use Rattle.std.specs.Option.{option_copied}
use Rattle.std.specs.FinMap.{get}
use Rattle.jam_journal.specs.Tables.{Text, Table}
use Rattle.jam_journal.specs.Marks.{Marked}
use Rattle.jam_scope.specs.Heights.{AllHaveLines}
use Rattle.jam_scope.proofs.ParentLinesAlwaysEnd.{lower}
use Rattle.jam_scope.proofs.parents.Parents.above.Goals as goal

pub returns-in-Some-clause-lower : goal.returns-in-Some-clause-lower
returns-in-Some-clause-lower c =
    lower c.args.self.now.0 c.args.owner.now c.as_str.result.now
    (subst (λ (p : Marked (Table Text)). AllHaveLines p.0) c.self.view_is c.self.invariant.0)
    (ap (λ (p : Marked (Table Text)). get p.0 (c.args.owner.now, [])) (sym c.self.view_is)
    ∙ sym c.get.ensures ∙ ap option_copied c.in-Some.is ∙ ap Some (sym c.as_str.ensures))
