use Rattle.std.proofs.Common.{◌∙◌, refl, ap, sym}
use Rattle.std.specs.FinMap.{insert}
use Rattle.b2_props.proofs.RowsGrowChoiceByChoice.{has_mark}
use Rattle.b2_props.proofs.clashes.Clashes.mark.Goals as goal

pub returns-in_ok-_before-in-None : goal.returns-in_ok-_before-in-None
returns-in_ok-_before-in-None c = has_mark c.args.choice.now c.args.self.now record { values = c.args.self.now.values; words = c.insert.new.self } c.requires (sym c.in-None.ensures) refl (c.in_ok-_before-in-None.ensures.ok ∙ ap (λ f. insert c.args.self.now.words f c.args.choice.now.word) c.in_ok-copy-in-None.ensures)
