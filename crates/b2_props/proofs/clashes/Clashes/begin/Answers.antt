use Rattle.std.proofs.Common.{◌∙◌, refl, ap₂, List, ℕ}
use Rattle.std.specs.FinMap.{insert}
use Rattle.b2_props.proofs.RowsGrowChoiceByChoice.{has_first}
use Rattle.b2_props.proofs.clashes.Clashes.begin.Goals as goal

pub returns : goal.returns
returns c = has_first c.args.choice.now c.args.self.now record { values = c.insert.new.self; words = c.args.self.now.words } c.requires (c.in_ok-_before.ensures.ok ∙ ap₂ (λ (f v : List ℕ). insert c.args.self.now.values f v) c.in_ok-copy.ensures c.in_ok-copy-2.ensures) refl
