use Rattle.std.proofs.Common.{ap, ◌∙◌, ◌||◌}
use Rattle.jam_engine.specs.Targets.{has}
use Rattle.jam_engine.proofs.SetsGrow.{none_in}
use Rattle.jam_engine.proofs.index.set_of.Goals as goal

pub returns : goal.returns
returns c t = c.in_ok-add_all.ensures t ∙ ap (λ b. b || has c.args.texts.now t) (none_in _ t c.new-set.ensures)
