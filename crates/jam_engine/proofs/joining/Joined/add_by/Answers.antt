use Rattle.std.proofs.Common.{[], ◌∷◌, ◌++◌, refl, sym, ap, ◌∙◌}
use Rattle.jam_graph.specs.declared.graph.Act.{Act}
use Rattle.jam_engine.proofs.ActsJoin.{joins_alone}
use Rattle.jam_engine.proofs.joining.Joined.add_by.Goals as goal

pub returns : goal.returns
returns c before h =
    let self = c.args.self.now in
    joins_alone c.args.world.now.now c.args.act.now before self _ (sym c.is_together.ensures ∙ c.if-is_together.false) (c.in_ok-push.ensures.items ∙ ap (λ (a : Act). self.acts.items ++ a ∷ []) c.in_ok-copy_act.ensures) refl h
