use Rattle.std.proofs.Common.{refl, sym, ◌∙◌}
use Rattle.jam_engine.proofs.Looks.{no_source, source_by}
use Rattle.jam_engine.proofs.looking.is_source.Goals as goal

pub returns-then-is_below_any : goal.returns-then-is_below_any
returns-then-is_below_any g c = (refl, λ stands sees. no_source c.args.roots.now c.args.path.now stands (sym c.is_below_any.ensures ∙ c.if-is_below_any.true))

pub returns-in-Ok : goal.returns-in-Ok
returns-in-Ok g c = (
  c.in-Ok.ensures.effect,
  λ stands sees.
      c.is_some.ensures
      ∙ source_by c.args.roots.now c.args.path.now (g.F.Files.outside c.args.files.now).disk c.in-Ok.stamp stands (sym c.is_below_any.ensures ∙ c.if-is_below_any.false) c.in-Ok.ensures.answer sees,
)
