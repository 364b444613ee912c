use Rattle.std.proofs.Common.{sym, ap, ◌∙◌}
use Rattle.std.specs.Option.{option_copied}
use Rattle.jam_engine.proofs.Looks.{path_copied}
use Rattle.jam_engine.proofs.scene.Scene.path.Goals as goal

pub returns-in-Some : goal.returns-in-Some
returns-in-Some c = path_copied c.args.self.now c.args.text.now c.in-Some.found.now c.copy.result (sym c.get.ensures ∙ ap option_copied c.in-Some.is) c.copy.ensures
