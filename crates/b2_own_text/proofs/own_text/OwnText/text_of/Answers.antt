use Rattle.std.specs.Option.{option_copied}
use Rattle.b2_own_text.proofs.EvaluationsGiveWhatIsTold.{asks_text}
use Rattle.b2_own_text.proofs.own_text.OwnText.text_of.Goals as goal

pub returns-clause-asks : goal.returns-clause-asks
returns-clause-asks g c =
    asks_text c.args.self.now.projects.now c.args.self.now.loaded.world c.args.self.now.host.files.ghost_name (g.F.Files.outside c.args.self.now.host.files.now) (g.F.Files.outside c.text_of.new.self.files.now)
    (option_copied c.with_module-project.result) c.args.job.now c.text_of.result c.with_module-project.ensures (g.met.F.Files.consistent c.args.self.now.host.files.now) c.text_of.ensures.does
