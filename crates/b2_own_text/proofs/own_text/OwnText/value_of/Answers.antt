use Rattle.std.proofs.Common.{sym, ap, ◌∙◌}
use Rattle.std.specs.Option.{option_copied}
use Rattle.b2_own_text.proofs.EvaluationsGiveWhatIsTold.{asks_nothing, asks_returned}
use Rattle.b2_own_text.proofs.own_text.OwnText.value_of.Goals as goal

pub returns-in_default-clause-asks : goal.returns-in_default-clause-asks
returns-in_default-clause-asks g c =
    asks_nothing c.args.self.now.projects.now c.args.self.now.loaded.world c.args.self.now.host.files.ghost_name (g.F.Files.outside c.args.self.now.host.files.now) c.args.place c.args.rule.now c.args.line c.args.texts.now c.new.result c.new.ensures
    (sym c.project_at.ensures ∙ ap option_copied c.in_default.is)

pub returns-clause-asks : goal.returns-clause-asks
returns-clause-asks g c =
    asks_returned c.args.self.now.projects.now c.args.self.now.loaded.world c.args.self.now.host.files.ghost_name (g.F.Files.outside c.args.self.now.host.files.now) (g.F.Files.outside c.returned.new.self.files.now) c.args.place c.in-Some.project.now
    c.args.rule.now c.args.line c.args.texts.now c.returned.result (sym c.project_at.ensures ∙ ap option_copied c.in-Some.is) (g.met.F.Files.consistent c.args.self.now.host.files.now) c.returned.ensures.does
