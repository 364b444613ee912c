use Rattle.std.proofs.Common.{sym, ap, ◌∙◌}
use Rattle.jam_journal.specs.Tables.{back_name}
use Rattle.jam_journal.proofs.ReplacingTouchesOneName.{back_none}
use Rattle.jam_journal.proofs.names.Names.put_back.Goals as goal

pub returns-in-None : goal.returns-in-None
returns-in-None g c = c.remove.ensures.after ∙ back_none c.args.self.now c.args.name.now ∙ ap (back_name c.args.self.now c.args.name.now) (sym c.in-None.is)
