use Rattle.b2_host.specs.LogChanges.{log_changes_appends}
use Rattle.b2_log.specs.Lines.{spelling}
use Rattle.b2_journal.proofs.LineIsAppended.{appends_line, append_notes}
use Rattle.b2_journal.proofs.journal.Journal.note.Goals as goal

pub returns-clause-only_log : goal.returns-clause-only_log
returns-clause-only_log g c =
    log_changes_appends (spelling c.args.line) (g.F.Files.outside c.args.files.now) (g.F.Files.outside c.append-appended.new.self) c.append-appended.result
    (appends_line c.args.line _ _ _ (g.F.Files.outside c.args.files.now) (g.F.Files.outside c.append-appended.new.self) c.append-appended.result c.self.invariant.at_log c.as_slice.ensures.value c.in_ok-bytes.ensures.exact c.append-appended.ensures)

pub returns-clause-notes : goal.returns-clause-notes
returns-clause-notes g c =
    append_notes c.args.line c.args.self.now (g.F.Files.outside c.args.files.now) (g.F.Files.outside c.append-appended.new.self) c.append-appended.result (c.in_ok-bytes.ensures.good c.requires)
    (appends_line c.args.line _ _ _ (g.F.Files.outside c.args.files.now) (g.F.Files.outside c.append-appended.new.self) c.append-appended.result c.self.invariant.at_log c.as_slice.ensures.value c.in_ok-bytes.ensures.exact c.append-appended.ensures)
