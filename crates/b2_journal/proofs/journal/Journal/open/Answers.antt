use Rattle.std.proofs.Common.{◌∙◌, sym, ap, subst, List, Result, Err}
use Rattle.std.proofs.lemmas.Result.{err_from_is_err_and}
use Rattle.b2_host.specs.declared.fault.IoFault.{IoFault}
use Rattle.b2_host.specs.ChildProcesses.{BothTold}
use Rattle.b2_host.specs.LogChanges.{log_changes_then}
use Rattle.b2_log.specs.declared.line.LogLine.{LogLine}
use Rattle.b2_journal.specs.declared.log_reading.LogReading.{LogReading}
use Rattle.b2_journal.specs.Rules.{opening_by}
use Rattle.b2_journal.specs.Openings.{Opens, MayFailTold}
use Rattle.b2_journal.proofs.LogIsPutBack.{read_only_log, put_back_only_log, open_begins, open_stops, read_may_fail, put_back_may_fail}
use Rattle.b2_journal.proofs.journal.Journal.open.Goals as goal

pub returns-in_err-reading-clause-only_log : goal.returns-in_err-reading-clause-only_log
returns-in_err-reading-clause-only_log g c = read_only_log (g.F.Files.outside c.args.files.now) (g.F.Files.outside c.read_at.new.files) c.read_at.result c.read_at.ensures.host

pub returns-in_err-first-clause-only_log : goal.returns-in_err-first-clause-only_log
returns-in_err-first-clause-only_log g c = read_only_log (g.F.Files.outside c.args.files.now) (g.F.Files.outside c.read_at.new.files) c.read_at.result c.read_at.ensures.host

pub returns-in_err-put_back-clause-only_log : goal.returns-in_err-put_back-clause-only_log
returns-in_err-put_back-clause-only_log g c =
    log_changes_then (g.F.Files.outside c.args.files.now) (g.F.Files.outside c.read_at.new.files) (g.F.Files.outside c.put_back.new.files)
    (read_only_log (g.F.Files.outside c.args.files.now) (g.F.Files.outside c.read_at.new.files) c.read_at.result c.read_at.ensures.host)
    (put_back_only_log c.in_ok-first.first.bytes (g.F.Files.outside c.read_at.new.files) (g.F.Files.outside c.put_back.new.files) c.put_back.result c.put_back.ensures)

pub returns-in_err-put_back-clause-opens : goal.returns-in_err-put_back-clause-opens
returns-in_err-put_back-clause-opens g c =
    let p = err_from_is_err_and c.from_residual-in_err-put_back.result c.from_residual-in_err-put_back.ensures.1 in
    subst (λ (r : Result (List LogLine) IoFault). BothTold (λ before after. Opens (opening_by c.args.rule) before after r) (g.F.Files.outside c.args.files.now).disk (g.F.Files.outside c.put_back.new.files).disk) (sym (p.1 ∙ ap Err p.2))
    (open_stops (Unit {0}) (opening_by c.args.rule) c.in_ok-first.first.log.lines c.in_ok-reading.reading.log.lines c.in_ok-first.first.bytes c.in_ok-reading.reading.state (g.F.Files.outside c.args.files.now) (g.F.Files.outside c.read_at.new.files) (g.F.Files.outside c.put_back.new.files)
    c.in_err-put_back.field-0.0 c.in_ok-reading.ensures.host c.in_ok-reading.ensures.told c.in_ok-first.ensures.begins c.in_err-put_back.ensures)

pub returns-clause-only_log : goal.returns-clause-only_log
returns-clause-only_log g c =
    log_changes_then (g.F.Files.outside c.args.files.now) (g.F.Files.outside c.read_at.new.files) (g.F.Files.outside c.put_back.new.files)
    (read_only_log (g.F.Files.outside c.args.files.now) (g.F.Files.outside c.read_at.new.files) c.read_at.result c.read_at.ensures.host)
    (put_back_only_log c.in_ok-first.first.bytes (g.F.Files.outside c.read_at.new.files) (g.F.Files.outside c.put_back.new.files) c.put_back.result c.put_back.ensures)

pub returns-clause-opens : goal.returns-clause-opens
returns-clause-opens g c =
    open_begins (opening_by c.args.rule) c.in_ok-first.first.log.lines c.in_ok-reading.reading.log.lines c.in_ok-first.first.bytes c.in_ok-reading.reading.state (g.F.Files.outside c.args.files.now) (g.F.Files.outside c.read_at.new.files) (g.F.Files.outside c.put_back.new.files)
    tt c.in_ok-reading.ensures.host c.in_ok-reading.ensures.told c.in_ok-first.ensures.begins c.in_ok-put_back.ensures

pub returns-in_err-reading-clause-may_fail : goal.returns-in_err-reading-clause-may_fail
returns-in_err-reading-clause-may_fail g c =
    let p = err_from_is_err_and c.from_residual-in_err-reading.result c.from_residual-in_err-reading.ensures.1 in
    subst (λ (r : Result (List LogLine) IoFault). MayFailTold (g.F.Files.outside c.args.files.now) r) (sym (p.1 ∙ ap Err p.2))
    (read_may_fail LogReading (List LogLine) (g.F.Files.outside c.args.files.now) (g.F.Files.outside c.read_at.new.files) c.in_err-reading.field-0.0 c.in_err-reading.ensures.host)

pub returns-in_err-put_back-clause-may_fail : goal.returns-in_err-put_back-clause-may_fail
returns-in_err-put_back-clause-may_fail g c =
    let p = err_from_is_err_and c.from_residual-in_err-put_back.result c.from_residual-in_err-put_back.ensures.1 in
    subst (λ (r : Result (List LogLine) IoFault). MayFailTold (g.F.Files.outside c.args.files.now) r) (sym (p.1 ∙ ap Err p.2))
    (put_back_may_fail (Unit {0}) _ (List LogLine) c.in_ok-first.first.bytes (g.F.Files.outside c.args.files.now) (g.F.Files.outside c.read_at.new.files) (g.F.Files.outside c.put_back.new.files) c.in_ok-reading.reading
    c.in_err-put_back.field-0.0 c.in_ok-reading.ensures.host c.in_err-put_back.ensures)
