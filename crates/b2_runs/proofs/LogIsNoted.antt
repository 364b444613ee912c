use Rattle.std.proofs.Common.{◌≡◌, true, false, List, [], ◌∷◌, ◌++◌, refl}
use Rattle.std.proofs.lemmas.List.Elements.{Contains-append_left, Contains-push}
use Rattle.b2_host.specs.declared.children.ChildEvent.{ChildEvent}
use Rattle.b2_host.specs.declared.children.ChildEvent.TheVariants.{Start, Done}
use Rattle.b2_host.specs.Disks.{Folder}
use Rattle.b2_log.specs.declared.line.LogLine.TheVariants as lines
use Rattle.b2_runs.specs.Staleness.{Update}
use Rattle.b2_runs.specs.Events.{IsOpen}
use Rattle.b2_runs.specs.Runs.{CanStart}
use Rattle.b2_runs.specs.Afterwards.{NoneDoneOlder}
use Rattle.b2_runs.specs.LogCourses.{IsLogAfter.begins, IsLogAfter.starts, IsLogAfter.records, IsLogAfter.owes_none, IsLogAfter.drops, IsLogAfter.has_none, IsLogAfter.scans, IsLogAfter.migrates}
use Rattle.b2_runs.specs.LogCourseLaws.{LogIsNoted}
use Rattle.b2_runs.proofs.RunGoesOn.{done_was_started}
use Rattle.b2_runs.proofs.NotedAfterEachEvent.{noted_at_entry, noted_after_start, noted_after_other_end, noted_after_line, noted_after_record, noted_after_scan, noted_after_migration}
use Rattle.b2_runs.proofs.LogStaysTrue.{last_may, but_last, migrated_close}

-- nothing that was done is older before the last event
older_before : (u : Update) (events : List ChildEvent) (event : ChildEvent) (now : Folder) → NoneDoneOlder u (events ++ event ∷ []) now → NoneDoneOlder u events now
older_before u events event now older i step members at done file closure = older i step members at (Contains-append_left events (event ∷ []) (Done i true) done) file closure

pub log_is_noted : LogIsNoted
log_is_noted u now first log events apart run same older begins = noted_at_entry u now first same
log_is_noted u now first log events apart run same older (starts es l i c all) =
    let can : CanStart u es i = (last_may u es (Start i) run).0 in
    noted_after_start u es now l i apart can (log_is_noted u now first l es apart (but_last u es (Start i) run) same (older_before u es (Start i) now older) c)
log_is_noted u now first log events apart run same older (records es l i step members r c all at file closure is) =
    let opened : IsOpen es i = (last_may u es (Done i true) run).0 in
    noted_after_record u es now l i step members r apart (log_is_noted u now first l es apart (but_last u es (Done i true) run) same (older_before u es (Done i true) now older) c) opened at closure is
    (older i step members at (Contains-push es (Done i true)) file closure)
log_is_noted u now first log events apart run same older (owes_none es l i step c all at none) =
    let opened : IsOpen es i = (last_may u es (Done i true) run).0 in
    noted_after_other_end u es now l i step true apart opened at (λ e. none) (log_is_noted u now first l es apart (but_last u es (Done i true) run) same (older_before u es (Done i true) now older) c)
log_is_noted u now first log events apart run same older (drops es l i step r c all at found) =
    let opened : IsOpen es i = (last_may u es (Done i false) run).0 in
    noted_after_other_end u es now (l ++ lines.Drop step.outs ∷ []) i step false apart opened at (λ e. absurd (let f : false ≡ true = e in cc))
    (noted_after_line u es now l i step (lines.Drop step.outs) apart at (opened.0, opened.1 true) refl (log_is_noted u now first l es apart (but_last u es (Done i false) run) same (older_before u es (Done i false) now older) c))
log_is_noted u now first log events apart run same older (has_none es l i step c all at none) =
    let opened : IsOpen es i = (last_may u es (Done i false) run).0 in
    noted_after_other_end u es now l i step false apart opened at (λ e. absurd (let f : false ≡ true = e in cc)) (log_is_noted u now first l es apart (but_last u es (Done i false) run) same (older_before u es (Done i false) now older) c)
log_is_noted u now first log events apart run same older (scans es l p bytes s c to is new_line) = noted_after_scan u es now l s (log_is_noted u now first l es apart run same older c)
log_is_noted u now first log events apart run same older (migrates es l step members r c to is new_line) =
    let (closure, inside) = migrated_close u es step members apart to in
    noted_after_migration u es now l to.number step members r apart (log_is_noted u now first l es apart run same older c) to.by_digest to.at to.not_started (λ done. to.not_started (done_was_started u es to.number true run done)) closure inside is
