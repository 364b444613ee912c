use Rattle.std.proofs.Common.{Err, subst}
use Rattle.b2_host.specs.declared.fault.IoFault.{IoFault}
use Rattle.b2_journal.specs.Readings.{ReadsLog}
use Rattle.b2_top.proofs.CausesAreReadFromLog.{read_then_still, read_then_counts, read_then_told, failed_is_still, failed_counts, short_is_still, short_counts}
use Rattle.b2_top.proofs.WrittenBytesAreTold.{if_all}
use Rattle.b2_top.proofs.explain.explain_log.Goals as goal

pub returns-in-Ok-clause-still : goal.returns-in-Ok-clause-still
returns-in-Ok-clause-still g c =
    read_then_still (g.H.Files.outside c.args.host.now) (g.H.Files.outside c.read.new.files) (g.H.Files.outside c.explain.new.files) c.in-Ok.ensures.host c.explain.ensures.still

pub returns-in-Ok-clause-counts : goal.returns-in-Ok-clause-counts
returns-in-Ok-clause-counts g c =
    read_then_counts (g.H.Files.outside c.args.host.now) (g.H.Files.outside c.read.new.files) (g.H.Files.outside c.explain.new.files) c.explain.result c.in-Ok.ensures.host c.explain.ensures.counts

pub returns-in-Ok-clause-told : goal.returns-in-Ok-clause-told
returns-in-Ok-clause-told g c =
    let reading = c.in-Ok.reading in
    read_then_told c.args.plan.now c.args.all reading.state reading.log.lines (g.H.Files.outside c.args.host.now) (g.H.Files.outside c.read.new.files) c.explain.result
    c.in-Ok.ensures.host c.in-Ok.ensures.told c.explain.ensures.told

pub returns-in-Err-Failed-clause-still : goal.returns-in-Err-Failed-clause-still
returns-in-Err-Failed-clause-still g c =
    let x = g.H.Files.outside c.args.host.now in
    let y = g.H.Files.outside c.read.new.files in
    failed_is_still x y (subst (λ (f : IoFault). ReadsLog {T = Unit {0}} x y (Err f)) c.in-Err-Failed.field-0-is c.in-Err-Failed.ensures.host)

pub returns-in-Err-Failed-clause-counts : goal.returns-in-Err-Failed-clause-counts
returns-in-Err-Failed-clause-counts g c =
    let x = g.H.Files.outside c.args.host.now in
    let y = g.H.Files.outside c.read.new.files in
    failed_counts x y (subst (λ (f : IoFault). ReadsLog {T = Unit {0}} x y (Err f)) c.in-Err-Failed.field-0-is c.in-Err-Failed.ensures.host)

pub returns-in-Err-Failed-clause-told : goal.returns-in-Err-Failed-clause-told
returns-in-Err-Failed-clause-told g c = if_all (g.H.Files.outside c.args.host.now).disk (λ disk. tt)

pub returns-in-Err-OutOfMemory-clause-still : goal.returns-in-Err-OutOfMemory-clause-still
returns-in-Err-OutOfMemory-clause-still g c =
    let x = g.H.Files.outside c.args.host.now in
    let y = g.H.Files.outside c.read.new.files in
    short_is_still x y (subst (λ (f : IoFault). ReadsLog {T = Unit {0}} x y (Err f)) c.in-Err-OutOfMemory.field-0-is c.in-Err-OutOfMemory.ensures.host)

pub returns-in-Err-OutOfMemory-clause-counts : goal.returns-in-Err-OutOfMemory-clause-counts
returns-in-Err-OutOfMemory-clause-counts g c =
    let x = g.H.Files.outside c.args.host.now in
    let y = g.H.Files.outside c.read.new.files in
    short_counts x y (subst (λ (f : IoFault). ReadsLog {T = Unit {0}} x y (Err f)) c.in-Err-OutOfMemory.field-0-is c.in-Err-OutOfMemory.ensures.host)

pub returns-in-Err-OutOfMemory-clause-told : goal.returns-in-Err-OutOfMemory-clause-told
returns-in-Err-OutOfMemory-clause-told g c = if_all (g.H.Files.outside c.args.host.now).disk (λ disk. tt)
