use Rattle.std.proofs.Common.{◌∙◌, not, ℕ, Option, Err, ap, subst}
use Rattle.std.specs.Option.{IfSome}
use Rattle.std.proofs.lemmas.Result.{err_from_is_err_and}
use Rattle.b2_host.specs.Disks.{Disk, StatTold}
use Rattle.b2_explain.proofs.OutputsAreTaken.{stamp_told, one_removed, one_unwritten}
use Rattle.b2_explain.proofs.clean.remove_one.Goals as goal

pub returns-in_err-write_removed : goal.returns-in_err-write_removed
returns-in_err-write_removed g c =
    let path = c.args.path.now in
    let x = g.F.Files.outside c.args.files.now in
    let (stamp, is) = stamp_told c.in_ok-stat.field-0 (c.is_none.ensures ∙ ap not c.if-is_none.false) in
    let told = subst (λ (o : Option ℕ). IfSome x.disk (λ (disk : Disk). StatTold path o disk.now)) is c.in_ok-stat.ensures.answer in
    let (y, e, q) = err_from_is_err_and c.from_residual-in_err-write_removed.result c.from_residual-in_err-write_removed.ensures.1 in
    one_unwritten path x (g.F.Files.outside c.stat.new.self) (g.S.Sink.output c.args.out.now) stamp c.in_ok-stat.ensures.effect told (g.F.Files.outside c.remove.new.self) (g.S.Sink.output c.write_removed.new.out) c.in_err-write_removed.field-0.0
    c.from_residual-in_err-write_removed.result (e ∙ ap Err q) c.in_ok-remove.ensures c.in_err-write_removed.ensures

pub returns : goal.returns
returns g c =
    let path = c.args.path.now in
    let x = g.F.Files.outside c.args.files.now in
    let (stamp, is) = stamp_told c.in_ok-stat.field-0 (c.is_none.ensures ∙ ap not c.if-is_none.false) in
    let told = subst (λ (o : Option ℕ). IfSome x.disk (λ (disk : Disk). StatTold path o disk.now)) is c.in_ok-stat.ensures.answer in
    one_removed path x (g.F.Files.outside c.stat.new.self) (g.S.Sink.output c.args.out.now) stamp c.in_ok-stat.ensures.effect told (g.F.Files.outside c.remove.new.self) (g.S.Sink.output c.write_removed.new.out) c.in_ok-remove.ensures c.in_ok-write_removed.ensures
