use Rattle.std.proofs.Common.{sym}
use Rattle.jam_scan.proofs.LinesAreIncludes.{enclosed_tells}
use Rattle.jam_scan.proofs.line.include_at.Goals as goal

pub new-requires : goal.new-requires
new-requires c = (enclosed_tells c.eq-quoted.result c.args.text.now (c.in-Some.name.now, c.eq-quoted.result) (sym c.in-Some.ensures)).name.no_zero
