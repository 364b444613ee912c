use Rattle.jam_scan.proofs.LinesAreIncludes.{lines_include}
use Rattle.jam_scan.proofs.laws.lines_include.Goals as goal

pub returns : goal.returns
returns c = lines_include
