use Rattle.jam_scan.proofs.FilesIncludeWhatLinesDo.{includes_are_named}
use Rattle.jam_scan.proofs.laws.includes_are_named.Goals as goal

pub returns : goal.returns
returns c = includes_are_named
