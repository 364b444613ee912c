use Rattle.jam_scan.proofs.FilesIncludeWhatLinesDo.{files_include}
use Rattle.jam_scan.proofs.laws.files_include.Goals as goal

pub returns : goal.returns
returns c = files_include
