use Rattle.jam_source_laws.proofs.RightSettingsShowSame.{files_show_same}
use Rattle.jam_source_laws.proofs.laws.files_show_same.Goals as goal

pub returns : goal.returns
returns c = files_show_same
