use Rattle.jam_expand.proofs.SizesOfListsMultiply.{selected_stretch}
use Rattle.jam_expand.proofs.laws.selection_is_stretch.Goals as goal

pub returns : goal.returns
returns c = selected_stretch
