use Rattle.jam_meaning.proofs.EachFileReads.{reads}
use Rattle.jam_meaning.proofs.laws.each_sight_has_setting.Goals as goal

pub returns : goal.returns
returns c _ budget natives refused sight right = ((λ path. (reads sight.folder path).0), record { sees = right; reads = λ path. (reads sight.folder path).1 })
