use Rattle.std.proofs.Common.{length}
use Rattle.jam_natives.proofs.native.+native_in.Given as goal

abbrev pub decreases-native_in : goal.decreases-native_in
decreases-native_in l = length l.rows.now
