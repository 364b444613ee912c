use Rattle.std.proofs.Common.{◌≡◌, ◌++◌, take}
use Rattle.jam_natives.specs.Sights.{ForMatching}
use Rattle.jam_natives.specs.Searches.{picks}
use Rattle.jam_natives.proofs.glob.pick_all.Given as goal

abbrev pub invariant-loop-name : goal.invariant-loop-name
invariant-loop-name l = ForMatching (λ matching. l.found ≡ l.fn.found ++ picks matching l.search l.dir (take l.name-index l.names))
