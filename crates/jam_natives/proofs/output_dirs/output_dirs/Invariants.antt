use Rattle.std.proofs.Common.{◌≡◌, take}
use Rattle.jam_natives.proofs.AllRootsOrNone.{dirs_in}
use Rattle.jam_natives.proofs.output_dirs.output_dirs.Given as goal

abbrev pub invariant-loop-list : goal.invariant-loop-list
invariant-loop-list l = l.dirs ≡ dirs_in (take l.list-index l.list-items)
