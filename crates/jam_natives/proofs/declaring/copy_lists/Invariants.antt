use Rattle.std.proofs.Common.{◌≡◌, take}
use Rattle.jam_natives.proofs.declaring.copy_lists.Given as goal

abbrev pub invariant-loop-list : goal.invariant-loop-list
invariant-loop-list l = l.made ≡ take l.list-index l.lists
