use Rattle.std.proofs.Common.{◌+◌, ◌*◌}
use Rattle.jam_cases.proofs.args.+args.Given as goal

-- a list of arguments goes to each of them, and lists to each list
abbrev pub decreases-put_arg : goal.decreases-put_arg
decreases-put_arg l = 4 * goal.size-put_arg l

abbrev pub decreases-put_inner : goal.decreases-put_inner
decreases-put_inner l = 4 * goal.size-put_inner l

abbrev pub decreases-put_args : goal.decreases-put_args
decreases-put_args l = 4 * goal.size-put_args l + 1

abbrev pub decreases-put_lists : goal.decreases-put_lists
decreases-put_lists l = 4 * goal.size-put_lists l + 2
