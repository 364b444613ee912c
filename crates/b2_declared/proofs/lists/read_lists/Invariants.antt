use Rattle.std.proofs.Common.{◌≡◌, length}
use Rattle.b2_declared.specs.Gathering.{with_lists, lists_in}
use Rattle.b2_declared.proofs.lists.read_lists.Given as goal

-- the lists that are left, after what was read of the others
abbrev pub invariant-each : goal.invariant-each
invariant-each l = lists_in l.registry l.visit l.call l.lists ≡ with_lists l.registry l.visit l.call l.made l.left

abbrev pub decreases-each : goal.decreases-each
decreases-each l = length l.left
