use Rattle.std.proofs.Common.{take}
use Rattle.b2_testing.specs.Leading.{AreMarks}
use Rattle.b2_testing.proofs.pass_list.marks_of.Given as goal

abbrev pub invariant-loop-number : goal.invariant-loop-number
invariant-loop-number l = AreMarks l.size (take l.number-index l.numbers) l.marks
