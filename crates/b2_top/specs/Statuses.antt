use Rattle.std.specs.Prelude.{ℕ}
use Rattle.b2_top.specs.declared.answer.Answer.{Answer}
use Rattle.b2_top.specs.declared.answer.Answer.TheVariants as answers

-- the exit status of an answer
abbrev pub status_of : Answer → ℕ
status_of answers.Ok = 0
status_of (answers.Failed lists) = 1
status_of (answers.Refused fault) = 2
status_of answers.Usage = 3
status_of answers.HostFault = 4
status_of answers.OutOfMemory = 5
status_of answers.SinkFault = 6
