-- Kinds of answers.
use Rattle.std.specs.Prelude.{◌≡◌, ◌⊎◌, ⊤}
use Rattle.b2_refusals.specs.declared.fault.Fault.{Fault}
use Rattle.b2_top.specs.declared.answer.Answer.{Answer}
use Rattle.b2_top.specs.declared.answer.Answer.TheVariants as answers

-- an answer that may take the place of any other: a fault of the host or of the sink, or OutOfMemory
abbrev pub IsCutShort : Answer → Type 0
IsCutShort answer = (answer ≡ answers.HostFault) ⊎ (answer ≡ answers.SinkFault) ⊎ (answer ≡ answers.OutOfMemory)

-- the result is this answer, or one that was cut short
abbrev pub IsOrCutShort : Answer → Answer → Type 0
IsOrCutShort result answer = (result ≡ answer) ⊎ IsCutShort result

-- The answers that may come where the words are not those of the command: the usage line was written, or the sink failed or memory
-- ran out at it.
abbrev pub IsUsageOrCutShort : Answer → Type 0
IsUsageOrCutShort answer = (answer ≡ answers.Usage) ⊎ (answer ≡ answers.SinkFault) ⊎ (answer ≡ answers.OutOfMemory)

-- this holds of the refusal, where the answer is one
abbrev pub IfRefused : (Fault → Type 0) → Answer → Type 0
IfRefused Holds answers.Ok = ⊤
IfRefused Holds (answers.Failed lists) = ⊤
IfRefused Holds (answers.Refused fault) = Holds fault
IfRefused Holds answers.Usage = ⊤
IfRefused Holds answers.HostFault = ⊤
IfRefused Holds answers.OutOfMemory = ⊤
IfRefused Holds answers.SinkFault = ⊤
