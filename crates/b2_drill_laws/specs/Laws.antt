-- How the updates of a drill answer.
use Rattle.std.specs.Prelude.{◌≡◌, ℕ, ◌<◌, ◌≤◌, false, List, take, ⊤}
use Rattle.std.specs.List.{AllByRecursion}
use Rattle.b2_drill.specs.Drills.{drill_events}
use Rattle.b2_memory.specs.Memories.{new_memory}
use Rattle.b2_memory.specs.Sinks.{new_output}
use Rattle.b2_runs.specs.Moments.{Moment}
use Rattle.b2_sessions.specs.Courses.{IsSessionOf}
use Rattle.b2_top.specs.declared.answer.Answer.{Answer}
use Rattle.b2_top.specs.declared.answer.Answer.TheVariants as answers

abbrev pub IsOkOrMemory : Answer → Type 0
IsOkOrMemory answers.Ok = ⊤
IsOkOrMemory (answers.Failed lists) = ⊥
IsOkOrMemory (answers.Refused fault) = ⊥
IsOkOrMemory answers.Usage = ⊥
IsOkOrMemory answers.HostFault = ⊥
IsOkOrMemory answers.OutOfMemory = ⊤
IsOkOrMemory answers.SinkFault = ⊥

-- nothing may go wrong with the host
pub record IsSafe (moment : Moment) : Type 0 where
  pub may_fail : moment.host.risks.may_fail ≡ false
  pub may_end_badly : moment.host.risks.may_end_badly ≡ false

-- Where some first events of a drill were a session from a new host to one with which nothing may go wrong, each update answered Ok or
-- out of memory.
abbrev pub DrillsGoWell : Type 0
DrillsGoWell =
    (n count : ℕ) (last : Moment) (given : List Answer) → 0 < n → n ≤ 2000
    → IsSessionOf (take count (drill_events n)) (record { host = new_memory.outside; out = new_output }) given last → IsSafe last → AllByRecursion IsOkOrMemory given
