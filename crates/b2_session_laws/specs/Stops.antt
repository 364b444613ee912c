-- What a stop keeps, and what a call leaves true.
use Rattle.b2_runs.specs.Moments.{Moment}
use Rattle.b2_runs.specs.SessionLaws.{LeaveTrue}
use Rattle.b2_runs.specs.Sessions.{IsStop}
use Rattle.b2_drain.specs.Drains.{Made}
use Rattle.b2_top.specs.declared.answer.Answer.{Answer}
use Rattle.b2_top.specs.Answered.{HoldsAfter, AreKept}
use Rattle.b2_top.specs.Askings.{Asking}
use Rattle.b2_top.specs.Plans.{making_by}
use Rattle.b2_sessions.specs.BuildCalls.{TellsFor, IsCall}

-- Once the host was opened again after a call that was stopped, of each step that was done well before the last start the log
-- has a record that agrees with the files. So it is after a call that was not stopped, by `kept` of `run_b2` and of `run_jam`.
abbrev pub StopKeeps : Type 0
StopKeeps = (made : Made) (asking : Asking) (answer : Answer) (before after : Moment) → IsStop (IsCall made) asking answer before after
    → HoldsAfter made asking before.host after.host AreKept

-- a call leaves a true log true, and so does a stop, where digests tell contents apart that it judges by
abbrev pub CallsLeaveTrue : Type 0
CallsLeaveTrue = (made : Made) → LeaveTrue (making_by made) TellsFor (IsCall made)
