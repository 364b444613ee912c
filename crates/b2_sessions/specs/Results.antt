-- What a session's result says.
use Rattle.std.specs.Prelude.{◌≡◌, ℕ, ◌<◌, true, List, length, slice_get, Some, Result, Ok, Err}
use Rattle.std.specs.declared.vec.Vec.{Vec}
use Rattle.std.specs.declared.alloc.Global.{Global}
use Rattle.b2_drill.specs.declared.event.Event.{Event}
use Rattle.b2_top.specs.declared.answer.Answer.{Answer}
use Rattle.b2_sessions.specs.declared.fault.SessionFault.{SessionFault}
use Rattle.b2_sessions.specs.declared.fault.SessionFault.TheVariants as faults
use Rattle.b2_sessions.specs.Courses.{HasRun}
use Rattle.b2_sessions.specs.Events.{writes_log}
use Rattle.b2_sessions.specs.Scenes.{Scene}

-- The event at this place writes the log. Those before it were run, and none of them does.
pub record IsAtLogEdit (events : List Event) (index : ℕ) (first last : Scene) : Type 0 where
  pub event : Event
  pub at : slice_get events index ≡ Some event
  pub writes : writes_log event ≡ true
  pub answers : List Answer
  pub ran : HasRun events index first answers last

-- Some first events were run, and not all of them.
pub record IsCutShort (events : List Event) (first last : Scene) : Type 0 where
  pub count : ℕ
  pub fewer : count < length events
  pub answers : List Answer
  pub ran : HasRun events count first answers last

-- where the session stopped, by the fault
abbrev pub StopsBy : List Event → Scene → Scene → SessionFault → Type 0
StopsBy events first last (faults.LogEdit index) = IsAtLogEdit events index first last
StopsBy events first last faults.OutOfMemory = IsCutShort events first last

-- all events were run with these answers, or the session stopped
abbrev pub Ran : {T : Type 0} → List Event → Scene → List Answer → Scene → Result T SessionFault → Type 0
Ran events first answers last (Ok x) = HasRun events (length events) first answers last
Ran events first answers last (Err fault) = StopsBy events first last fault

-- the same of a result that holds the answers
abbrev pub RanWhole : List Event → Scene → Scene → Result (Vec Answer Global) SessionFault → Type 0
RanWhole events first last (Ok answers) = HasRun events (length events) first answers.items last
RanWhole events first last (Err fault) = StopsBy events first last fault
