-- Calls of the program that are calls of a session: those of the build command, and those of plain Jam mode.
use Rattle.std.specs.Prelude.{◌≡◌, List, [], IfSome}
use Rattle.b2_host.specs.Disks.{IsConsistent}
use Rattle.b2_host.specs.OutsideLaws.{Keeps}
use Rattle.b2_runs.specs.Moments.{Moment}
use Rattle.b2_runs.specs.UpdateAnswers.{LeavesNone}
use Rattle.b2_drain.specs.Drains.{Made}
use Rattle.b2_command_line.specs.Words.{Word}
use Rattle.b2_top.specs.declared.answer.Answer.{Answer}
use Rattle.b2_top.specs.Answered.{IsAnsweredFor}
use Rattle.b2_top.specs.Askings.{Asking, build_of, jam_of}
use Rattle.b2_sessions.specs.BuildCalls.{IsCall}

-- A call that asks for this and keeps what it promises is one of a session. No child ran before it. The visible files are consistent
-- before and after it, as they are at every host.
abbrev pub AreCalls : Asking → Type 0
AreCalls asking = (made : Made) (answer : Answer) (before after : Moment) → before.host.children.running ≡ []
    → IfSome before.host.disk IsConsistent → IfSome after.host.disk IsConsistent
    → IsAnsweredFor made asking before after answer → LeavesNone before.host after.host → Keeps before.host after.host
    → IsCall made asking answer before after

-- so is each call of `run_b2`
abbrev pub BuildsAreCalls : Type 0
BuildsAreCalls = (words : List Word) → AreCalls (build_of words)

-- so is each call of `run_jam`
abbrev pub JamBuildsAreCalls : Type 0
JamBuildsAreCalls = (words : List Word) → AreCalls (jam_of words)
