-- Laws of how an update ends.
use Rattle.std.specs.Prelude.{List, []}
use Rattle.b2_host.specs.declared.children.ChildEvent.{ChildEvent}
use Rattle.b2_host.specs.Disks.{Disk}
use Rattle.b2_host.specs.Outside.{Read}
use Rattle.b2_log.specs.declared.line.LogLine.{LogLine}
use Rattle.b2_runs.specs.Staleness.{Update}
use Rattle.b2_runs.specs.Runs.{IsRun}
use Rattle.b2_runs.specs.Outcomes.{LeavesNothing}
use Rattle.b2_runs.specs.Afterwards.{NoneDoneOlder}
use Rattle.b2_runs.specs.LogCourses.{LacksNoLine}
use Rattle.b2_runs.specs.UpdateAnswers.{AnswerTold}
use Rattle.b2_reach.specs.declared.sights.Sights.{Sights}
use Rattle.b2_looks.specs.UnderWay.{IsUnderWay}
use Rattle.b2_endings.specs.declared.ending.Ending.{Ending}
use Rattle.b2_endings.specs.Endings.{answer_of_ending, EndingIsTrue}

-- What an update leaves is what its answer says: where its run has ended, no line is lacking in the log, no output of a
-- failed step stands, and no output that was made is older than what it was made of.
abbrev pub EndingIsAnswer : Type 0
EndingIsAnswer = (u : Update) (events : List ChildEvent) (first : List LogLine) (reads : List Read) (disk : Disk)
    (s : Sights) (ending : Ending)
    → IsUnderWay u events first reads disk s → IsRun u events → LacksNoLine u events disk.now s.journal
    → LeavesNothing u events disk.now [] → NoneDoneOlder u events disk.now → EndingIsTrue u events ending
    → AnswerTold u events disk.now (answer_of_ending ending)
