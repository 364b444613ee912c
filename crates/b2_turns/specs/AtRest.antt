-- What holds where no step can be looked at: the schedule has what the run has.
use Rattle.std.specs.Prelude.{List}
use Rattle.b2_host.specs.declared.children.ChildEvent.{ChildEvent}
use Rattle.b2_host.specs.Disks.{Disk}
use Rattle.b2_runs.specs.Staleness.{Update}
use Rattle.b2_runs.specs.LogCourses.{LacksNoLine}
use Rattle.b2_sched.specs.Joins.{IsTold, IsToldStarts, IsAtRest}
use Rattle.b2_reach.specs.declared.sights.Sights.{Sights}
use Rattle.b2_looks.specs.declared.looks.Looks.{Looks}

-- The schedule was told what the run has, and what was judged and started. Nothing is to be looked at or judged, and the log
-- lacks no line that is called for.
pub record IsToldAtRest (u : Update) (events : List ChildEvent) (disk : Disk) (s : Sights) (l : Looks) : Type 0 where
  pub told : IsTold u events l.board.sched
  pub starts : IsToldStarts u events l.board.sched
  pub rest : IsAtRest l.board.sched
  pub lacks_none : LacksNoLine u events disk.now s.journal
