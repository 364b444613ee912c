use Rattle.std.proofs.Common.{◌≡◌, Ok}
use Rattle.b2_host.specs.OutsideLaws.{Keeps}
use Rattle.b2_runs.specs.Moments.{Moment}
use Rattle.b2_update.specs.Moments.{moment}
use Rattle.b2_update.specs.Going.{IsGoing, SameWay, Rests, unended, stale}
use Rattle.b2_update.specs.InRun.{Tells}
use Rattle.b2_update.proofs.starting.start_all.Given as goal

-- since the call began the update has gone on, and none of its steps has ended
abbrev pub invariant-loop : goal.invariant-loop
invariant-loop g l = record {
  way : SameWay l.fn.run l.run;
  going : (entry : Moment) → IsGoing l.fn.plan entry (moment (g.H.Files.outside l.fn.host) (g.S.Sink.output l.fn.out)) l.fn.run → IsGoing l.fn.plan entry (moment (g.H.Files.outside l.host) (g.S.Sink.output l.out)) l.run;
  rests : Rests l.run;
  kept : Keeps (g.H.Files.outside l.fn.host) (g.H.Files.outside l.host);
  unended : unended l.run.looks.board.sched ≡ unended l.fn.run.looks.board.sched;
  told : Tells l.fn.plan g.H.Children.made (moment (g.H.Files.outside l.fn.host) (g.S.Sink.output l.fn.out)) l.fn.run (moment (g.H.Files.outside l.host) (g.S.Sink.output l.out)) l.run (Ok (tt {0}));
}

-- fewer steps are stale with each start
abbrev pub decreases-loop : goal.decreases-loop
decreases-loop g l = stale l.run.looks.board.sched
