use Rattle.std.proofs.Common.{Ok}
use Rattle.b2_host.specs.OutsideLaws.{Keeps}
use Rattle.b2_runs.specs.Moments.{Moment}
use Rattle.b2_update.specs.Moments.{moment}
use Rattle.b2_update.specs.Going.{IsGoing, SameWay, Rests, NoneStarts, unended}
use Rattle.b2_update.specs.InRun.{Tells}
use Rattle.b2_update.proofs.working.work.Given as goal

-- since the call began the update has gone on, and nothing is to be looked at or can start
abbrev pub invariant-loop-run : goal.invariant-loop-run
invariant-loop-run g l = record {
  way : SameWay l.fn.run l.run;
  kept : Keeps (g.H.Files.outside l.fn.host) (g.H.Files.outside l.host);
  going : (entry : Moment) → IsGoing l.fn.plan entry (moment (g.H.Files.outside l.fn.host) (g.S.Sink.output l.fn.out)) l.fn.run → IsGoing l.fn.plan entry (moment (g.H.Files.outside l.host) (g.S.Sink.output l.out)) l.run;
  rests : Rests l.run;
  none : NoneStarts l.run;
  told : Tells l.fn.plan g.H.Children.made (moment (g.H.Files.outside l.fn.host) (g.S.Sink.output l.fn.out)) l.fn.run (moment (g.H.Files.outside l.host) (g.S.Sink.output l.out)) l.run (Ok (tt {0}));
}

-- each wait brings a step to its end
abbrev pub decreases-loop-run : goal.decreases-loop-run
decreases-loop-run g l = unended l.run.looks.board.sched
