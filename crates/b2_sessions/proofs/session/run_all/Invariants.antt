use Rattle.b2_memory.specs.Hosts.{told_outside}
use Rattle.b2_sessions.specs.Courses.{HasRun, IsReady}
use Rattle.b2_sessions.specs.Scenes.{scene_of}
use Rattle.b2_sessions.proofs.session.run_all.Given as goal

-- the events before this one were run, no child runs, and no wait may fail
abbrev pub invariant-loop-index : goal.invariant-loop-index
invariant-loop-index g l = record {
  ran : HasRun l.events l.index (scene_of l.fn.host (g.S.Sink.output l.fn.out)) l.answers.items (scene_of l.host (g.S.Sink.output l.out));
  ready : IsReady (told_outside l.host);
}
