use Rattle.std.proofs.Common.{◌≡◌, Ok}
use Rattle.b2_facts.specs.Facts.{IsAbout}
use Rattle.b2_looks.specs.Looks.{looks_ahead}
use Rattle.b2_explain.specs.Surveys.{AreSurveyed, IsStill, SurveyTold}
use Rattle.b2_explain.proofs.survey.Survey.look_all.Given as goal

-- steps were looked at
abbrev pub invariant-loop-number : goal.invariant-loop-number
invariant-loop-number g l = record {
  still : IsStill (g.F.Files.outside l.fn.files) (g.F.Files.outside l.files);
  faults : (g.F.Files.outside l.files).faults ≡ (g.F.Files.outside l.fn.files).faults;
  about : IsAbout l.plan.steps l.plan.roots l.self.sights.facts;
  surveyed : AreSurveyed l.plan l.all 0 l.self;
  told : SurveyTold {T = Unit {0}} l.plan l.all (g.F.Files.outside l.fn.files) l.fn.self (g.F.Files.outside l.files) l.self (Ok tt);
}

abbrev pub decreases-loop-number : goal.decreases-loop-number
decreases-loop-number g l = looks_ahead l.self.board.sched
