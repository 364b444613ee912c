use Rattle.std.proofs.Common.{◌≡◌, Ok}
use Rattle.b2_facts.specs.Facts.{IsAbout}
use Rattle.b2_looks.specs.Looks.{AreLooks, LooksOn, IsOfUnstarted, LooksAtFiles, looks_ahead}
use Rattle.b2_looks.specs.UnderWay.{LookTold}
use Rattle.b2_looks.proofs.looks.Looks.look_each.Given as goal

-- steps were looked at
abbrev pub invariant-loop-number : goal.invariant-loop-number
invariant-loop-number g l = record {
  files : LooksAtFiles {T = Unit {0}} l.plan.steps l.plan.roots (IsOfUnstarted l.fn.self.board.sched l.sights.facts) l.fn.sights (g.F.Files.outside l.fn.files) l.sights (g.F.Files.outside l.files) (Ok tt);
  about : IsAbout l.plan.steps l.plan.roots l.sights.facts;
  way : l.self.way ≡ l.fn.self.way;
  looks : AreLooks l.plan 0 l.sights.facts l.self;
  on : LooksOn l.fn.self l.self;
  told : LookTold {T = Unit {0}} l.plan (g.F.Files.outside l.fn.files) l.fn.self l.fn.sights (g.F.Files.outside l.files) l.self l.sights (Ok tt);
}

abbrev pub decreases-loop-number : goal.decreases-loop-number
decreases-loop-number g l = looks_ahead l.self.board.sched
