use Rattle.std.proofs.Common.{◌≡◌, ◌-◌, ◌^◌, length}
use Rattle.b2_declaring_calls.specs.Directories.{directories}
use Rattle.b2_base.specs.Segments.{here}
use Rattle.b2_project_walk.specs.WalkParts.{stand, walked, ArePassed, Leads}
use Rattle.b2_project_walk.proofs.walk.WalkState.load_named.Given as goal

abbrev pub invariant-named : goal.invariant-named
invariant-named g l = record {
  walked : Leads (walked l.words) (walked l.words) (stand l.fn.self l.fn.turns (g.F.Files.outside l.fn.files)) (stand l.self l.turns (g.F.Files.outside l.files));
  named : ArePassed l.self.visits l.self.named.passed l.self.named.dirs.items;
  last : ArePassed l.self.visits l.last.passed l.last.dirs.items;
  dirs : l.last.dirs.items ≡ directories here l.words;
}

abbrev pub decreases-named : goal.decreases-named
decreases-named g l = 2 ^ 64 - length l.self.visits
