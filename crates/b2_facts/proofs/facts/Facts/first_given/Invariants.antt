use Rattle.std.proofs.Common.{◌≡◌, take}
use Rattle.std.specs.Option.{IfSome}
use Rattle.std.specs.List.{AllByRecursion}
use Rattle.b2_facts.specs.Growth.{Learns, OfNone}
use Rattle.b2_facts.specs.Truth.{StaysTrue}
use Rattle.b2_facts.specs.Asks.{IsMissingAt}
use Rattle.b2_facts.proofs.facts.Facts.first_given.Given as goal

-- at none of the paths so far a file is given
abbrev pub invariant-loop-path : goal.invariant-loop-path
invariant-loop-path g l = record {
  same : g.F.Files.outside l.files ≡ g.F.Files.outside l.fn.files;
  found : l.self.found ≡ l.fn.self.found;
  missing : AllByRecursion (IsMissingAt l.self) (take l.path-index l.tried);
  learns : Learns l.plan.steps l.plan.roots OfNone l.fn.self l.self;
  told : IfSome (g.F.Files.outside l.fn.files).disk (λ disk. StaysTrue l.plan.steps l.plan.roots disk.now l.fn.self l.self);
}
