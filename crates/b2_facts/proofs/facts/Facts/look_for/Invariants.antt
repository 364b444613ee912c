use Rattle.std.proofs.Common.{◌≡◌, take, ℕ, List}
use Rattle.std.specs.Option.{IfSome}
use Rattle.b2_plan.specs.Sources.{Include}
use Rattle.b2_facts.specs.Growth.{Learns, OfNone}
use Rattle.b2_facts.specs.Truth.{StaysTrue}
use Rattle.b2_facts.specs.Asks.{IsLooking, AreFirsts}
use Rattle.b2_facts.proofs.facts.Facts.look_for.Given as goal

-- the includes so far were looked for
abbrev pub invariant-loop-at : goal.invariant-loop-at
invariant-loop-at g l = record {
  same : g.F.Files.outside l.files ≡ g.F.Files.outside l.fn.files;
  found : l.self.found ≡ l.fn.self.found;
  firsts : (path : List ℕ) (dirs : List (List ℕ)) (includes : List Include) → IsLooking l.fn.self l.list l.number path dirs includes → AreFirsts l.self dirs path (take l.at includes) l.targets;
  learns : Learns l.plan.steps l.plan.roots OfNone l.fn.self l.self;
  told : IfSome (g.F.Files.outside l.fn.files).disk (λ disk. StaysTrue l.plan.steps l.plan.roots disk.now l.fn.self l.self);
}
