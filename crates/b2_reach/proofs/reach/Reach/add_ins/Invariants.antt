use Rattle.std.proofs.Common.{◌≡◌, ℕ, List, Some, take}
use Rattle.std.specs.List.{Contains}
use Rattle.b2_host.specs.Disks.{Folder}
use Rattle.b2_facts.specs.Facts.{IsNumber, path_at}
use Rattle.b2_facts.specs.Growth.{Learns, OfNone}
use Rattle.b2_facts.specs.Truth.{StaysTrue}
use Rattle.b2_reach.specs.Reaches.{IsNumberOf}
use Rattle.b2_reach.specs.Steps.{AreMarked, Adds, ChangesMembers}
use Rattle.b2_reach.proofs.reach.Reach.add_ins.Given as goal

-- the inputs so far are members
abbrev pub invariant-loop-path : goal.invariant-loop-path
invariant-loop-path l = record {
  sights : l.sights ≡ record l.fn.sights { facts = l.sights.facts; marks = l.sights.marks };
  same : ChangesMembers l.fn.self l.self;
  numbered : (n : ℕ) → Contains l.self.members n → IsNumber l.sights.facts n;
  adds : Adds (IsNumberOf l.sights.facts l.ins) l.fn.self.members l.self.members;
  whole : (path : List ℕ) → Contains (take l.path-index l.ins) path → (n : ℕ) × Contains l.self.members n × (path_at l.sights.facts n ≡ Some path);
  marked : AreMarked l.sights.marks l.self.members;
  learns : Learns l.plan.steps l.plan.roots OfNone l.fn.sights.facts l.sights.facts;
  told : (now : Folder) → StaysTrue l.plan.steps l.plan.roots now l.fn.sights.facts l.sights.facts;
}
