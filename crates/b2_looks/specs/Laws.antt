-- Laws of what an update knows of its steps and their files.
use Rattle.std.specs.Prelude.{List}
use Rattle.b2_host.specs.declared.children.ChildEvent.{ChildEvent}
use Rattle.b2_host.specs.Disks.{Disk}
use Rattle.b2_plan.specs.Plans.{Apart}
use Rattle.b2_runs.specs.Staleness.{Update}
use Rattle.b2_runs.specs.Soundness.{IsAllowedChange}
use Rattle.b2_reach.specs.declared.sights.Sights.{Sights}
use Rattle.b2_reach.specs.Sightings.{IsTrueSight}
use Rattle.b2_looks.specs.UnderWay.{LooseAreBlank}

-- What is known stays true while steps that run or failed change their outputs.
abbrev pub SightStaysTrue : Type 0
SightStaysTrue = (u : Update) (events : List ChildEvent) (before after : Disk) (s : Sights)
    → Apart u.build.steps u.build.roots
    → IsAllowedChange u events before after → LooseAreBlank events s.facts → IsTrueSight u before s
    → IsTrueSight u after s
