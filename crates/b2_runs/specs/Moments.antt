use Rattle.std.specs.Prelude.{◌≡◌, Some}
use Rattle.b2_host.specs.Disks.{Disk}
use Rattle.b2_host.specs.Outside.{Outside}
use Rattle.b2_host.specs.Output.{Output}

-- A host and a sink at one moment, as their callers see them.
pub record Moment : Type 0 where
  pub host : Outside
  pub out : Output

-- these are the files, which are visible
abbrev pub Shows : Moment → Disk → Type 0
Shows moment disk = moment.host.disk ≡ Some disk

-- the moment with these files
abbrev pub with_disk : Disk → Moment → Moment
with_disk disk moment = record moment { host = record moment.host { disk = Some disk } }

-- the two moments are one, but for what may go wrong with the host
abbrev pub IsSameButRisks : Moment → Moment → Type 0
IsSameButRisks before after = after ≡ record before { host = record before.host { risks = after.host.risks } }
