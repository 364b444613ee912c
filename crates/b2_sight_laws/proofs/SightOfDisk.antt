-- A consistent disk, as it is rightly seen.
use Rattle.std.proofs.Common.{Option, Some, None, refl}
use Rattle.std.specs.Option.{IfSome}
use Rattle.std.specs.Str.{chars}
use Rattle.b2_host.specs.Disks.{Disk, IsConsistent}
use Rattle.jam_meaning.specs.Settings.{IsSight}
use Rattle.b2_sight_laws.specs.Sights.{HasMatching, CanBeSeen, HasSight}
use Rattle.b2_sight_laws.proofs.EveryMatchIsDecided.{match_told}
use Rattle.b2_sight_laws.proofs.NamesAtPaths.{listed}

pub has_matching : HasMatching
has_matching = ((λ pattern text. (match_told (chars text) (chars pattern)).0), λ pattern text. (match_told (chars text) (chars pattern)).1)

pub has_sight : HasSight
has_sight disk consistent = (record { folder = disk.now; names = λ dir. (listed disk consistent dir).0; matching = has_matching.0 }, right, refl)
  where
    right : IsSight (record { folder = disk.now; names = λ dir. (listed disk consistent dir).0; matching = has_matching.0 })
    right = record { lists = λ dir. (listed disk consistent dir).1; matches = has_matching.1 }

pub where_seen : (disk : Option Disk) → IfSome disk IsConsistent → IfSome disk CanBeSeen
where_seen None consistent = tt
where_seen (Some disk) consistent = has_sight disk consistent
