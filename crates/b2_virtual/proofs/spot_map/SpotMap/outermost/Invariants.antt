use Rattle.b2_virtual.proofs.OutermostSpotsCoverTheOthers.{Sifting}
use Rattle.b2_virtual.proofs.spot_map.SpotMap.outermost.Given as goal

-- the texts so far are sifted
abbrev pub invariant-loop-text : goal.invariant-loop-text
invariant-loop-text l = Sifting l.self l.made l.text-iterator
