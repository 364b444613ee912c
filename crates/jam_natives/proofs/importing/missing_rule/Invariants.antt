use Rattle.std.proofs.Common.{◌≡◌, drop}
use Rattle.jam_natives.specs.Rows.{missing_rule}
use Rattle.jam_natives.proofs.importing.missing_rule.Given as goal

abbrev pub invariant-loop-name : goal.invariant-loop-name
invariant-loop-name l = missing_rule l.world.now.rules l.owner (drop l.name-index l.names) ≡ missing_rule l.world.now.rules l.owner l.names
