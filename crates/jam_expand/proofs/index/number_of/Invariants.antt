use Rattle.std.proofs.Common.{◌≡◌, ◌<◌, ◌^◌, take}
use Rattle.jam_expand.specs.Indexes.{value_of}
use Rattle.jam_expand.proofs.index.number_of.Given as goal

abbrev pub invariant-loop-digit : goal.invariant-loop-digit
invariant-loop-digit l = record { value : l.value ≡ value_of (take l.digit-index l.digits); small : l.value < 10 ^ l.digit-index }
