use Rattle.std.proofs.Common.{◌≡◌, length}
use Rattle.std.specs.Str.{IsUtf8}
use Rattle.b2_base.specs.Bytes.{HasNoZero}
use Rattle.jam_expand.specs.Modifiers.{modified_after}
use Rattle.jam_expand.proofs.modifiers.add_all.Given as goal

abbrev pub invariant-letters : goal.invariant-letters
invariant-letters l = record { read : modified_after 0 l.rest l.modifiers ≡ modified_after 0 l.text l.fn.modifiers; no_zero : HasNoZero l.rest; utf8 : IsUtf8 l.rest }

abbrev pub decreases-letters : goal.decreases-letters
decreases-letters l = length l.rest
